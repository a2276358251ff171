-- Laws of good machines under other numbers of frames: they are good.
use Rattle.std.proofs.Common.{◌<◌, length, sym, ap, subst, ◌∙◌}
use Rattle.vm_model.specs.Contents.Content.{Page, Content, pages_of, IsGood}
use Rattle.vm_model.specs.Machine.State.{State, is_live, lineage_of, IsGoodState}
use Rattle.vm_model.specs.Machine.Machine.{Machine, IsGoodMachine}
use Rattle.moving_model.specs.Renaming.{Renaming, KeepsFrom, content_renamed, state_renamed, machine_renamed}
use Rattle.moving_model.proofs.NumberLaws.{to_once, to_below}
use Rattle.moving_model.proofs.PageLaws.{sole-renamed}
use Rattle.moving_model.proofs.ChangeLaws.{renamed_held}

module _ (r : Renaming) where
  pub IsGood-renamed : (c : Content) → KeepsFrom r c.frames → IsGood c → IsGood (content_renamed r c)
  unfolding pages_of
  IsGood-renamed c keeps good = record {
    koids = good.koids;
    counts = good.counts;
    first_koid = good.first_koid;
    below = λ v p held e. let was = renamed_held r (c.page v p) held e in good.below v p was.0 was.1;
    whole = λ v p held e. let was = renamed_held r (c.page v p) held e in ap (λ (page : Page). length page.bytes) was.2 ∙ good.whole v p was.0 was.1;
    tags = λ v p held e.
        let was = renamed_held r (c.page v p) held e in
        subst (λ (page : Page). page.tag < c.frames) (sym was.2) (to_below r c.frames was.0.tag keeps (good.tags v p was.0 was.1));
    alike = λ v p w q held other e f same.
        let was = renamed_held r (c.page v p) held e in
        let too = renamed_held r (c.page w q) other f in
        ap (λ (page : Page). page.bytes) was.2
        ∙ (good.alike v p w q was.0 too.0 was.1 too.1 (to_once r was.0.tag too.0.tag (sym (ap (λ (page : Page). page.tag) was.2) ∙ (same ∙ ap (λ (page : Page). page.tag) too.2)))
        ∙ sym (ap (λ (page : Page). page.bytes) too.2));
    apart = λ v p q held other e f same.
        let was = renamed_held r (c.page v p) held e in
        let too = renamed_held r (c.page v q) other f in
        good.apart v p q was.0 too.0 was.1 too.1 (to_once r was.0.tag too.0.tag (sym (ap (λ (page : Page). page.tag) was.2) ∙ (same ∙ ap (λ (page : Page). page.tag) too.2)));
  }

  pub IsGoodState-renamed : (s : State) → KeepsFrom r s.content.frames → IsGoodState s → IsGoodState (state_renamed r s)
  unfolding pages_of lineage_of is_live
  IsGoodState-renamed s keeps good = record {
    content = IsGood-renamed s.content keeps good.content;
    names = λ n target e.
        let name = good.names n target e in
        (name.0, record { vmo = name.1.vmo; whole = name.1.whole; part = name.1.part; resize = name.1.resize });
    known = good.known;
    live = good.live;
    parents = good.parents;
    pins = λ n pin e.
        let fine = good.pins n pin e in
        (fine.0, record { vmo = fine.1.vmo; few = fine.1.few; inside = fine.1.inside; alone = λ p low high. sole-renamed r s.content pin.koid p ∙ fine.1.alone p low high });
    spaces = record { regions = good.spaces.regions; caps = good.spaces.caps; entries = good.spaces.entries; vmos = good.spaces.vmos };
  }

  pub IsGoodMachine-renamed : (m : Machine) → KeepsFrom r m.state.content.frames → IsGoodMachine m → IsGoodMachine (machine_renamed r m)
  unfolding pages_of
  IsGoodMachine-renamed m keeps good = record {
    state = IsGoodState-renamed m.state keeps good.state;
    ready = λ root p readiness e.
        let fine = good.ready root p readiness e in
        record { entry = fine.entry; is = fine.is; below = fine.below; alone = λ write. sole-renamed r m.state.content fine.entry.koid.0 fine.entry.page ∙ fine.alone write };
  }
