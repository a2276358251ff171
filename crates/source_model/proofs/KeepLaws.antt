-- Laws of what a step keeps: a good state leads to a good state, and at most one koid is given.
use Rattle.std.proofs.Common.{◌≡◌, ◌≢◌, ℕ, ◌+◌, ◌<◌, ◌≤◌, inl, inr, not, List, [], ◌∷◌, length, Option, None, Some, refl, sym, ap, subst, ◌∙◌, arith}
use Rattle.std.specs.Prelude.{IsSome, is_some, unwrap_or}
use Rattle.std.specs.List.{AllByRecursion}
use Rattle.std.proofs.lemmas.Bool.{cases_eq}
use Rattle.vm_base.specs.declared.limits.TheConstants.{PAGE, SOURCE_PAGES}
use Rattle.vm_base.specs.Entries.{with_key, without_key}
use Rattle.vm_base.specs.Pages.{replaced}
use Rattle.vm_base.proofs.EntryLaws.{some_is, some_same, with_key-same, with_key-other, with_key-cases, without_key-some}
use Rattle.vm_model.specs.Contents.Content.{Content, Page, IsGood, pages_of}
use Rattle.vm_model.specs.Contents.Writing.{Piece}
use Rattle.vm_model.proofs.ContentLaws.{IsGood-part, own_pages}
use Rattle.vm_model.proofs.WritingLaws.{IsKept, IsKept-same, IsKept-trans}
use Rattle.source_model.specs.declared.backing.Backing.{Backing}
use Rattle.source_model.specs.declared.link.Link.{Link}
use Rattle.source_model.specs.Sources.{backing_text}
use Rattle.source_model.specs.Links.{page_below, walked}
use Rattle.source_model.specs.State.{SourceState, state_over, Fills, FillsEach, pushed}
use Rattle.source_model.specs.Living.{LivesBy, IsLive, by_name, by_child, StaysAt, Leaves}
use Rattle.source_model.specs.Good.{IsGoodSources, IsGoodBacking, IsGoodLink, IsTextOf}
use Rattle.source_model.proofs.LinkLaws.{AreSmaller, below-some, below-same, text-exists, text-only}
use Rattle.source_model.proofs.FilledLaws.{pushed-here, Written-filled, Fills-from}

-- new is good, and has at most one koid more than old
pub record KeepsSources (old new : SourceState) : Type 0 where
  pub good : IsGoodSources new
  pub next : new.content.next ≤ old.content.next + 1

pub KeepsSources-same : (old new : SourceState) → IsGoodSources old → new ≡ old → KeepsSources old new
KeepsSources-same old new good e = subst (KeepsSources old) (sym e) (record { good = good; next = omega arith })

-- ---- states over a content, names, backings and links

pub smaller_of : (s : SourceState) → IsGoodSources s → AreSmaller s.link
smaller_of s good v l e = (good.link v l e).smaller

-- a good state is that over its content, names, backings and links
pub state_is : (s : SourceState) → IsGoodSources s → s ≡ state_over s.content s.names s.backing s.link
state_is s good = λ i. record s { text = λ v p. text-only s good.text (smaller_of s good) v p i }

-- pages that change, while each text stays what look-ups find
pub kept_good : (s : SourceState) (d : Content) (text : ℕ → ℕ → List ℕ) → IsGoodSources s → IsGood d → d.count ≡ s.content.count
    → ((v p : ℕ) → text v p ≡ walked d s.backing (page_below d s.link) v p) → IsGoodSources (record s { content = d; text = text })
unfolding pages_of
kept_good s d text good fine count texts =
    let at : (v : ℕ) → d.count v ≡ s.content.count v = λ v. ap (λ (f : ℕ → Option ℕ). f v) count in
    let pages : (v : ℕ) → unwrap_or (d.count v) 0 ≡ unwrap_or (s.content.count v) 0 = λ v. ap (λ (o : Option ℕ). unwrap_or o 0) (at v) in
    let is : record s { content = d; text = text } ≡ state_over d s.names s.backing s.link = λ i. record s { content = d; text = λ v p. texts v p i } in
    record {
      content = fine;
      counts = λ v n e. good.counts v n (sym (at v) ∙ e);
      live = λ v h. good.live v (ap is_some (sym (at v)) ∙ h);
      known = λ n v e. ap is_some (at v) ∙ good.known n v e;
      once = good.once;
      either = λ v h. good.either v (ap is_some (sym (at v)) ∙ h);
      others = λ v e. good.others v (sym (at v) ∙ e);
      backing = λ v b e. let was = good.backing v b e in record { kind = was.kind; seen = omega (arith, was.seen, pages v); inside = was.inside };
      link = λ v l e.
          let was = good.link v l e in
          record {
            smaller = was.smaller;
            vmo = ap is_some (at l.parent.0) ∙ was.vmo;
            seen = omega (arith, was.seen, pages v);
            inside = λ some. omega (arith, was.inside some, pages l.parent.0);
          };
      text = subst IsTextOf (sym is) (text-exists d s.names s.backing s.link (smaller_of s good));
    }

-- ---- pages that are filled

-- pages were filled: the state is good, and nothing but pages and texts changed
pub record Filled (old new : SourceState) : Type 0 where
  pub good : IsGoodSources new
  pub kept : IsKept old.content new.content

pub one_filled : (s new : SourceState) (part : Piece) → IsGoodSources s → part.page < pages_of s.content part.koid → part.at + length part.bytes ≤ PAGE
    → Fills s part new → Filled s new
one_filled s new part good h fits fills =
    let smaller = smaller_of s good in
    let c = s.content in
    let d = new.content in
    let whole : List ℕ = pushed s part part.koid part.page in
    let is = pushed-here s part ∙ ap (λ (xs : List ℕ). replaced xs part.at part.bytes) (text-only s good.text smaller part.koid part.page) in
    let done = Fills-from c d s.backing s.link smaller part.koid part.page part.at part.bytes whole good.content h fits is fills.content s.names in
    let kept = (Written-filled c d s.backing s.link smaller part.koid part.page part.at part.bytes whole good.content h fits is fills.content).kept in
    record {
      good = subst IsGoodSources (sym fills.rest) (kept_good s d (pushed s part) good kept.good kept.count
          (λ v p. ap (λ (x : SourceState). pushed x part v p) (state_is s good) ∙ sym (ap (λ (x : SourceState). x.text v p) done.rest)));
      kept = kept;
    }

-- a piece lies in a page of its VMO
abbrev pub IsInside : (ℕ → ℕ) → Piece → Type 0
IsInside pages part = (part.page < pages part.koid) × (part.at + length part.bytes ≤ PAGE)

pub each_filled : (s new : SourceState) (parts : List Piece) (pages : ℕ → ℕ) → IsGoodSources s → ((w : ℕ) → pages_of s.content w ≡ pages w)
    → AllByRecursion (IsInside pages) parts → FillsEach s parts new → Filled s new
each_filled s new [] pages good same inside fills =
    subst (Filled s) (sym fills) (record { good = good; kept = IsKept-same s.content s.content good.content refl })
each_filled s new (part ∷ parts) pages good same inside fills =
    let step = one_filled s fills.0 part good (omega (arith, inside.0.0, same part.koid)) inside.0.1 fills.1 in
    let rest = each_filled fills.0 new parts pages step.good (λ w. step.kept.pages w ∙ same w) inside.1 fills.2 in
    record { good = rest.good; kept = IsKept-trans s.content fills.0.content new.content step.kept rest.kept }

-- ---- a VMO more

-- what lives, lives where a name and a VMO came that were not there
live_more : (names : ℕ → Option ℕ) (link links : ℕ → Option Link) (name k v : ℕ) → names name ≡ None → link k ≡ None → ((w : ℕ) → w ≢ k → links w ≡ link w)
    → LivesBy names link v → LivesBy (with_key names name k) links v
live_more names link links name k v closed fresh same (by_name n u e) =
    by_name n u (with_key-other names name k n (λ here. absurd (let none = ap names here ∙ closed in cc)) ∙ e)
live_more names link links name k v closed fresh same (by_child w u l e f live) =
    by_child w u l (same w (λ here. absurd (let none = ap link here ∙ fresh in cc)) ∙ e) f (live_more names link links name k w closed fresh same live)

module _ (s : SourceState) (good : IsGoodSources s) (d : Content) (name pages : ℕ) (bs : ℕ → Option Backing) (ls : ℕ → Option Link) (closed : s.names name ≡ None) (fine : IsGood d)
    (new_count : d.count s.content.next ≡ Some pages) (other : (v : ℕ) → v ≢ s.content.next → d.count v ≡ s.content.count v) (few : pages ≤ SOURCE_PAGES)
    (same_backing : (v : ℕ) → v ≢ s.content.next → bs v ≡ s.backing v) (same_link : (v : ℕ) → v ≢ s.content.next → ls v ≡ s.link v)
    (one : is_some (bs s.content.next) ≡ not (is_some (ls s.content.next)))
    (fine_backing : (b : Backing) → bs s.content.next ≡ Some b → IsGoodBacking d s.content.next b)
    (fine_link : (l : Link) → ls s.content.next ≡ Some l → IsGoodLink d s.content.next l) (smaller : AreSmaller ls) where
  abbrev next_koid : ℕ
  next_koid = s.content.next

  older : (v : ℕ) → IsSome (s.content.count v) → v ≢ next_koid
  older v h same = let there = some_is (s.content.count v) h in let below = (good.content.koids v there.0 there.1).1 in omega (arith, below, same)

  was_there : (v : ℕ) → v ≢ next_koid → IsSome (d.count v) → IsSome (s.content.count v)
  was_there v apart h = ap is_some (sym (other v apart)) ∙ h

  none_yet : s.content.count next_koid ≡ None
  none_yet = go (s.content.count next_koid) refl where
    go : (o : Option ℕ) → s.content.count next_koid ≡ o → s.content.count next_koid ≡ None
    go None e = e
    go (Some n) e = absurd (older next_koid (ap is_some e) refl)

  same_pages : (v : ℕ) → v ≢ next_koid → pages_of d v ≡ pages_of s.content v
  unfolding pages_of
  same_pages v apart = ap (λ (o : Option ℕ). unwrap_or o 0) (other v apart)

  pub entered : IsGoodSources (state_over d (with_key s.names name next_koid) bs ls)
  entered = record {
    content = fine;
    counts = λ v n e. elim (cases_eq v next_koid) [
      | inl same ↦
          let is : pages ≡ n = some_same (sym new_count ∙ (ap (λ (k : ℕ). d.count k) (sym same) ∙ e)) in omega (arith, few, is)
      | inr apart ↦ good.counts v n (sym (other v apart) ∙ e)
    ];
    live = λ v h. elim (cases_eq v next_koid) [
      | inl same ↦ by_name name v (with_key-same s.names name next_koid ∙ ap (λ (k : ℕ). Some k) (sym same))
      | inr apart ↦ live_more s.names s.link ls name next_koid v closed (good.others next_koid none_yet).1 same_link (good.live v (was_there v apart h))
    ];
    known = λ n v e. elim (with_key-cases s.names name next_koid n v e) [
      | inl new ↦ ap is_some (ap (λ (k : ℕ). d.count k) (sym new.1) ∙ new_count)
      | inr was ↦ let there = good.known n v was.1 in ap is_some (other v (older v there)) ∙ there
    ];
    once = λ n m v e f. elim (with_key-cases s.names name next_koid n v e) [
      | inl new ↦ elim (with_key-cases s.names name next_koid m v f) [
        | inl also ↦ new.0 ∙ sym also.0
        | inr was ↦ absurd (older v (good.known m v was.1) (sym new.1))
      ]
      | inr was ↦ elim (with_key-cases s.names name next_koid m v f) [
        | inl new ↦ absurd (older v (good.known n v was.1) (sym new.1))
        | inr also ↦ good.once n m v was.1 also.1
      ]
    ];
    either = λ v h. elim (cases_eq v next_koid) [
      | inl same ↦ ap (λ (k : ℕ). is_some (bs k)) same ∙ (one ∙ ap (λ (k : ℕ). not (is_some (ls k))) (sym same))
      | inr apart ↦ ap is_some (same_backing v apart) ∙ (good.either v (was_there v apart h) ∙ ap (λ (o : Option Link). not (is_some o)) (sym (same_link v apart)))
    ];
    others = λ v e. elim (cases_eq v next_koid) [
      | inl same ↦ absurd (let some = ap (λ (k : ℕ). d.count k) same ∙ new_count in cc)
      | inr apart ↦ let was = good.others v (sym (other v apart) ∙ e) in (same_backing v apart ∙ was.0, same_link v apart ∙ was.1)
    ];
    backing = λ v b e. elim (cases_eq v next_koid) [
      | inl same ↦ subst (λ (k : ℕ). IsGoodBacking d k b) (sym same) (fine_backing b (ap bs (sym same) ∙ e))
      | inr apart ↦
          let was = good.backing v b (sym (same_backing v apart) ∙ e) in
          record { kind = was.kind; seen = omega (arith, was.seen, same_pages v apart); inside = was.inside }
    ];
    link = λ v l e. elim (cases_eq v next_koid) [
      | inl same ↦ subst (λ (k : ℕ). IsGoodLink d k l) (sym same) (fine_link l (ap ls (sym same) ∙ e))
      | inr apart ↦
          let was = good.link v l (sym (same_link v apart) ∙ e) in
          let parent = older l.parent.0 was.vmo in
          record {
            smaller = was.smaller;
            vmo = ap is_some (other l.parent.0 parent) ∙ was.vmo;
            seen = omega (arith, was.seen, same_pages v apart);
            inside = λ some. omega (arith, was.inside some, same_pages l.parent.0 parent);
          }
    ];
    text = text-exists d (with_key s.names name next_koid) bs ls smaller;
  }

-- ---- VMOs that leave

module _ (s new : SourceState) (good : IsGoodSources s) (name : ℕ) (leaves : Leaves (record s { names = without_key s.names name }) new) where
  abbrev old : SourceState
  old = record s { names = without_key s.names name }

  -- what lives stays
  stays_of : (v : ℕ) → IsLive old v → StaysAt old new v
  stays_of v live = elim (leaves.each v) [ inl both ↦ both.1 | inr gone ↦ absurd (gone.0 live) ]

  lives_on : (v : ℕ) → IsLive old v → IsLive new v
  lives_on v (by_name n u e) = by_name n u (ap (λ (f : ℕ → Option ℕ). f n) leaves.names ∙ e)
  lives_on v (by_child w u l e f live) = by_child w u l ((stays_of w live).link ∙ e) f (lives_on w live)

  -- a VMO that is there lived
  lived : (v : ℕ) → IsSome (new.content.count v) → IsLive old v
  lived v h = elim (leaves.each v) [ inl both ↦ both.0 | inr gone ↦ absurd (let none = ap is_some gone.1.count in cc) ]

  -- and so did one with a page that is held, or with a link
  lived_page : (v p : ℕ) (held : Page) → new.content.page v p ≡ Some held → IsLive old v
  lived_page v p held e = elim (leaves.each v) [ inl both ↦ both.0 | inr gone ↦ absurd (let none = gone.1.page p in cc) ]

  lived_link : (v : ℕ) (l : Link) → new.link v ≡ Some l → IsLive old v
  lived_link v l e = elim (leaves.each v) [ inl both ↦ both.0 | inr gone ↦ absurd (let none = gone.1.link in cc) ]

  same_size : (v : ℕ) → StaysAt old new v → pages_of new.content v ≡ pages_of s.content v
  unfolding pages_of
  same_size v stays = ap (λ (o : Option ℕ). unwrap_or o 0) stays.count

  same_below : (v p : ℕ) → StaysAt old new v → page_below new.content new.link v p ≡ page_below s.content s.link v p
  same_below v p stays = below-same s.content new.content s.link new.link v p (ap is_some (stays.page p)) stays.link

  held_before : (v p : ℕ) (held : Page) → new.content.page v p ≡ Some held → s.content.page v p ≡ Some held
  held_before v p held e = sym ((stays_of v (lived_page v p held e)).page p) ∙ e

  content_left : IsGood new.content
  content_left = IsGood-part s.content new.content good.content (record {
    frames = leaves.frames;
    first_koid = omega (arith, leaves.next, good.content.first_koid);
    counts = λ v n e.
        let was = sym (stays_of v (lived v (ap is_some e))).count ∙ e in
        let koids = good.content.koids v n was in
        (koids.0, omega (arith, koids.1, leaves.next), good.content.counts v n was);
    below = λ v p held e.
        let live = lived_page v p held e in
        omega (arith, good.content.below v p held (held_before v p held e), same_size v (stays_of v live));
    pages = own_pages s.content new.content held_before;
  })

  parent_lives : (v : ℕ) (l : Link) → IsLive old v → s.link v ≡ Some l → IsLive old l.parent.0
  parent_lives v l live e = by_child v l.parent.0 l e refl live

  text_left : IsTextOf new
  unfolding backing_text
  text_left = record {
    own = λ v p held e.
        let stays = stays_of v (lived_page v p held e) in
        stays.text p ∙ good.text.own v p held (sym (stays.page p) ∙ e);
    shown = λ v p at e.
        let on = below-some new.content new.link v p at e in
        let live = lived_link v on.by on.is in
        let stays = stays_of v live in
        let linked = sym stays.link ∙ on.is in
        let parent = subst (IsLive old) (sym on.koid) (parent_lives v on.by live linked) in
        stays.text p ∙ (good.text.shown v p at (sym (same_below v p stays) ∙ e) ∙ sym ((stays_of at.koid parent).text at.page));
    backed = λ v p free e. elim (leaves.each v) [
      | inl both ↦
          let stays = both.1 in
          stays.text p ∙ (good.text.backed v p (sym (stays.page p) ∙ free) (sym (same_below v p stays) ∙ e)
          ∙ ap (λ (o : Option Backing). backing_text o p) (sym stays.backing))
      | inr gone ↦ gone.1.text p ∙ sym (ap (λ (o : Option Backing). backing_text o p) gone.1.backing)
    ];
  }

  pub left_good : KeepsSources s new
  left_good = record {
    good = record {
      content = content_left;
      counts = λ v n e. good.counts v n (sym (stays_of v (lived v (ap is_some e))).count ∙ e);
      live = λ v h. lives_on v (lived v h);
      known = λ n v e.
          let named = sym (ap (λ (f : ℕ → Option ℕ). f n) leaves.names) ∙ e in
          let was = without_key-some s.names name n v named in
          ap is_some (stays_of v (by_name n v named)).count ∙ good.known n v was.1;
      once = λ n m v e f.
          good.once n m v (without_key-some s.names name n v (sym (ap (λ (g : ℕ → Option ℕ). g n) leaves.names) ∙ e)).1
          (without_key-some s.names name m v (sym (ap (λ (g : ℕ → Option ℕ). g m) leaves.names) ∙ f)).1;
      either = λ v h.
          let stays = stays_of v (lived v h) in
          ap is_some stays.backing ∙ (good.either v (ap is_some (sym stays.count) ∙ h) ∙ ap (λ (o : Option Link). not (is_some o)) (sym stays.link));
      others = λ v e. elim (leaves.each v) [
        | inl both ↦
            let was = good.others v (sym both.1.count ∙ e) in (both.1.backing ∙ was.0, both.1.link ∙ was.1)
        | inr gone ↦ (gone.1.backing, gone.1.link)
      ];
      backing = λ v b e. elim (leaves.each v) [
        | inl both ↦
            let was = good.backing v b (sym both.1.backing ∙ e) in
            record { kind = was.kind; seen = omega (arith, was.seen, same_size v both.1); inside = was.inside }
        | inr gone ↦ absurd (let none = gone.1.backing in cc)
      ];
      link = λ v l e.
          let live = lived_link v l e in
          let stays = stays_of v live in
          let linked = sym stays.link ∙ e in
          let was = good.link v l linked in
          let parent = stays_of l.parent.0 (parent_lives v l live linked) in
          record {
            smaller = was.smaller;
            vmo = ap is_some parent.count ∙ was.vmo;
            seen = omega (arith, was.seen, same_size v stays);
            inside = λ some. omega (arith, was.inside some, same_size l.parent.0 parent);
          };
      text = text_left;
    };
    next = omega (arith, leaves.next);
  }
