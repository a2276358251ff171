-- The steps of commands that make a VMO, by what the store and the tables have then.
use Rattle.std.proofs.Common.{◌≡◌, ℕ, ◌+◌, ◌/◌, ◌==◌, true, false, cond, nat_lt, Option, None, Some, refl, sym, ap, ◌∙◌}
use Rattle.std.specs.Prelude.{option_map}
use Rattle.vm_base.specs.Entries.{with_key}
use Rattle.vm_base.specs.Pages.{rounded}
use Rattle.vm_base.specs.declared.limits.TheConstants.{PAGE, SOURCE_BYTES, SOURCE_KIND_MAX}
use Rattle.vm_base.specs.declared.names.Koid.{Koid}
use Rattle.vm_base.specs.declared.names.VmoName.{VmoName}
use Rattle.vm_model.specs.declared.reply.Reply.TheVariants.{Done}
use Rattle.vm_model.specs.Contents.Content.{Content, pages_of, created}
use Rattle.vm_model.specs.Contents.Sharing.{snapshotted}
use Rattle.source_model.specs.declared.backing.Backing.{Backing}
use Rattle.source_model.specs.declared.command.SourceCommand.TheVariants.{Create, Child, Loose}
use Rattle.source_model.specs.declared.link.Link.{Link}
use Rattle.source_model.specs.State.{SourceState, state_over, seen_of, moved, with_source, with_child, with_loose}
use Rattle.source_model.specs.Commands.{SourceStep, is_aligned}
use Rattle.source_model.specs.Good.{IsGoodSources}
use Rattle.source_vm.proofs.StepLaws.{settled}
use Rattle.source_vm.proofs.RowLaws.{create_done, child_done, loose_done}
use Rattle.source_vm.proofs.AccessLaws.{unlinked_of}
use Rattle.source_vm.proofs.TextLaws.{snapshotted-first}

module _ (c d : Content) (names ns : ℕ → Option ℕ) (bs bs_new : ℕ → Option Backing) (ls ls_new : ℕ → Option Link) (name : VmoName) (v : ℕ)
    (good : IsGoodSources (state_over c names bs ls)) (closed : names name.0 ≡ None) (koid : v ≡ c.next) (names_is : ns ≡ with_key names name.0 v) where
  abbrev s : SourceState
  s = state_over c names bs ls

  pub create_step : (size kind seed pages : ℕ) (b : Backing) → b ≡ record { kind = kind; seed = seed; base = 0; seen = pages } → nat_lt SOURCE_KIND_MAX kind ≡ false → nat_lt SOURCE_BYTES (rounded size) ≡ false
      → pages ≡ rounded size / PAGE → d ≡ created c pages → bs_new ≡ with_key bs v b → ls_new ≡ ls → SourceStep s (Create name size kind seed) Done (state_over d ns bs_new ls_new)
  unfolding with_source
  create_step size kind seed pages b b_is known fits pages_is content_is bs_is ls_is =
      let m : Backing = record { kind = kind; seed = seed; base = 0; seen = pages } in
      let w = with_source s name.0 pages m in
      settled s w (Create name size kind seed) Done d ns bs_new ls_new good (create_done s name closed size kind seed pages w known fits pages_is refl)
      content_is (names_is ∙ ap (with_key names name.0) koid) (bs_is ∙ (ap (λ (k : ℕ). with_key bs k b) koid ∙ ap (with_key bs c.next) b_is)) ls_is

  module _ (parent : VmoName) (of : Koid) (named : names parent.0 ≡ Some of.0) (offset size start seen pages : ℕ) (aligned : is_aligned offset ≡ true)
      (fits : nat_lt SOURCE_BYTES (offset + rounded size) ≡ false) (start_is : start ≡ offset / PAGE) (pages_is : pages ≡ rounded size / PAGE)
      (seen_is : seen ≡ seen_of (pages_of c of.0) start pages) where
    pub child_step : (first : ℕ) (b m : Backing) → bs of.0 ≡ Some b → m ≡ moved start pages b → first ≡ cond (seen == 0) 0 start
        → d ≡ snapshotted c of.0 first seen pages → bs_new ≡ with_key bs v m → ls_new ≡ ls → SourceStep s (Child name parent offset size) Done (state_over d ns bs_new ls_new)
    unfolding with_child with_key
    child_step first b m backed m_is first_is content_is bs_is ls_is =
        let w = with_child s name.0 of.0 start pages in
        let made : w ≡ with_child s name.0 of.0 (offset / PAGE) (rounded size / PAGE) =
        ap (λ (n : ℕ). with_child s name.0 of.0 n pages) start_is ∙ ap (λ (n : ℕ). with_child s name.0 of.0 (offset / PAGE) n) pages_is in
        let back : Some (moved start pages b) ≡ option_map (moved start pages) (bs of.0) = ap (option_map (moved start pages)) (sym backed) in
        let unlinked = unlinked_of s of.0 b good (good.known parent.0 of.0 named) backed in
        settled s w (Child name parent offset size) Done d ns bs_new ls_new good (child_done s name closed parent of.0 named offset size aligned fits w unlinked made)
        (content_is ∙ (ap (λ (n : ℕ). snapshotted c of.0 n seen pages) first_is
        ∙ (snapshotted-first c of.0 start seen pages ∙ ap (λ (n : ℕ). snapshotted c of.0 start n pages) seen_is)))
        (names_is ∙ ap (with_key names name.0) koid)
        (bs_is ∙ (ap (λ (k : ℕ). with_key bs k m) koid ∙ (ap (with_key bs c.next) m_is ∙ λ i w. cond (w == c.next) (back i) (bs w)))) ls_is

    pub loose_step : d ≡ created c pages → bs_new ≡ bs → ls_new ≡ with_key ls v (record { parent = of; base = start; seen = seen })
        → SourceStep s (Loose name parent offset size) Done (state_over d ns bs_new ls_new)
    unfolding with_loose
    loose_step content_is bs_is ls_is =
        let w = with_loose s name.0 of.0 start pages in
        let made : w ≡ with_loose s name.0 of.0 (offset / PAGE) (rounded size / PAGE) =
        ap (λ (n : ℕ). with_loose s name.0 of.0 n pages) start_is ∙ ap (λ (n : ℕ). with_loose s name.0 of.0 (offset / PAGE) n) pages_is in
        settled s w (Loose name parent offset size) Done d ns bs_new ls_new good (loose_done s name closed parent of.0 named offset size aligned fits w made)
        content_is (names_is ∙ ap (with_key names name.0) koid) bs_is
        (ls_is ∙ (ap (λ (k : ℕ). with_key ls k (record { parent = of; base = start; seen = seen })) koid
        ∙ ap (λ (n : ℕ). with_key ls c.next (record { parent = of; base = start; seen = n })) seen_is))
