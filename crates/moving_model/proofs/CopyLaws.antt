-- Laws of a snapshot that owns its copies of pinned pages: the pages of other VMOs keep their frames.
use Rattle.std.proofs.Common.{◌≡◌, ℕ, ◌+◌, ◌<◌, ◌≤◌, true, List, refl, ap, ◌∙◌, arith}
use Rattle.std.specs.Option.{option_map}
use Rattle.std.specs.List.{AllByRecursion}
use Rattle.vm_base.specs.declared.limits.TheConstants.{VMO_PAGES}
use Rattle.vm_model.specs.Contents.Content.{Page, Content, IsGood}
use Rattle.vm_model.specs.Contents.Owning.{VmoPage, OwnsEach, pages_at}
use Rattle.vm_model.specs.Contents.Sharing.{snapshotted}
use Rattle.vm_model.specs.Naming.Pins.{is_pinned}
use Rattle.vm_model.specs.declared.names.Target.{Target}
use Rattle.vm_model.specs.Space.Readiness.{frame_at}
use Rattle.vm_model.specs.Machine.State.{State, seen_pages, pinned_copies}
use Rattle.vm_model.proofs.ContentLaws.{pages_of-at}
use Rattle.vm_model.proofs.SharingLaws.{count-snapshotted_new, page-snapshotted_other, IsGood-snapshotted}
use Rattle.vm_model.proofs.KeepLaws.{seen_le}
use Rattle.moving_model.proofs.RowLaws.{OwnsFits, owns_rest, filter_fit, all_apart}

module _ (s : State) (target : Target) (start pages : ℕ) where
  -- the snapshot, and those of its pages that it owns
  abbrev pub snap : Content
  snap = snapshotted s.content target.koid.0 (target.first + start) (seen_pages s.content target start pages) pages

  abbrev pub copies : List VmoPage
  copies = pages_at s.content.next (pinned_copies s target start pages)

  pub frames-snap : snap.frames ≡ s.content.frames
  unfolding snapshotted
  frames-snap = refl

  pub snap_good : IsGood s.content → pages ≤ VMO_PAGES → IsGood snap
  snap_good good few = IsGood-snapshotted s.content target.koid.0 (target.first + start) (seen_pages s.content target start pages) pages good (seen_le s.content target start pages) few

  pub copies_fit : IsGood s.content → pages ≤ VMO_PAGES → OwnsFits snap copies
  copies_fit good few =
      let seen = seen_pages s.content target start pages in
      let count = pages_of-at snap s.content.next pages (count-snapshotted_new s.content target.koid.0 (target.first + start) seen pages) in
      filter_fit snap s.content.next 0 seen (λ q. is_pinned s.pins target.koid.0 (target.first + start + q)) (snap_good good few) (omega (arith, seen_le s.content target start pages, count))

  -- no copy is a page of another VMO
  pub no_copy : (w q : ℕ) → w < s.content.next → AllByRecursion (λ (a : VmoPage). w ≡ a.koid → q ≡ a.page → ⊥) copies
  no_copy w q low = all_apart s.content.next w q (pinned_copies s target start pages) (λ same. omega (arith, low, same))

  -- so it has the frame that it had
  pub copies_frames : IsGood s.content → pages ≤ VMO_PAGES → (x : Content) → OwnsEach snap copies x → (w q : ℕ) → w < s.content.next → frame_at x w q ≡ frame_at s.content w q
  copies_frames good few x owns w q low =
      owns_rest (λ w q. true) copies snap x w q (copies_fit good few) owns (no_copy w q low)
      ∙ ap (option_map (λ (page : Page). page.tag))
      (page-snapshotted_other s.content target.koid.0 (target.first + start) (seen_pages s.content target start pages) pages w q (λ same. omega (arith, low, same)))
