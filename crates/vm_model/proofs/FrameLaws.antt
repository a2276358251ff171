-- Laws of pages that keep their frames: a page that is sole stays so where it has the frame that it had.
use Rattle.std.proofs.Common.{◌≡◌, ℕ, Bool, true, Option, None, Some, refl, sym, ap, ◌∙◌}
use Rattle.std.specs.Prelude.{is_some}
use Rattle.std.specs.Option.{option_map}
use Rattle.vm_model.specs.Contents.Content.{Page, Content, sole, created, IsGood}
use Rattle.vm_model.specs.Contents.Sharing.{only}
use Rattle.vm_model.specs.Contents.Zeroing.{zeroed, resized}
use Rattle.vm_model.specs.Space.Readiness.{frame_at}
use Rattle.vm_model.proofs.ContentLaws.{sole_held}
use Rattle.vm_model.proofs.SharingLaws.{page-only_held}
use Rattle.vm_model.proofs.SoleLaws.{sole-same_page}
use Rattle.vm_model.proofs.WritingLaws.{KeepsPages}
use Rattle.vm_model.proofs.ZeroesLaws.{KeepsOwn}
use Rattle.vm_model.proofs.ZeroingLaws.{page-zeroed_some, page-resized_some}

-- each page that is sole and keeps its frame stays sole
abbrev pub KeepsAlone : (c d : Content) → Type 0
KeepsAlone c d = (w q : ℕ) → sole c w q ≡ true → frame_at d w q ≡ frame_at c w q → sole d w q ≡ true

-- the frame of a page
abbrev frame_of : Option Page → Option ℕ
frame_of = option_map (λ (held : Page). held.tag)

-- a page that was held is held still where it keeps its frame
same_frame_held : (o now : Option Page) (held : Page) → o ≡ Some held → frame_of now ≡ frame_of o → (page : Page) × (now ≡ Some page)
same_frame_held None now held e same = absurd cc
same_frame_held (Some was) None held e same = absurd cc
same_frame_held (Some was) (Some page) held e same = (page, refl)

-- so it is with a sole page
still_held : (c d : Content) (w q : ℕ) → sole c w q ≡ true → frame_at d w q ≡ frame_at c w q → (page : Page) × (d.page w q ≡ Some page)
still_held c d w q alone same = let held = sole_held c w q alone in same_frame_held (c.page w q) (d.page w q) held.0 held.1 same

-- where sole pages stay so
pub KeepsAlone-pages : (c d : Content) → KeepsPages (λ w q. true) c d → KeepsAlone c d
KeepsAlone-pages c d keeps w q alone same = keeps.alone w q refl alone

-- where pages stay so that are zero or sole
pub KeepsAlone-own : (c d : Content) → KeepsOwn c d → KeepsAlone c d
KeepsAlone-own c d keeps w q alone same = keeps.own w q (λ held. alone) (ap is_some (still_held c d w q alone same).1)

-- where each page that is held now was held before
KeepsAlone-part : (c d : Content) → IsGood c → ((w q : ℕ) (held : Page) → d.page w q ≡ Some held → c.page w q ≡ Some held) → KeepsAlone c d
KeepsAlone-part c d good from w q alone same =
    let now = still_held c d w q alone same in sole-same_page c d w q good from (now.1 ∙ sym (from w q now.0 now.1)) alone

-- a new VMO
pub KeepsAlone-created : (c : Content) (pages : ℕ) → IsGood c → KeepsAlone c (created c pages)
unfolding created
KeepsAlone-created c pages good = KeepsAlone-part c (created c pages) good (λ w q held e. e)

-- pages that become zero
pub KeepsAlone-zeroed : (c : Content) (v first end : ℕ) → IsGood c → KeepsAlone c (zeroed c v first end)
KeepsAlone-zeroed c v first end good = KeepsAlone-part c (zeroed c v first end) good (λ w q held e. (page-zeroed_some c v first end w q held e).0)

-- another size
pub KeepsAlone-resized : (c : Content) (v pages : ℕ) → IsGood c → KeepsAlone c (resized c v pages)
KeepsAlone-resized c v pages good = KeepsAlone-part c (resized c v pages) good (page-resized_some c v pages)

-- VMOs that leave
pub KeepsAlone-only : (c : Content) (stays : ℕ → Bool) → IsGood c → KeepsAlone c (only c stays)
KeepsAlone-only c stays good = KeepsAlone-part c (only c stays) good (λ w q held e. (page-only_held c stays w q held e).1)
