-- The steps of making a VMO, and a snapshot.
use Rattle.std.proofs.Common.{◌≡◌, ℕ, ◌⊎◌, arith}
use Rattle.vm_model.specs.Contents.Content.{Content}
use Rattle.vm_model.specs.Contents.Sharing.{snapshotted}
use Rattle.vm_model.proofs.SharingLaws.{page_seen-out}

-- where a snapshot sees no page, it makes no difference from where on
pub snapshotted-first : (c : Content) (v first start seen pages : ℕ) → (first ≡ start) ⊎ (seen ≡ 0)
    → snapshotted c v first seen pages ≡ snapshotted c v start seen pages
unfolding snapshotted
snapshotted-first = grind (arith, page_seen-out)
