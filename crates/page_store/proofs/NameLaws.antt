-- Laws of what names stand for in a good content.
use Rattle.std.proofs.Common.{◌≡◌, ℕ, ◌+◌, ◌≤◌, Option, None, Some, refl, arith}
use Rattle.std.specs.Prelude.{unwrap_or}
use Rattle.vm_base.specs.declared.limits.TheConstants.{VMO_PAGES}
use Rattle.vm_model.specs.Contents.Content.{Content, pages_of, IsGood}
use Rattle.vm_model.proofs.ContentLaws.{pages_of_le}
use Rattle.vm_model.specs.declared.names.Target.{Target}
use Rattle.vm_model.specs.Machine.State.{State, name_pages, IsGoodName, IsGoodState}
use Rattle.page_store.specs.Names.{IsInside}

-- what a name of a good state stands for lies inside its VMO
pub IsInside-good : (s : State) (n : ℕ) (target : Target) → IsGoodState s → s.names n ≡ Some target
    → IsInside s.content target
IsInside-good s n target good e =
    let fine = (good.names n target e).1 in record { vmo = fine.vmo; pages = go fine target.limit refl } where
      go : IsGoodName s target → (o : Option ℕ) → target.limit ≡ o
          → target.first + unwrap_or o (pages_of s.content target.koid.0) ≤ pages_of s.content target.koid.0
      go fine None f = omega (arith, fine.whole f)
      go fine (Some m) f = (fine.part m f).2

-- what a name stands for ends at or below the greatest size of a VMO
pub name_few : (c : Content) (target : Target) → IsGood c → IsInside c target
    → target.first + name_pages c target ≤ VMO_PAGES
name_few c target good inside = omega (arith, inside.pages, pages_of_le c target.koid.0 good)
