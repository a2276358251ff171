-- VMOs that leave the machine, since nothing keeps them any more.
use Rattle.std.specs.Prelude.{ℕ, zero, suc, if◌then◌else◌, Option, None, Some}
use Rattle.std.specs.Option.{option_map}
use Rattle.vm_model.specs.Contents.Sharing.{only}
use Rattle.vm_model.specs.Naming.Names.{Lineage}
use Rattle.vm_model.specs.Machine.State.{State, is_live, lineage_of}

-- The first live VMO among a parent, the parent's parent, and so on. Parents are older than their children, so for a
-- child with the koid `steps` at most `steps` of them are looked at.
unfoldable pub first_live : ℕ → State → Option ℕ → Option ℕ
first_live zero s parent = None
first_live (suc steps) s None = None
first_live (suc steps) s (Some p) = if is_live s p then Some p else first_live steps s (lineage_of s p).parent

-- the lineage of the VMO v once the VMOs that are not live have left: its parent is the first live one
unfoldable pub lineage_left : State → ℕ → Lineage → Lineage
lineage_left s v l = record l { parent = first_live v s l.parent }

-- the state without the VMOs that are not live
unfoldable pub pruned : State → State
pruned s = record s {
  content = only s.content (is_live s);
  lineage = λ v. if is_live s v then option_map (lineage_left s v) (s.lineage v) else None;
}
