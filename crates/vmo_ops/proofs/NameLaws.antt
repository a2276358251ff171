-- What a name of a good state stands for.
use Rattle.std.specs.Prelude.{IsSome}
use Rattle.vm_model.specs.Contents.Content.{Content}
use Rattle.vm_model.specs.declared.names.Target.{Target}
use Rattle.vm_model.specs.Machine.State.{State, IsGoodState}
use Rattle.page_store.proofs.NameLaws.{IsInside-good}
use Rattle.page_store.specs.Names.{IsInside}
use Rattle.vmo_table.specs.Table.{Vmos, names_of, with_vmos, IsNamed, AreParts}

-- and lies inside its VMO
pub named_inside : (s : State) (target : Target) → IsGoodState s → IsNamed s.names target → IsInside s.content target
named_inside s target good named = IsInside-good s named.0 target good named.1

-- and its VMO has a lineage
pub named_known : (s : State) (target : Target) → IsGoodState s → IsNamed s.names target
    → IsSome (s.lineage target.koid.0)
named_known s target good named = rw (good.known target.koid.0) (named_inside s target good named).vmo

-- ---- a content and a table that are parts of a good state

pub parts_inside : (c : Content) (t : Vmos) (target : Target) → AreParts c t → IsNamed (names_of t) target
    → IsInside c target
parts_inside c t target parts named = named_inside (with_vmos parts.rest c t) target parts.good named
