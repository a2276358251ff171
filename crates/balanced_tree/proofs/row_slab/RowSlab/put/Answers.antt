use Rattle.std.proofs.Common.{◌≡◌, ℕ, Some, ap, subst}
use Rattle.slab.specs.Slab.{Slab, ContainsKey, Updates, with_value}
use Rattle.slab.proofs.SlabLemmas.{Updates-with_value}
use Rattle.balanced_tree.proofs.row_slab.RowSlab.put.Goals as goal

-- the slab under the one that the caller sees is the same one
updates_same : {R : Type 0} {s t : Slab R} {p : ℕ} {x : R} → s ≡ t → ContainsKey t p → Updates t (with_value s p x) p (Some x)
updates_same {s = s} {p = p} {x} is = subst (λ t. ContainsKey t p → Updates t (with_value s p x) p (Some x)) is (Updates-with_value s p x)

pub returns-clause-updates : goal.returns-clause-updates
returns-clause-updates g c = updates_same c.self.view_is c.requires

pub returns-clause-capacity : goal.returns-clause-capacity
returns-clause-capacity g c = ap (λ s. s.capacity) c.self.view_is
