use Rattle.std.proofs.Common.{◌≡◌, false, ap, sym, subst, ◌∙◌}
use Rattle.pair_map.specs.Maps.{extents_of}
use Rattle.vm_model.specs.Space.Table.{has_entry}
use Rattle.vm_base.specs.declared.limits.TheConstants.{PAGES_END}
use Rattle.mapping_set.specs.inside.Taken.{pieces_in}
use Rattle.mapping_set.specs.Tables.{Mappings, table_of}
use Rattle.mapping_set.proofs.GapLaws.{no_entry-none}
use Rattle.mapping_set.proofs.mapping_set.MappingSet.last_of.Goals as goal

pub returns-in_err-first : goal.returns-in_err-first
returns-in_err-first c =
    rw c.from_residual.ensures (subst (λ (m : Mappings). has_entry (table_of m) c.args.root.0 c.args.region.0 0 PAGES_END ≡ false) c.self.view_is
    (no_entry-none _ c.self.invariant.pieces _ c.self.invariant.taken c.args.root.0 c.args.region.0 c.list_number.ensures.below.1
    (λ p. ap (λ n. pieces_in (extents_of c.self.inside.taken) n p) (sym c.list_number.ensures.number) ∙ c.in_err-first.ensures p)))
