use Rattle.std.proofs.Common.{◌≡◌, Some, refl, ap, ◌∙◌}
use Rattle.balanced_tree.specs.Pairs.{with_pair}
use Rattle.pair_map.specs.Maps.{values_of}
use Rattle.mapping_set.specs.declared.piece.Piece.{Piece}
use Rattle.mapping_set.specs.Tables.{Mappings}
use Rattle.mapping_set.proofs.PartLaws.{restricted-set, restricted-table}
use Rattle.mapping_set.proofs.BorderLaws.{begins_there, back-behind, back-kept}
use Rattle.mapping_set.proofs.mapping_set.MappingSet.restrict_piece.Goals as goal

pub invariant_of-self : goal.invariant_of-self
invariant_of-self c =
    restricted-set _ c.self.invariant _ c.self.view_is c.args.root.0 c.in-Some.last c.in-Some.piece c.in-Some.ensures.is c.args.perm c.with_perm.result c.with_perm.ensures
    (record { pieces = c.replace.new.self; taken = c.self.inside.taken }) c.replace.ensures.values refl

pub returns-clause-table : goal.returns-clause-table
returns-clause-table c =
    restricted-table _ c.self.invariant _ c.self.view_is c.args.root.0 c.in-Some.last c.in-Some.piece c.in-Some.ensures.is c.args.perm c.with_perm.result c.with_perm.ensures
    (record { pieces = c.replace.new.self; taken = c.self.inside.taken }) c.replace.ensures.values c.args.at
    (begins_there _ c.args.root.0 c.args.at c.in-Some.last c.in-Some.piece c.in-Some.ensures c.requires.begins c.requires.some)

replaced : (c : goal.After-replace) → values_of c.replace.new.self ≡ with_pair (values_of c.args.self.now.pieces) c.args.root.0 c.in-Some.last (Some c.with_perm.result)
replaced c = c.replace.ensures.values ∙ ap (λ (m : Mappings). with_pair (values_of m.pieces) c.args.root.0 c.in-Some.last (Some c.with_perm.result)) c.self.view_is

pub returns-clause-begins : goal.returns-clause-begins
returns-clause-begins c =
    back-behind _ c.args.root.0 c.args.at c.in-Some.last c.in-Some.piece c.in-Some.ensures _ c.with_perm.result
    (ap (λ (y : Piece). y.first) c.with_perm.ensures) (replaced c)

pub returns-clause-ends : goal.returns-clause-ends
returns-clause-ends c =
    back-kept _ c.args.root.0 c.args.at c.in-Some.last c.in-Some.piece c.in-Some.ensures _ c.with_perm.result
    (ap (λ (y : Piece). y.first) c.with_perm.ensures) (replaced c) c.args.end c.requires.ends
