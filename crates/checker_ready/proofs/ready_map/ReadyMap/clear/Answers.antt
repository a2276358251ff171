use Rattle.std.proofs.Common.{◌≡◌, ◌+◌, sym, ap, ◌∙◌, arith}
use Rattle.pair_map.specs.Maps.{values_of}
use Rattle.checker_ready.specs.Notes.{notes_of}
use Rattle.checker_ready.proofs.StampLaws.{none_is}
use Rattle.checker_ready.proofs.RowLaws.{dropped-done}
use Rattle.checker_ready.proofs.ready_map.ReadyMap.clear.Goals as goal

pub returns-else-is_some-clause-rows : goal.returns-else-is_some-clause-rows
returns-else-is_some-clause-rows c =
    let none = sym c.find.ensures ∙ none_is c.find.result (sym c.is_some.ensures ∙ c.if-is_some.false) in
    rw (← c.self.view_is) (dropped-done (notes_of c.self.inside) c.args.root.0 c.args.page (c.args.page + 1) (λ p low high.
    let same : p ≡ c.args.page = omega (arith, low, high) in
    ap (values_of c.self.inside.places c.args.root.0) same ∙ none))
