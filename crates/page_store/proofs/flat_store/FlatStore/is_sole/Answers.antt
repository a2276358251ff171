use Rattle.std.proofs.Common.{sym, ◌∙◌, arith}
use Rattle.page_store.specs.Flat.{flat_of}
use Rattle.page_store.proofs.RowLaws.{sole-is, unsole, koid_low}
use Rattle.page_store.proofs.flat_store.FlatStore.is_sole.Goals as goal

pub is_alone-requires : goal.is_alone-requires
is_alone-requires c = omega (arith, koid_low (flat_of c.self.inside) c.self.invariant.flat c.args.v.0 c.args.page c.in-Some.tag (sym c.find.ensures ∙ c.in-Some.is))

pub returns-in-Some : goal.returns-in-Some
returns-in-Some c =
    rw (← c.self.view_is) (sole-is (flat_of c.self.inside) c.self.invariant.flat c.args.v.0 c.args.page c.in-Some.tag (sym c.find.ensures ∙ c.in-Some.is)
    c.is_alone.result c.is_alone.ensures.alone c.is_alone.ensures.other)

pub returns-in-None : goal.returns-in-None
returns-in-None c = rw (← c.self.view_is) (unsole (flat_of c.self.inside) c.self.invariant.flat c.args.v.0 c.args.page (sym c.find.ensures ∙ c.in-None.is))
