use Rattle.std.proofs.Common.{sym, ◌∙◌, arith}
use Rattle.page_store.specs.Flat.{flat_of}
use Rattle.page_store.proofs.RowLaws.{third_where, no_third_where, unseen, koid_low}
use Rattle.page_store.proofs.flat_store.FlatStore.is_seen_by_third.Goals as goal

pub has_third-requires-clause-first : goal.has_third-requires-clause-first
has_third-requires-clause-first c = omega (arith, koid_low (flat_of c.self.inside) c.self.invariant.flat c.args.v.0 c.args.page c.in-Some.tag (sym c.find.ensures ∙ c.in-Some.is))

pub returns-in-Some-clause-some : goal.returns-in-Some-clause-some
returns-in-Some-clause-some c =
    rw (← c.self.view_is) (λ third. third_where (flat_of c.self.inside) c.self.invariant.flat c.args.v.0 c.args.page c.in-Some.tag (sym c.find.ensures ∙ c.in-Some.is)
    c.args.w.0 (c.has_third.ensures.some third))

pub returns-in-Some-clause-none : goal.returns-in-Some-clause-none
returns-in-Some-clause-none c =
    rw (← c.self.view_is) (λ none. no_third_where (flat_of c.self.inside) c.self.invariant.flat c.args.v.0 c.args.page c.in-Some.tag (sym c.find.ensures ∙ c.in-Some.is)
    c.args.w.0 (c.has_third.ensures.none none))

pub returns-in-None-clause-none : goal.returns-in-None-clause-none
returns-in-None-clause-none c =
    rw (← c.self.view_is) (λ none. unseen (flat_of c.self.inside) c.self.invariant.flat c.args.v.0 c.args.page c.args.w.0 (sym c.find.ensures ∙ c.in-None.is))
