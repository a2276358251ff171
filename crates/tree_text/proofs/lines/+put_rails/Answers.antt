use Rattle.std.proofs.Common.{sym, arith}
use Rattle.tree_text.proofs.LineLaws.{rails-zero, rails-root, rails-more}
use Rattle.tree_text.proofs.lines.+put_rails.Goals as goal

pub returns-then-levels-eq0-clause-written : goal.returns-then-levels-eq0-clause-written
returns-then-levels-eq0-clause-written n c = rails-zero _ _ _ _ _ _ c.if-levels-eq0.true c.put.ensures.written c.rails_cut.ensures.text

pub returns-in_default-clause-written : goal.returns-in_default-clause-written
returns-in_default-clause-written n c = rails-root _ _ _ _ (sym c.in_default.ensures.place)

pub returns-clause-written : goal.returns-clause-written
returns-clause-written n c =
    rails-more _ _ _ _ c.in-Some.up _ _ _ (omega (arith, c.if-levels-eq0.false)) (sym c.in-Some.ensures.place) c.put-2.ensures.written
    c.put_rails-end.ensures.written c.rail.ensures.text
