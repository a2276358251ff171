use Rattle.std.proofs.Common.{ap, sym, cond, ◌∙◌}
use Rattle.vmo_ops.proofs.NeedLaws.{need-one}
use Rattle.vmo_ops.proofs.owning.need_of.Goals as goal

pub returns-then-is_sole : goal.returns-then-is_sole
returns-then-is_sole g c =
    let one = need-one (g.P.PageStore.content c.args.store.now) c.args.v.0 c.args.first c.args.end
    c.if-end-first-eq1.true in
    sym (one ∙ ap (λ b. cond b 0 1) (sym c.is_sole.ensures ∙ c.if-is_sole.true))

pub returns-else-is_sole : goal.returns-else-is_sole
returns-else-is_sole g c =
    let one = need-one (g.P.PageStore.content c.args.store.now) c.args.v.0 c.args.first c.args.end
    c.if-end-first-eq1.true in
    sym (one ∙ ap (λ b. cond b 0 1) (sym c.is_sole.ensures ∙ c.if-is_sole.false))
