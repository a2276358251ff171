use Rattle.std.proofs.Common.{◌∙◌, sym}
use Rattle.source_vm.proofs.EvictLaws.{cleared-one, cleared-not}
use Rattle.source_vm.proofs.ranges.evict_page.Goals as goal

pub returns-then-is_clean-clause-content : goal.returns-then-is_clean-clause-content
returns-then-is_clean-clause-content g c =
    c.zero.ensures.zero ∙ cleared-one c.args.backing.now (g.P.PageStore.content c.args.store.now) c.args.v.0 c.args.page (sym c.is_clean.ensures ∙ c.if-is_clean.true)

pub returns-else-is_clean-clause-content : goal.returns-else-is_clean-clause-content
returns-else-is_clean-clause-content g c =
    cleared-not c.args.backing.now (g.P.PageStore.content c.args.store.now) c.args.v.0 c.args.page (sym c.is_clean.ensures ∙ c.if-is_clean.false)
