use Rattle.std.proofs.Common.{◌∙◌}
use Rattle.checks.proofs.WholeLaws.{below_whole, owned_one}
use Rattle.checks.proofs.calls.zeroing.own.Goals as goal

pub own-requires-clause-page : goal.own-requires-clause-page
own-requires-clause-page g c = below_whole _ _ c.args.v.0 c.args.page c.reserve.ensures.same c.requires.vmo c.requires.page

pub returns-clause-vmo : goal.returns-clause-vmo
returns-clause-vmo g c = (owned_one _ _ _ c.args.v.0 c.args.page c.own.result.0 c.reserve.ensures.same c.own.ensures.owns c.requires.page).count ∙ c.requires.vmo

pub returns-clause-held : goal.returns-clause-held
returns-clause-held g c = (owned_one _ _ _ c.args.v.0 c.args.page c.own.result.0 c.reserve.ensures.same c.own.ensures.owns c.requires.page).held
