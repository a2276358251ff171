use Rattle.std.proofs.Common.{◌+◌}
use Rattle.fault.proofs.PlaceLaws.{places-read_only}
use Rattle.fault.proofs.translations.Translations.make_readonly.Goals as goal

pub returns-clause-at : goal.returns-clause-at
returns-clause-at c = places-read_only c.args.v.0 c.args.first (c.args.first + c.args.count) _ _ c.change_pages.ensures.at
