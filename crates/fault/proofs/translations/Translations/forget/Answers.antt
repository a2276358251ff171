use Rattle.std.proofs.Common.{◌+◌}
use Rattle.fault.specs.Table.{is_translation_of}
use Rattle.fault.proofs.PlaceLaws.{places-without}
use Rattle.fault.proofs.translations.Translations.forget.Goals as goal

pub returns-clause-at : goal.returns-clause-at
returns-clause-at c = places-without (is_translation_of c.args.v.0 c.args.first (c.args.first + c.args.count)) _ _ c.change_pages.ensures.at
