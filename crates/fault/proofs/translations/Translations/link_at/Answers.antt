use Rattle.std.proofs.Common.{sym}
use Rattle.fault.specs.inside.Lists.{place_in_space}
use Rattle.fault.proofs.translations.Translations.link_at.Goals as goal

pub returns-then-is_link_of : goal.returns-then-is_link_of
returns-then-is_link_of c =
    rw (← c.self.view_is) (sym (c.self.invariant.placed.place c.args.link (place_in_space c.args.root.0 c.args.page) (c.is_link_of.ensures c.if-is_link_of.true)))
