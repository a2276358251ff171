-- Of a hidden node someone below sees the row.
use Rattle.cow_merge.proofs.Words.{sym, ap, ◌∙◌, none_is, frame_in}
use Rattle.cow_merge.proofs.lifting.slot_in.Goals as goal

pub sides_reached-left-requires-clause-reached : goal.sides_reached-left-requires-clause-reached
sides_reached-left-requires-clause-reached c =
    c.requires.seen c.in-Frame.tag.0 (ap frame_in c.in-Frame.is) (none_is c.args.node.koid (sym c.is_some.ensures ∙ c.if-is_some.false))
