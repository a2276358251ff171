use Rattle.std.proofs.Common.{ap, ◌∙◌}
use Rattle.balanced_tree.proofs.PairLaws.{none-kept}
use Rattle.page_list.specs.Lists.{slots_of}
use Rattle.page_list.proofs.page_lists.PageLists.move_row.Goals as goal

pub insert-requires-clause-absent : goal.insert-requires-clause-absent
insert-requires-clause-absent c =
    ap (λ slots. slots c.args.to_list.0 c.args.to_page) c.remove-slot.ensures.slots
    ∙ none-kept (slots_of c.args.self.now) c.args.list.0 c.args.page c.args.to_list.0 c.args.to_page c.requires.to
