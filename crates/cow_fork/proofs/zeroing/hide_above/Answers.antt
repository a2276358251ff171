use Rattle.cow_fork.proofs.Words.{is_some, sym, ap, ◌∙◌, none_is, some_same, subst, ◌≡◌, with_pair, Node, Slot, Some, slots_of, tree_of}
use Rattle.cow_fork.proofs.HolderLaws.{held-shown}
use Rattle.cow_fork.proofs.zeroing.hide_above.Goals as goal

pub returns-then-has_frame : goal.returns-then-has_frame
returns-then-has_frame c = record {
  same = λ none.
      let held = held-shown (tree_of c.args.arena.now c.args.lists.now) c.args.leaf.0 c.args.page _ c.above_with-above.ensures in
      let some = sym c.has_frame.ensures ∙ c.if-has_frame.true in
      let no = ap is_some (held ∙ none) in
      absurd (cc);
  marked = λ some node at. (
    subst (λ (n : Node). slots_of c.insert.new.self ≡ with_pair (slots_of c.args.lists.now) n.list.0 c.args.page (Some Slot.Zero)) (some_same (sym c.look.ensures ∙ at))
        c.insert.ensures.slots,
    c.insert.ensures.spare,
  );
}

pub returns-else-has_frame-clause-marked : goal.returns-else-has_frame-clause-marked
returns-else-has_frame-clause-marked c = λ some.
    let held = held-shown (tree_of c.args.arena.now c.args.lists.now) c.args.leaf.0 c.args.page _ c.above_with-above.ensures in
    absurd (some (sym held ∙ none_is _ (sym c.has_frame.ensures ∙ c.if-has_frame.false)))
