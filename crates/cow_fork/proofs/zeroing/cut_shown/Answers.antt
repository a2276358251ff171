use Rattle.cow_fork.proofs.Words.{is_some, sym, ap, ◌∙◌, tree_of}
use Rattle.cow_split.proofs.PartLaws.{part-cut}
use Rattle.cow_fork.proofs.HolderLaws.{held-shown}
use Rattle.cow_fork.proofs.LeafLaws.{leaf-is}
use Rattle.cow_fork.proofs.CutOffLaws.{cut-bare, cut-other}
use Rattle.cow_fork.proofs.ZeroLaws.{left-taken, left-exact, left-given}
use Rattle.cow_fork.proofs.zeroing.cut_shown.Goals as goal

pub returns-then-not-has_frame-clause-held : goal.returns-then-not-has_frame-clause-held
returns-then-not-has_frame-clause-held c =
    sym (sym c.has_frame.ensures ∙ c.if-not-has_frame.true)
    ∙ ap is_some (held-shown (tree_of c.args.arena.now c.args.lists.now) c.args.leaf.0 c.args.page _ c.above_with-found.ensures)

pub give_left-requires : goal.give_left-requires
give_left-requires c =
    let leaf = leaf-is c.args.arena.now c.args.lists.now c.args.leaf.0 c.args.page c.requires.page.node c.requires.exact.forest c.requires.page c.requires.page.visible.at in
    let bare = c.requires.bare c.requires.page.node c.requires.page.visible.at in
    left-taken leaf bare c.cut_holder-answer.ensures.cut c.args.frames.now _ c.requires.exact c.above_with-found.ensures

pub returns : goal.returns
returns c =
    let leaf = leaf-is c.args.arena.now c.args.lists.now c.args.leaf.0 c.args.page c.requires.page.node c.requires.exact.forest c.requires.page c.requires.page.visible.at in
    let bare = c.requires.bare c.requires.page.node c.requires.page.visible.at in
    let cut = c.cut_holder-answer.ensures.cut in
    record {
      held = sym (sym c.has_frame.ensures ∙ c.if-not-has_frame.false)
          ∙ ap is_some (held-shown (tree_of c.args.arena.now c.args.lists.now) c.args.leaf.0 c.args.page _ c.above_with-found.ensures);
      exact = λ is. left-exact leaf bare cut c.args.frames.now _ c.requires.exact c.above_with-found.ensures c.give_left.ensures.given c.give_left.ensures.kept;
      bare = λ is. cut-bare leaf bare cut;
      others = λ is. cut-other leaf bare cut _ c.requires.exact;
      part = λ is. part-cut _ _ _ _ _ _ leaf.forest _ leaf.visible bare cut;
      given = λ is. left-given leaf bare cut c.args.frames.now _ c.requires.exact c.above_with-found.ensures c.give_left.ensures.given c.give_left.ensures.kept
          c.give_left.ensures.links c.give_left.ensures.frames;
      spare = λ is. cut.spare;
      same = λ none. absurd (cc);
    }
