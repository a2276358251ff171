-- What a cut at a row does goes by who else sees the row.
use Rattle.cow_split.proofs.Words.{refl, sym, ap, ◌∙◌, subst, arith, some_same, slots_of, Node, Slots, HasRow, tree_of, HasCut, split_on}
use Rattle.cow_split.proofs.Words.{frame_left}
use Rattle.cow_arena.proofs.AlikeLaws.{with_pair-other}
use Rattle.cow_split.proofs.CutRowLaws.{cut-zero, cut-shared_row, cut-own_row, cut-unseen}
use Rattle.cow_split.proofs.cutting.cut_row.Goals as goal

pub returns-in_default-clause-seen : goal.returns-in_default-clause-seen
returns-in_default-clause-seen c = λ way.
    cut-zero c.args.arena.now c.args.lists.now c.args.lists.now c.args.leaf.0 c.args.own c.args.row.node.0 c.args.row.page c.args.row.side c.requires.forest way
    (omega arith) (omega arith) c.args.row.slot c.in_default.not-Frame c.requires.row refl

pub returns-then-reached_by_others-clause-seen : goal.returns-then-reached_by_others-clause-seen
returns-then-reached_by_others-clause-seen c = λ way.
    cut-shared_row c.args.arena.now c.args.lists.now c.args.lists.now c.args.leaf.0 c.args.own c.args.row.node.0 c.args.row.page c.args.row.side c.requires.forest way
    (omega arith) (omega arith) c.in-Frame.tag c.in-Frame.left c.in-Frame.right
    (subst (HasRow (tree_of c.args.arena.now c.args.lists.now) c.args.row.node.0 c.args.row.page) c.in-Frame.is c.requires.row)
    (c.reached_by_others.ensures.others c.if-reached_by_others.true way) refl

pub returns-clause-seen : goal.returns-clause-seen
returns-clause-seen c = λ way.
    subst (HasCut c.args.arena.now c.args.lists.now c.split.new.lists c.args.leaf.0 c.args.own) (sym (c.split.ensures.answer _ _ _ c.in-Frame.is))
    (cut-own_row c.args.arena.now c.args.lists.now c.split.new.lists c.args.leaf.0 c.args.own c.args.row.node.0 c.args.row.page c.args.row.side c.requires.forest way
    c.split.ensures.spare c.split.ensures.count c.in-Frame.tag c.in-Frame.left c.in-Frame.right
    (subst (HasRow (tree_of c.args.arena.now c.args.lists.now) c.args.row.node.0 c.args.row.page) c.in-Frame.is c.requires.row)
    c.node.result c.node.ensures (c.reached_by_others.ensures.nobody c.if-reached_by_others.false) (c.split.ensures.slots _ _ _ c.in-Frame.is))

pub returns-clause-unseen : goal.returns-clause-unseen
returns-clause-unseen c = λ out in_use exact unseen.
    let same = cut-unseen (tree_of c.args.arena.now c.args.lists.now) out in_use exact c.args.leaf.0 c.args.row.node.0 c.args.row.page c.args.row.side unseen
    (c.reached_by_others.ensures.nobody c.if-reached_by_others.false) c.in-Frame.tag c.in-Frame.left c.in-Frame.right
    (subst (HasRow (tree_of c.args.arena.now c.args.lists.now) c.args.row.node.0 c.args.row.page) c.in-Frame.is c.requires.row) c.node.result c.node.ensures in
    (c.split.ensures.slots _ _ _ c.in-Frame.is ∙ same.0, ap frame_left (c.split.ensures.answer _ _ _ c.in-Frame.is) ∙ same.1)

pub returns-clause-others : goal.returns-clause-others
returns-clause-others c = λ above at l apart q.
    ap (λ (x : Slots). x l q) (c.split.ensures.slots _ _ _ c.in-Frame.is)
    ∙ with_pair-other (slots_of c.args.lists.now) c.node.result.list.0 c.args.row.page (split_on c.args.row.side c.in-Frame.tag c.in-Frame.left c.in-Frame.right) l q
    (λ list _. apart (list ∙ ap (λ (n : Node). n.list.0) (some_same (sym c.node.ensures ∙ at))))
