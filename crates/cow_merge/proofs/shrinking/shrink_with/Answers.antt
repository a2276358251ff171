-- The pages past the new end are out of sight, so that the window and the count may lose them.
use Rattle.cow_merge.proofs.Words.{sym, subst, ◌∙◌, some_same, nodes_of, IsVisible}
use Rattle.cow_merge.proofs.ShrinkLaws.{shrinking-of, narrowed-ready, counted-nodes, shrunk}
use Rattle.cow_merge.proofs.shrinking.shrink_with.Goals as goal

pub set_count-requires : goal.set_count-requires
set_count-requires c =
    let leaf = shrinking-of c.args.arena.now c.args.leaf.0 c.args.count c.requires.leaf in
    narrowed-ready c.args.arena.now c.narrow.new.arena c.narrow.new.arena c.args.leaf.0 c.args.count leaf.node leaf.visible
    (c.narrow.ensures.nodes leaf.node leaf.visible.at)

pub returns : goal.returns
returns c =
    let leaf = shrinking-of c.args.arena.now c.args.leaf.0 c.args.count c.requires.leaf in
    record {
      kept = shrunk c.args.arena.now c.narrow.new.arena c.set_count.new.self c.args.leaf.0 c.args.count leaf.node leaf.visible
          (c.narrow.ensures.nodes leaf.node leaf.visible.at) c.args.lists.now c.leave_out.new.lists c.args.frames.now c.leave_out.new.frames leaf.few
          (c.leave_out.ensures.left leaf.node leaf.visible.at) c.leave_out.ensures.lost c.set_count.ensures.nodes
          (c.set_count.ensures.lists ∙ c.narrow.ensures.lists) c.set_count.ensures.forest;
      part = c.leave_out.ensures.lost.keeps;
      nodes = λ node at. counted-nodes c.args.arena.now c.narrow.new.arena c.set_count.new.self c.args.leaf.0 c.args.count node
          (subst (IsVisible (nodes_of c.args.arena.now) c.args.leaf.0) (some_same (sym leaf.visible.at ∙ at)) leaf.visible) (c.narrow.ensures.nodes node at) c.set_count.ensures.nodes;
      hidden = c.set_count.ensures.hidden ∙ c.narrow.ensures.hidden;
      visible = c.set_count.ensures.visible ∙ c.narrow.ensures.visible;
    }
