-- What a cut keeps follows from which rows it leaves, and what it answers.
use Rattle.cow_split.proofs.HolderLaws.{cut-exactly, cut-found_nothing, cut-last_viewer}
use Rattle.cow_split.proofs.cutting.cut.Goals as goal

pub returns-clause-exact : goal.returns-clause-exact
returns-clause-exact c =
    cut-exactly c.args.arena.now c.args.lists.now c.cut_holder.new.lists c.args.leaf.0 c.args.page c.cut_holder.result c.requires.forest c.requires.leaf c.cut_holder.ensures.cut

pub returns-clause-nothing : goal.returns-clause-nothing
returns-clause-nothing c =
    cut-found_nothing c.args.arena.now c.args.lists.now c.cut_holder.new.lists c.args.leaf.0 c.args.page c.cut_holder.result c.requires.forest c.requires.leaf c.cut_holder.ensures.cut

pub returns-clause-last : goal.returns-clause-last
returns-clause-last c = λ out in_use exact only tag.
    cut-last_viewer c.args.arena.now c.args.lists.now c.cut_holder.new.lists c.args.leaf.0 c.args.page c.cut_holder.result c.requires.forest c.requires.leaf c.cut_holder.ensures.cut
    out in_use exact only tag
