use Rattle.std.proofs.Common.{subst}
use Rattle.std.specs.Io.KnownBytes.{Appends}
use Rattle.std.proofs.KnownBytes.{Appends-nil}
use Rattle.tree_text.proofs.LineLaws.{tree-none}
use Rattle.tree_text.proofs.writing.write_tree.Goals as goal

pub returns-in-None-clause-text : goal.returns-in-None-clause-text
returns-in-None-clause-text g c =
    let sink = g.K.Sink.contents c.args.sink.now in
    subst (Appends sink sink) (tree-none c.args.form c.args.forest.now c.args.v.0 c.in-None.ensures.root) (Appends-nil sink)
