use Rattle.tree_text.proofs.lines.+put_rails.Given as goal

abbrev pub decreases-put_rails : goal.decreases-put_rails
decreases-put_rails l = l.levels
