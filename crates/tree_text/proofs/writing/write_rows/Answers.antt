use Rattle.std.proofs.Common.{◌+◌, refl, sym, arith}
use Rattle.tree_text.proofs.RowLaws.{rows-next, rows-last, rows-end}
use Rattle.tree_text.proofs.PushLaws.{pushed-more, pushed-cut, pushed-all}
use Rattle.tree_text.proofs.writing.write_rows.Goals as goal

pub returns-in_default-push_row-clause-text : goal.returns-in_default-push_row-clause-text
returns-in_default-push_row-clause-text g c =
    pushed-cut _ _ _ _ _ _ _ c.loop-page.invariant.pushed
    (rows-next _ _ _ (c.in-Some.page + 1) _ c.in-Some.ensures (omega arith) refl (sym c.in-Some-find.ensures)) c.in_default-push_row.ensures.text

pub returns-in_default-checked_add-clause-text : goal.returns-in_default-checked_add-clause-text
returns-in_default-checked_add-clause-text g c =
    pushed-all _ _ _ _ (pushed-more _ _ _ _ _ _ _ c.loop-page.invariant.pushed
    (rows-next _ _ _ (c.in-Some.page + 1) _ c.in-Some.ensures (omega arith) refl (sym c.in-Some-find.ensures)) c.in-Ok.ensures.text)
    (rows-last _ _ (omega (arith, c.in_default-checked_add.ensures)))

pub loop-page-preserved : goal.loop-page-preserved
loop-page-preserved g c = record {
  pushed = pushed-more _ _ _ _ _ _ _ c.loop-page.invariant.pushed
      (rows-next _ _ _ c.in-Some-checked_add.after _ c.in-Some.ensures (omega arith) (omega (arith, c.in-Some-checked_add.ensures)) (sym c.in-Some-find.ensures))
      c.in-Ok.ensures.text;
  later = omega (arith, c.loop-page.invariant.later, c.push_row.ensures.cause.later);
}

pub returns-clause-text : goal.returns-clause-text
returns-clause-text g c = pushed-all _ _ _ _ c.loop-page.invariant.pushed (rows-end _ _ c.in_default.ensures)
