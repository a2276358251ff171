use Rattle.std.proofs.Common.{◌+◌, sym, ap, ◌∙◌, min, max, arith}
use Rattle.balanced_tree.specs.Row.{plain}
use Rattle.balanced_tree.proofs.PlainLaws.{refuted}
use Rattle.balanced_tree.proofs.Nodes.{node_of, standing-at, lower-left, lower-right, Stands-left, Stands-right}
use Rattle.balanced_tree.proofs.GapTrees.{extent_node, searched-passed, searched-left, searched-both}
use Rattle.balanced_tree.proofs.gaps.+gap_below.Goals as goal

pub gap_below-before-requires : goal.gap_below-before-requires
gap_below-before-requires g t c κs within =
    let f = g.R.TreeRow.functions in
    let law = g.met.R.TreeRow.lawful in
    let less = lower-left f law c.requires.standing c.in-Some.is c.row-here.ensures.row c.left.ensures in (
      omega (arith, less),
      (
        within.0,
        (
          within.1,
          Stands-left f law c.requires c.in-Some.is c.row-here.ensures.row
              c.left.ensures,
        ),
      ),
    )

pub gap_below-requires : goal.gap_below-requires
gap_below-requires g t c κs within =
    let f = g.R.TreeRow.functions in
    let law = g.met.R.TreeRow.lawful in
    let less = lower-right f law c.requires.standing c.in-Some.is c.row-here.ensures.row c.right.ensures in (
      omega (arith, less),
      (
        within.0,
        (
          within.1,
          Stands-right f law c.requires c.in-Some.is c.row-here.ensures.row
              c.right.ensures,
        ),
      ),
    )

pub returns-then-is_passed : goal.returns-then-is_passed
returns-then-is_passed g t c = λ tree low high first last h apart.
    let f = g.R.TreeRow.functions in
    let law = g.met.R.TreeRow.lawful in
    let e = g.R.ExtentRow.extents in
    let spans = g.met.R.ExtentRow.spanned in
    let m = node_of f law h c.in-Some.is c.row-here.ensures.row in
    let n = extent_node f e law spans h c.in-Some.is m apart c.span-span.ensures in
    let start = c.max.ensures in
    searched-passed f e law spans n c.args.from c.args.size c.args.limit (c.fits.ensures.0 c.if-not-fits.false)
    (c.is_passed.ensures.0 c.if-is_passed.true) (rw (← start) c.if_fits.ensures) c.row-here.ensures.step

pub returns-in-Some-before : goal.returns-in-Some-before
returns-in-Some-before g t c = λ tree low high first last h apart.
    let f = g.R.TreeRow.functions in
    let law = g.met.R.TreeRow.lawful in
    let e = g.R.ExtentRow.extents in
    let spans = g.met.R.ExtentRow.spanned in
    let m = node_of f law h c.in-Some.is c.row-here.ensures.row in
    let n = extent_node f e law spans h c.in-Some.is m apart c.span-span.ensures in
    let left = c.in-Some-before.ensures m.left low (f.rank m.row) first (f.rank (plain f c.row-here.result))
    (standing-at f (sym c.left.ensures) m.left_standing) n.apart.left in
    searched-left f e law spans n c.args.from c.args.size c.args.limit (c.fits.ensures.0 c.if-not-fits.false)
    (refuted c.is_passed.ensures.1 c.if-is_passed.false) c.row-here.ensures.step
    (c.min.ensures ∙ ap (min c.args.limit) c.rank.ensures) left

pub returns : goal.returns
returns g t c = λ tree low high first last h apart.
    let f = g.R.TreeRow.functions in
    let law = g.met.R.TreeRow.lawful in
    let e = g.R.ExtentRow.extents in
    let spans = g.met.R.ExtentRow.spanned in
    let m = node_of f law h c.in-Some.is c.row-here.ensures.row in
    let n = extent_node f e law spans h c.in-Some.is m apart c.span-span.ensures in
    let left = c.in_default-before.ensures m.left low (f.rank m.row) first (f.rank (plain f c.row-here.result))
    (standing-at f (sym c.left.ensures) m.left_standing) n.apart.left in
    let right = c.gap_below.ensures m.right (f.rank m.row + 1) high (e.end (plain f c.row-here.result)) last
    (standing-at f (sym c.right.ensures) m.right_standing) n.apart.right in
    searched-both f e law spans n c.args.from c.args.size c.args.limit (c.fits.ensures.0 c.if-not-fits.false)
    (refuted c.is_passed.ensures.1 c.if-is_passed.false) c.row-here.ensures.step
    (c.min.ensures ∙ ap (min c.args.limit) c.rank.ensures) left (c.max-2.ensures ∙ ap (max c.args.from) c.end.ensures)
    right
