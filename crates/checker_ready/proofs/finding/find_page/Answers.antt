use Rattle.std.proofs.Common.{sym, ◌∙◌, arith}
use Rattle.vm_model.proofs.ContentLaws.{pages_of-at}
use Rattle.page_store.specs.Flat.{flat_content}
use Rattle.checker_ready.proofs.AskLaws.{page_past, page_inside}
use Rattle.checker_ready.proofs.finding.find_page.Goals as goal

pub returns-then-entry-count : goal.returns-then-entry-count
returns-then-entry-count c =
    page_past (flat_content c.args.pages.now) _ _ _ _ (sym c.at.ensures.entry ∙ c.in-Some.is) (sym (c.contains.ensures tt) ∙ c.if-not-contains.false)
    c.count.ensures c.if-entry-count.true

pub returns : goal.returns
returns c = (
  page_inside (flat_content c.args.pages.now) _ _ _ _ (sym c.at.ensures.entry ∙ c.in-Some.is) (sym (c.contains.ensures tt) ∙ c.if-not-contains.false)
      c.count.ensures c.if-entry-count.false,
  record { is = sym c.at.ensures.entry ∙ c.in-Some.is; below = omega (arith, c.if-entry-count.false, pages_of-at (flat_content c.args.pages.now) _ _ c.count.ensures) },
)
