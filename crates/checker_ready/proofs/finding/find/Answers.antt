use Rattle.std.proofs.Common.{◌+◌, ◌%◌, ◌<◌, ◌≤◌, [], ◌∷◌, refl, sym, ◌∙◌, arith}
use Rattle.vm_base.specs.declared.limits.TheConstants.{PAGE}
use Rattle.vm_model.proofs.RangeLaws.{touched-nil}
use Rattle.mapping_set.specs.Tables.{table_of}
use Rattle.page_store.specs.Flat.{flat_content}
use Rattle.checker_ready.specs.inside.Pages.{IsMappedInside}
use Rattle.checker_ready.proofs.AskLaws.{access_none, access_one, access_rest, access_denied, touches_one, touches_two, touches_from}
use Rattle.checker_ready.proofs.finding.find.Goals as goal

pub returns-then-len-eq0 : goal.returns-then-len-eq0
returns-then-len-eq0 c = (
  access_none (flat_content c.args.pages.now) c.args.right.0 (table_of c.args.maps.now c.args.region.0) c.args.addr c.args.len c.if-len-eq0.true,
  touches_from (IsMappedInside (flat_content c.args.pages.now) (table_of c.args.maps.now) c.args.region.0) c.args.addr c.args.len _ [] refl (rw (c.if-len-eq0.true) (touched-nil c.args.addr)) tt,
)

pub returns-in-Err : goal.returns-in-Err
returns-in-Err c =
    access_denied (flat_content c.args.pages.now) c.args.right.0 (table_of c.args.maps.now c.args.region.0) c.args.addr c.args.len c.page_of-page.result _ c.page_of-page.ensures
    (omega (arith, c.if-len-eq0.false)) c.requires.len c.in-Err.ensures

pub returns-then-in_page-len-le-PAGE : goal.returns-then-in_page-len-le-PAGE
returns-then-in_page-len-le-PAGE c =
    let some : 0 < c.args.len = omega (arith, c.if-len-eq0.false) in
    let fits : c.args.addr % PAGE + c.args.len ≤ PAGE = omega (arith, c.if-in_page-len-le-PAGE.true, c.in_page.ensures) in
    let one = touches_one c.args.addr c.args.len c.page_of-page.result c.page_of-page.ensures some fits in (
      rw one (c.in-Ok.ensures.0 ∙ access_one (flat_content c.args.pages.now) c.args.right.0 (table_of c.args.maps.now c.args.region.0) c.page_of-page.result),
      touches_from (IsMappedInside (flat_content c.args.pages.now) (table_of c.args.maps.now) c.args.region.0) c.args.addr c.args.len c.page_of-page.result (c.in-Ok.entry ∷ [])
          c.page_of-page.ensures one (c.in-Ok.ensures.1, tt),
    )

pub returns-in-Ok-find_page : goal.returns-in-Ok-find_page
returns-in-Ok-find_page c =
    let passes : PAGE < c.args.addr % PAGE + c.args.len = omega (arith, c.if-in_page-len-le-PAGE.false, c.in_page.ensures) in
    let two = touches_two c.args.addr c.args.len c.page_of-page.result c.page_of-page.ensures passes c.requires.len in (
      rw two (c.in-Ok-find_page.ensures.0 ∙ access_one (flat_content c.args.pages.now) c.args.right.0 (table_of c.args.maps.now c.args.region.0) (c.page_of-page.result + 1)
          ∙ access_rest (flat_content c.args.pages.now) c.args.right.0 (table_of c.args.maps.now c.args.region.0) c.page_of-page.result ((c.page_of-page.result + 1) ∷ []) (sym c.in-Ok.ensures.0)),
      touches_from (IsMappedInside (flat_content c.args.pages.now) (table_of c.args.maps.now) c.args.region.0) c.args.addr c.args.len c.page_of-page.result
          (c.in-Ok.entry ∷ c.in-Ok-find_page.second ∷ []) c.page_of-page.ensures two (c.in-Ok.ensures.1, (c.in-Ok-find_page.ensures.1, tt)),
    )

pub returns-in-Err-find_page : goal.returns-in-Err-find_page
returns-in-Err-find_page c =
    let passes : PAGE < c.args.addr % PAGE + c.args.len = omega (arith, c.if-in_page-len-le-PAGE.false, c.in_page.ensures) in
    let two = touches_two c.args.addr c.args.len c.page_of-page.result c.page_of-page.ensures passes c.requires.len in
    rw two (c.in-Err-find_page.ensures ∙ access_one (flat_content c.args.pages.now) c.args.right.0 (table_of c.args.maps.now c.args.region.0) (c.page_of-page.result + 1)
    ∙ access_rest (flat_content c.args.pages.now) c.args.right.0 (table_of c.args.maps.now c.args.region.0) c.page_of-page.result ((c.page_of-page.result + 1) ∷ []) (sym c.in-Ok.ensures.0))
