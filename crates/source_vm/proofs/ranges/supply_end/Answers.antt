use Rattle.std.proofs.Common.{◌∙◌, ◌≡◌, ◌<◌, inr, Bool, true, false, sym, subst}
use Rattle.vm_model.specs.Contents.Content.{pages_of}
use Rattle.vm_model.specs.Contents.Owning.{VmoPage}
use Rattle.source_model.specs.State.{supply_of}
use Rattle.source_vm.specs.Pages.{FillsPage, page_at}
use Rattle.source_vm.specs.Table.{backings_of, loose_links_of}
use Rattle.source_vm.proofs.EndLaws.{absent-end}
use Rattle.source_vm.proofs.ranges.supply_end.Goals as goal

pub fill_page-requires-clause-room : goal.fill_page-requires-clause-room
fill_page-requires-clause-room g c =
    let bit = absent-end _ (backings_of c.args.table.now) (loose_links_of c.args.table.now) c.args.at.koid.0 c.args.at.page (page_at c.find_end-end.result.place) c.is_absent.result c.find_end-end.ensures.end (c.is_absent.ensures (g.P.PageStore.content c.args.store.now) c.find_end-end.ensures.found) in
    inr (c.requires.room (sym bit ∙ c.if-is_absent.true))

pub returns-then-is_absent-clause-absent : goal.returns-then-is_absent-clause-absent
returns-then-is_absent-clause-absent g c = λ e. (
  subst (λ (u : VmoPage). FillsPage (backings_of c.args.table.now) (loose_links_of c.args.table.now) (g.P.PageStore.content c.args.store.now) (supply_of u.koid u.page)
      (g.P.PageStore.content c.fill_page.new.store)) c.find_end-end.ensures.end c.fill_page.ensures.fills,
  c.fill_page.ensures.spare,
)

pub returns-then-is_absent-clause-other : goal.returns-then-is_absent-clause-other
returns-then-is_absent-clause-other g c = λ e. absurd (
    let bit = absent-end _ (backings_of c.args.table.now) (loose_links_of c.args.table.now) c.args.at.koid.0 c.args.at.page (page_at c.find_end-end.result.place) c.is_absent.result c.find_end-end.ensures.end (c.is_absent.ensures (g.P.PageStore.content c.args.store.now) c.find_end-end.ensures.found) in
    let no : ◌≡◌ {A = Bool} true false = sym c.if-is_absent.true ∙ (bit ∙ e) in cc)

pub returns-then-is_absent-clause-inside : goal.returns-then-is_absent-clause-inside
returns-then-is_absent-clause-inside g c =
    subst (λ (u : VmoPage). u.page < pages_of (g.P.PageStore.content c.args.store.now) u.koid) c.find_end-end.ensures.end c.find_end-end.ensures.inside

pub returns-else-is_absent-clause-absent : goal.returns-else-is_absent-clause-absent
returns-else-is_absent-clause-absent g c = λ e. absurd (
    let bit = absent-end _ (backings_of c.args.table.now) (loose_links_of c.args.table.now) c.args.at.koid.0 c.args.at.page (page_at c.find_end-end.result.place) c.is_absent.result c.find_end-end.ensures.end (c.is_absent.ensures (g.P.PageStore.content c.args.store.now) c.find_end-end.ensures.found) in
    let no : ◌≡◌ {A = Bool} true false = sym e ∙ (sym bit ∙ c.if-is_absent.false) in cc)

pub returns-else-is_absent-clause-inside : goal.returns-else-is_absent-clause-inside
returns-else-is_absent-clause-inside g c =
    subst (λ (u : VmoPage). u.page < pages_of (g.P.PageStore.content c.args.store.now) u.koid) c.find_end-end.ensures.end c.find_end-end.ensures.inside
