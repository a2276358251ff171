use Rattle.std.proofs.Common.{◌∙◌, sym, refl}
use Rattle.source_vm.specs.Pages.{page_at}
use Rattle.source_vm.specs.Table.{backings_of, loose_links_of}
use Rattle.source_vm.proofs.EndLaws.{end-here, end-next}
use Rattle.source_vm.proofs.walk.find_end.Goals as goal

pub loop-next-init : goal.loop-next-init
loop-next-init g c = record {
  inside = c.requires.page;
  same = refl;
  found = c.requires.found;
}

pub loop-next-preserved : goal.loop-next-preserved
loop-next-preserved g c = record {
  inside = c.in-Some.ensures.inside;
  found = c.in-Some.ensures.found;
  same = sym (end-next (g.P.PageStore.content c.args.store.now) (backings_of c.args.table.now) (loose_links_of c.args.table.now) c.loop-next.at.place.koid.0 c.loop-next.at.place.page
      (page_at c.in-Some.next.place) c.requires.readable (sym c.in-Some.ensures.next)) ∙ c.loop-next.invariant.same;
}

pub returns-clause-end : goal.returns-clause-end
returns-clause-end g c =
    sym (end-here (g.P.PageStore.content c.args.store.now) (loose_links_of c.args.table.now) c.loop-next.at.place.koid.0 c.loop-next.at.place.page (sym c.in_default.ensures.next))
    ∙ c.loop-next.invariant.same
