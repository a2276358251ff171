use Rattle.std.proofs.Common.{◌∙◌, sym, ap, arith}
use Rattle.std.specs.Prelude.{is_some}
use Rattle.vm_base.proofs.EntryLaws.{some_is, none_is}
use Rattle.vm_model.proofs.ContentLaws.{pages_of_le}
use Rattle.page_store.proofs.LookLaws.{is_held_frame}
use Rattle.source_model.proofs.LinkLaws.{below-held, below-seen, below-past, below-unlinked}
use Rattle.source_vm.specs.Table.{loose_links_of}
use Rattle.source_vm.proofs.walk.below.Goals as goal

pub returns-then-is_some-clause-next : goal.returns-then-is_some-clause-next
returns-then-is_some-clause-next g c =
    let page = (g.P.PageStore.content c.args.store.now).page c.args.at.place.koid.0 c.args.at.place.page in
    let held = some_is page (sym (is_held_frame page) ∙ (ap is_some (sym c.requires.found) ∙ (sym c.is_some.ensures ∙ c.if-is_some.true))) in
    sym (below-held (g.P.PageStore.content c.args.store.now) (loose_links_of c.args.table.now) c.args.at.place.koid.0 c.args.at.place.page held.0 held.1)

pub returns-in_default-clause-next : goal.returns-in_default-clause-next
returns-in_default-clause-next g c =
    sym (below-unlinked (g.P.PageStore.content c.args.store.now) (loose_links_of c.args.table.now) c.args.at.place.koid.0 c.args.at.place.page (sym c.find.ensures ∙ c.in_default.is))

pub overflow_add-place : goal.overflow_add-place
overflow_add-place g c =
    let inside = c.requires.readable.inside c.args.at.place.koid.0 c.in-Some.link (sym c.find.ensures ∙ c.in-Some.is) (omega (arith, c.if-at-link.true)) in
    omega (arith, c.if-at-link.true, inside, pages_of_le _ c.in-Some.link.parent.0 c.requires.readable.good)

pub frame-frame-requires : goal.frame-frame-requires
frame-frame-requires g c =
    let inside = c.requires.readable.inside c.args.at.place.koid.0 c.in-Some.link (sym c.find.ensures ∙ c.in-Some.is) (omega (arith, c.if-at-link.true)) in
    omega (arith, c.if-at-link.true, inside)

pub returns-then-at-link : goal.returns-then-at-link
returns-then-at-link g c =
    let link = sym c.find.ensures ∙ c.in-Some.is in
    let page = (g.P.PageStore.content c.args.store.now).page c.args.at.place.koid.0 c.args.at.place.page in
    let none = sym (is_held_frame page) ∙ (ap is_some (sym c.requires.found) ∙ (sym c.is_some.ensures ∙ c.if-is_some.false)) in
    let inside = c.requires.readable.inside c.args.at.place.koid.0 c.in-Some.link link (omega (arith, c.if-at-link.true)) in
    record {
      next = sym (below-seen (g.P.PageStore.content c.args.store.now) (loose_links_of c.args.table.now) c.args.at.place.koid.0 c.args.at.place.page c.in-Some.link
          (none_is page none) link (omega (arith, c.if-at-link.true)));
      smaller = c.requires.readable.smaller c.args.at.place.koid.0 c.in-Some.link link;
      inside = omega (arith, c.if-at-link.true, inside);
      found = c.frame-frame.ensures;
    }

pub returns-else-at-link-clause-next : goal.returns-else-at-link-clause-next
returns-else-at-link-clause-next g c =
    sym (below-past (g.P.PageStore.content c.args.store.now) (loose_links_of c.args.table.now) c.args.at.place.koid.0 c.args.at.place.page c.in-Some.link
    (sym c.find.ensures ∙ c.in-Some.is) (omega (arith, c.if-at-link.false)))
