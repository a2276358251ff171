use Rattle.std.proofs.Common.{Some, ap, ◌∙◌}
use Rattle.slab.specs.Slab.{get}
use Rattle.fault.specs.inside.Lists.{set_in, to_next, to_previous, link_between}
use Rattle.fault.proofs.LinkLaws.{links_with, set-there, with-there, next-written, behind-written}
use Rattle.fault.proofs.lists.link_behind.Goals as goal

pub set_next-requires : goal.set_next-requires
set_next-requires c =
    with-there (get c.args.links.now) _ c.insert_reserved-link.result (link_between c.args.translation c.args.place (Some c.args.first) c.index.result.now.next)
    (links_with c.args.links.now c.insert_reserved-link.new.self c.insert_reserved-link.result _ c.insert_reserved-link.ensures.updates) c.args.first c.requires.first

pub set_previous-requires : goal.set_previous-requires
set_previous-requires c =
    next-written (get c.args.links.now) (get c.set_next.new.links) c.args.first c.index.result.now c.index.ensures
    (λ y some. set-there (to_next (Some c.insert_reserved-link.result)) (get c.insert_reserved-link.new.self) (get c.set_next.new.links) (Some c.args.first) c.set_next.ensures.links y
    (with-there (get c.args.links.now) _ c.insert_reserved-link.result (link_between c.args.translation c.args.place (Some c.args.first) c.index.result.now.next)
    (links_with c.args.links.now c.insert_reserved-link.new.self c.insert_reserved-link.result _ c.insert_reserved-link.ensures.updates) y some))
    c.requires.next

pub returns-clause-links : goal.returns-clause-links
returns-clause-links c =
    let x = c.insert_reserved-link.result in
    c.set_previous.ensures.links
    ∙ ap (set_in (to_previous (Some x)) c.index.result.now.next) (c.set_next.ensures.links
    ∙ ap (set_in (to_next (Some x)) (Some c.args.first)) (links_with c.args.links.now c.insert_reserved-link.new.self x _ c.insert_reserved-link.ensures.updates))
    ∙ behind-written (get c.args.links.now) c.args.first x c.index.result.now c.args.translation c.args.place c.index.ensures
