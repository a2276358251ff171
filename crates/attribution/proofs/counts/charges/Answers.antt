use Rattle.std.proofs.Common.{sym, ◌∙◌}
use Rattle.attribution.proofs.CountLaws.{looks_held, charged-sole, held_so-frame}
use Rattle.attribution.proofs.LesserLaws.{is_charged-lesser, not_turned}
use Rattle.attribution.proofs.counts.charges.Goals as goal

pub returns-then-sole : goal.returns-then-sole
returns-then-sole g c =
    let is =
    looks_held (g.P.PageStore.content c.args.store.now) c.args.koid.0 c.args.page c.args.tag c.args.sole
    c.requires.look in
    c.if-sole.true ∙ sym (charged-sole _ _ _ _ _ c.requires.good is c.if-sole.true)

pub lesser_viewer-requires : goal.lesser_viewer-requires
lesser_viewer-requires g c =
    let is =
    looks_held (g.P.PageStore.content c.args.store.now) c.args.koid.0 c.args.page c.args.tag c.args.sole
    c.requires.look in
    record { v = c.args.koid.0; p = c.args.page; held = is.held; shows = record { page = is.page; tag = is.frame } }

pub returns-else-sole : goal.returns-else-sole
returns-else-sole g c =
    let is =
    looks_held (g.P.PageStore.content c.args.store.now) c.args.koid.0 c.args.page c.args.tag c.args.sole
    c.requires.look in
    not_turned _ _ c.is_none.ensures
    ∙ sym (is_charged-lesser (g.P.PageStore.content c.args.store.now) c.args.koid.0 c.args.page c.args.tag (held_so-frame _ _ _ _ _ is)
    c.lesser_viewer.result c.lesser_viewer.ensures.some c.lesser_viewer.ensures.none)
