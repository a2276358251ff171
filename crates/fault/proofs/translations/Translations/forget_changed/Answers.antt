use Rattle.std.proofs.Common.{◌+◌, sym, ap, ◌∙◌, arith}
use Rattle.vm_model.proofs.ContentLaws.{pages_of-at}
use Rattle.vm_model.specs.Space.Readiness.{frame_at, frame_number}
use Rattle.fault.specs.Table.{translations_of, is_stale}
use Rattle.fault.specs.inside.Walks.{dropped, holds_other}
use Rattle.fault.proofs.PlaceLaws.{dropped-once, places-without}
use Rattle.fault.proofs.WalkLaws.{pages-start, pages-next, pages-end}
use Rattle.fault.proofs.translations.Translations.forget_changed.Goals as goal

pub loop-page-init : goal.loop-page-init
loop-page-init g c = record { first = omega arith; end = omega arith; changed = pages-start dropped dropped-once c.args.v.0 c.args.first (λ k. holds_other (frame_at (g.P.PageStore.content c.args.store.now) c.args.v.0 k.entry.page) k) (translations_of c.args.self.now); room = omega arith }

pub loop-page-smaller : goal.loop-page-smaller
loop-page-smaller g c = omega (arith, c.in-Some.ensures.0.order, c.in-Some.ensures.0.below)

pub loop-page-preserved : goal.loop-page-preserved
loop-page-preserved g c =
    let inv = c.loop-page.invariant in
    let next = c.in-Some.ensures.0 in
    record {
      first = omega (arith, inv.first, next.order);
      end = omega (arith, next.below);
      changed = pages-next dropped dropped-once c.args.v.0 c.args.first (λ k. holds_other (frame_at (g.P.PageStore.content c.args.store.now) c.args.v.0 k.entry.page) k) (translations_of c.args.self.now) (translations_of c.loop-page.self) c.loop-page.from _ inv.changed c.in-Some.page
          (holds_other (frame_number c.frame_of.result)) _ inv.first next (λ k same. ap (λ frame. holds_other frame k) (c.frame_of.ensures ∙ ap (frame_at (g.P.PageStore.content c.args.store.now) c.args.v.0) (sym same))) c.forget_other.ensures.at;
      room = omega (arith, inv.room, c.forget_other.ensures.room);
    }

pub returns-clause-at : goal.returns-clause-at
returns-clause-at g c =
    let inv = c.loop-page.invariant in
    places-without (is_stale (g.P.PageStore.content c.args.store.now) c.args.v.0 c.args.first (c.args.first + c.args.count)) (translations_of c.loop-page.self) (translations_of c.args.self.now)
    ((pages-end dropped dropped-once c.args.v.0 c.args.first (λ k. holds_other (frame_at (g.P.PageStore.content c.args.store.now) c.args.v.0 k.entry.page) k) (translations_of c.args.self.now) (translations_of c.loop-page.self) c.loop-page.from (c.args.first + c.args.count) inv.changed inv.end c.in_default.ensures))

pub overflow_add-end : goal.overflow_add-end
overflow_add-end g c = omega (arith, c.requires.range, pages_of-at (g.P.PageStore.content c.args.store.now) c.args.v.0 c.count-pages.result c.count-pages.ensures)

pub overflow_add-from : goal.overflow_add-from
overflow_add-from g c = omega (arith, c.in-Some.ensures.0.below, c.requires.range, pages_of-at (g.P.PageStore.content c.args.store.now) c.args.v.0 c.count-pages.result c.count-pages.ensures)
