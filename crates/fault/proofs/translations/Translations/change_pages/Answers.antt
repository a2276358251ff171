use Rattle.std.proofs.Common.{◌+◌, true, refl, arith}
use Rattle.fault.specs.Table.{translations_of, is_translation_of}
use Rattle.fault.specs.inside.Walks.{change_by}
use Rattle.fault.proofs.PlaceLaws.{change_by-once, changed-all, changed-all_of}
use Rattle.fault.proofs.WalkLaws.{pages-start, pages-next, pages-end}
use Rattle.fault.proofs.translations.Translations.change_pages.Goals as goal

pub loop-page-init : goal.loop-page-init
loop-page-init c = record {
  first = omega arith;
  end = omega arith;
  changed = pages-start _ (change_by-once c.args.change) c.args.v.0 c.args.first (λ k. true) _;
  room = omega arith;
}

pub loop-page-smaller : goal.loop-page-smaller
loop-page-smaller c = omega (arith, c.in-Some.ensures.0.order, c.in-Some.ensures.0.below)

pub loop-page-preserved : goal.loop-page-preserved
loop-page-preserved c =
    let inv = c.loop-page.invariant in
    let next = c.in-Some.ensures.0 in
    record {
      first = omega (arith, inv.first, next.order);
      end = omega (arith, next.below);
      changed = pages-next _ (change_by-once c.args.change) c.args.v.0 c.args.first (λ k. true) (translations_of c.args.self.now) (translations_of c.loop-page.self)
          _ _ inv.changed c.in-Some.page (λ k. true) _ inv.first next (λ k h. refl)
          (changed-all_of (change_by c.args.change) _ _ (is_translation_of c.args.v.0 c.in-Some.page (c.in-Some.page + 1)) c.change_list.ensures.at);
      room = omega (arith, inv.room, c.change_list.ensures.room);
    }

pub returns-clause-at : goal.returns-clause-at
returns-clause-at c =
    let inv = c.loop-page.invariant in
    changed-all (change_by c.args.change) _ _ (is_translation_of c.args.v.0 c.args.first (c.args.first + c.args.count))
    (pages-end _ (change_by-once c.args.change) c.args.v.0 c.args.first (λ k. true) (translations_of c.args.self.now) (translations_of c.loop-page.self)
    _ _ inv.changed inv.end c.in_default.ensures)
