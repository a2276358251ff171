use Rattle.std.proofs.Common.{◌+◌, arith}
use Rattle.fault.specs.Table.{translations_of, is_at}
use Rattle.fault.specs.inside.Walks.{dropped}
use Rattle.fault.proofs.PlaceLaws.{dropped-once, places-without}
use Rattle.fault.proofs.WalkLaws.{places-start, places-next, places-end}
use Rattle.fault.proofs.translations.Translations.forget_at.Goals as goal

pub loop-page-init : goal.loop-page-init
loop-page-init c = record { first = omega arith; end = omega arith; changed = places-start dropped dropped-once c.args.root.0 c.args.first (translations_of c.args.self.now); room = omega arith }

pub loop-page-preserved : goal.loop-page-preserved
loop-page-preserved c =
    let inv = c.loop-page.invariant in
    let next = c.in-Some.ensures in
    record {
      first = omega (arith, inv.first, next.order);
      end = omega (arith, next.below);
      changed = places-next dropped dropped-once c.args.root.0 c.args.first (translations_of c.args.self.now) (translations_of c.loop-page.self) c.loop-page.from _ inv.changed c.in-Some.page _ inv.first next c.drop_place.ensures.at;
      room = omega (arith, inv.room, c.drop_place.ensures.room);
    }

pub returns-clause-at : goal.returns-clause-at
returns-clause-at c =
    let inv = c.loop-page.invariant in
    places-without (is_at c.args.root.0 c.args.first (c.args.first + c.args.count)) (translations_of c.loop-page.self) (translations_of c.args.self.now)
    (places-end dropped dropped-once c.args.root.0 c.args.first (translations_of c.args.self.now) (translations_of c.loop-page.self) c.loop-page.from (c.args.first + c.args.count) inv.changed inv.end c.in_default.ensures)
