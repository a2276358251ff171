use Rattle.std.proofs.Common.{◌+◌, ◌-◌, ◌≡◌, ap, ◌∙◌, ℕ, arith}
use Rattle.fault.specs.Table.{translations_of, with_read_only}
use Rattle.fault.proofs.SharedLaws.{gaps-start, gaps-next, gaps-end}
use Rattle.fault.proofs.translations.Translations.make_readonly_but.Goals as goal

pub loop-pinned-init : goal.loop-pinned-init
loop-pinned-init c = record { first = omega arith; bound = omega arith; left = gaps-start _ _ _ _ }

pub loop-pinned-preserved : goal.loop-pinned-preserved
loop-pinned-preserved c =
    let inv = c.loop-pinned.invariant in
    record {
      first = omega (arith, inv.first, c.in-Some.ensures.order);
      bound = omega (arith, c.in-Some.ensures.below);
      left = gaps-next _ _ _ _ _ _ inv.first c.in-Some.ensures _ _ _ inv.left c.make_readonly.ensures.at;
    }

pub returns : goal.returns
returns c =
    let inv = c.loop-pinned.invariant in
    let e : c.loop-pinned.from + (c.args.end - c.loop-pinned.from) ≡ c.args.end = omega (arith, inv.bound) in
    gaps-end _ _ _ _ _ inv.first inv.bound c.in_default.ensures _ _ _ inv.left
    (c.make_readonly-2.ensures.at ∙ ap (λ (n : ℕ). with_read_only c.args.v.0 c.loop-pinned.from n (translations_of c.loop-pinned.self)) e)
