use Rattle.std.proofs.Common.{◌-◌, sym, ap, arith}
use Rattle.std.specs.Prelude.{not}
use Rattle.vm_model.specs.Contents.Content.{sole}
use Rattle.page_store.specs.Flat.{flat_content}
use Rattle.checker_machine.proofs.WantLaws.{none_passes, one_passes}
use Rattle.checker_machine.proofs.wanting.has_shared.Goals as goal

pub returns-then-not-is_sole : goal.returns-then-not-is_sole
returns-then-not-is_sole c =
    sym (one_passes (λ p. not (sole (flat_content c.args.pages.now) c.args.koid.0 p)) c.args.touched.first (c.args.touched.end - c.args.touched.first) c.loop-page.page c.loop-page.auto.page
    (omega (arith, c.loop-page-test.true, c.requires)) (ap not (sym c.if-not-is_sole.ensures)))

pub returns : goal.returns
returns c =
    sym (none_passes (λ p. not (sole (flat_content c.args.pages.now) c.args.koid.0 p)) c.args.touched.first (c.args.touched.end - c.args.touched.first)
    (λ q low high. ap not (c.loop-page.invariant q low (omega (arith, high, c.loop-page-test.false, c.requires)))))
