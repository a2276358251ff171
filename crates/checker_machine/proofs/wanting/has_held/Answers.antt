use Rattle.std.proofs.Common.{◌-◌, sym}
use Rattle.vm_model.specs.Contents.Content.{is_held}
use Rattle.vm_model.proofs.ContentLaws.{is_held-zero}
use Rattle.page_store.specs.Flat.{flat_content}
use Rattle.checker_machine.proofs.WantLaws.{none_passes, first_passes}
use Rattle.checker_machine.proofs.wanting.has_held.Goals as goal

pub returns-in-Some : goal.returns-in-Some
returns-in-Some c =
    let next = c.in-Some.ensures.some in
    first_passes (is_held (flat_content c.args.pages.now) c.args.koid.0) c.args.touched.first c.args.touched.end c.in-Some.page c.requires.order next.0 next.1
    (λ q low high. is_held-zero (flat_content c.args.pages.now) c.args.koid.0 q (next.2 q low high))

pub returns-in-None : goal.returns-in-None
returns-in-None c =
    sym (none_passes (is_held (flat_content c.args.pages.now) c.args.koid.0) c.args.touched.first (c.args.touched.end - c.args.touched.first)
    (λ q low high. is_held-zero (flat_content c.args.pages.now) c.args.koid.0 q (c.in-None.ensures.none q low)))
