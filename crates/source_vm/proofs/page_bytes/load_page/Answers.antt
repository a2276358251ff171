use Rattle.std.proofs.Common.{◌∙◌, ◌+◌, sym, ap, replicate, ℕ, arith}
use Rattle.vm_base.specs.Pages.{zeros}
use Rattle.source_model.specs.Sources.{source_page}
use Rattle.source_model.proofs.FillingLaws.{backing-seen, backing-behind}
use Rattle.source_vm.proofs.page_bytes.load_page.Goals as goal

pub fill_page-requires-clause-page : goal.fill_page-requires-clause-page
fill_page-requires-clause-page g c = omega (arith, c.requires.source.inside, c.if-page-backing.true)

pub returns-then-page-backing : goal.returns-then-page-backing
unfolding source_page
returns-then-page-backing g c =
    let b = c.args.backing.now in
    c.fill_page.ensures ∙ (ap (λ (k : ℕ). source_page k b.seed (b.base + c.args.page)) c.function_of-function.ensures
    ∙ sym (backing-seen b c.args.page (omega (arith, c.if-page-backing.true))))

pub returns-else-page-backing : goal.returns-else-page-backing
unfolding zeros
returns-else-page-backing g c =
    c.fill.ensures.after (λ y e. e) ∙ (ap (λ (n : ℕ). replicate n 0) c.requires.size
    ∙ sym (backing-behind c.args.backing.now c.args.page (omega (arith, c.if-page-backing.false))))
