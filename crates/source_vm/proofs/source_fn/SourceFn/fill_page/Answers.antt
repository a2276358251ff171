use Rattle.std.proofs.Common.{◌∙◌, ◌+◌, ◌%◌, ap, map, replicate, ℕ, arith}
use Rattle.std.specs.List.{range_with_len}
use Rattle.source_vm.proofs.SourceLaws.{page-counted, page-same}
use Rattle.source_vm.proofs.source_fn.SourceFn.fill_page.Goals as goal

pub returns-then-self-eq1 : goal.returns-then-self-eq1
returns-then-self-eq1 g c =
    let first = c.byte-first.result in
    c.count_up.ensures ∙ (ap (λ (n : ℕ). map (λ i. (first + i) % 256) (range_with_len 0 n)) c.requires.size
    ∙ page-counted c.args.self.now.kind c.args.seed c.args.page first (omega (arith, c.if-self-eq1.true)) c.byte-first.ensures)

pub returns-else-self-eq1 : goal.returns-else-self-eq1
returns-else-self-eq1 g c =
    let first = c.byte-first.result in
    c.fill.ensures.after (λ y e. e) ∙ (ap (λ (n : ℕ). replicate n first) c.requires.size
    ∙ page-same c.args.self.now.kind c.args.seed c.args.page first (λ one. omega (arith, one, c.if-self-eq1.false)) c.byte-first.ensures)
