use Rattle.std.proofs.Common.{◌≡◌, [], length, ℕ, List, subst, arith}
use Rattle.vm_model.proofs.ContentLaws.{pages_of_le}
use Rattle.vmo_ops.proofs.ModelLaws.{used_le}
use Rattle.source_vm.specs.Pages.{absent_touched}
use Rattle.source_vm.specs.Table.{backings_of, loose_links_of}
use Rattle.source_vm.proofs.AbsentLaws.{touched-supplied}
use Rattle.source_vm.proofs.ranges.read_range.Goals as goal

pub returns-then-need-eq0-clause-free : goal.returns-then-need-eq0-clause-free
returns-then-need-eq0-clause-free g c =
    omega (arith, c.read_present-need.ensures.absent, c.if-need-eq0.true, used_le (g.P.PageStore.content c.args.store.now))

pub touched_pages-first-requires : goal.touched_pages-first-requires
touched_pages-first-requires g c = omega (arith, c.requires.inside, pages_of_le _ c.args.v.0 c.requires.readable.good)

pub read_supplied-requires-clause-supplied : goal.read_supplied-requires-clause-supplied
read_supplied-requires-clause-supplied g c =
    let content = g.P.PageStore.content c.supply_counted.new.store in
    let bs = backings_of c.args.table.now in
    let ls = loose_links_of c.args.table.now in
    let size : length c.args.out.now ≡ length c.read_present-need.new.out = omega arith in
    subst (λ (n : ℕ). ◌≡◌ {A = List ℕ} (absent_touched bs ls content c.args.v.0 c.args.offset n) []) size
    (touched-supplied bs ls content c.args.v.0 c.args.offset (length c.args.out.now) c.touched_pages-first.result.0 c.touched_pages-first.result.1
    c.touched_pages-first.ensures.pages c.in-Ok.ensures.ok.none)
