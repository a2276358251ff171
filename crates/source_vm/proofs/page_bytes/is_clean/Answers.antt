use Rattle.std.proofs.Common.{◌∙◌, sym, ap, List, ℕ, arith}
use Rattle.std.specs.Prelude.{nat_eq}
use Rattle.std.specs.Cmp.Lexicographic.{pointwise}
use Rattle.page_store.proofs.LookLaws.{zero_frame, held_frame}
use Rattle.source_vm.proofs.FillingLaws.{clean-zero, clean-held, read_whole}
use Rattle.source_vm.proofs.page_bytes.is_clean.Goals as goal

pub returns-in-None : goal.returns-in-None
returns-in-None g c = sym (clean-zero c.args.backing.now _ c.args.page (zero_frame _ c.in-None.ensures))

pub returns-in-Some : goal.returns-in-Some
returns-in-Some g c =
    let held = held_frame _ _ c.in-Some.ensures in
    let backing = c.args.backing.now in
    let bytes = read_whole c.read.new.out held.0.bytes (omega arith)
    (c.requires.good.whole _ _ held.0 held.1)
    (c.read.ensures c.args.v.0 c.args.page held.0 (record { page = held.1; tag = held.2 })) in
    c.eq.ensures ∙ (ap (λ (xs : List ℕ). pointwise nat_eq xs c.load_page.new.out) bytes
    ∙ (ap (λ (xs : List ℕ). pointwise nat_eq held.0.bytes xs) c.load_page.ensures
    ∙ sym (clean-held backing _ c.args.page held.0 held.1)))
