use Rattle.std.proofs.Common.{◌/◌, ◌%◌, ℕ, Some, sym, ap, ◌∙◌, arith}
use Rattle.slab.specs.Slab.{get}
use Rattle.pair_map.specs.Maps.{values_of}
use Rattle.vm_base.specs.Entries.{with_key}
use Rattle.fault.specs.inside.Pages.{with_entry, link_numbers}
use Rattle.fault.proofs.PageLaws.{block-there, entry-given, links-set, AreBlocks-set}
use Rattle.fault.proofs.page_map.PageMap.replace.Goals as goal

pub invariant_of-self : goal.invariant_of-self
invariant_of-self c =
    let row = ap (values_of c.self.inside.rows c.args.list) (sym c.block_of.ensures) ∙ sym c.in-Some.ensures in
    let k = block-there (values_of c.self.inside.rows) (get c.self.inside.blocks) c.self.invariant c.args.list (c.args.page / 8) c.in-Some.at row in
    let now = c.set_entry.ensures.blocks k.0 k.1 ∙ ap (λ (i : ℕ). with_key (get c.self.inside.blocks) c.in-Some.at (with_entry k.0 i (Some c.args.link))) c.place_of.ensures in
    AreBlocks-set (values_of c.self.inside.rows) (get c.self.inside.blocks) c.self.invariant c.args.list c.args.page c.in-Some.at k.0 row k.1 (Some c.args.link) (get c.set_entry.new.blocks) now
    (c.args.page % 8, entry-given k.0 (c.args.page % 8) c.args.link (c.self.invariant.size c.in-Some.at k.0 k.1) (omega arith))

pub returns-in-Some-clause-links : goal.returns-in-Some-clause-links
unfolding link_numbers
returns-in-Some-clause-links c =
    let row = ap (values_of c.self.inside.rows c.args.list) (sym c.block_of.ensures) ∙ sym c.in-Some.ensures in
    let k = block-there (values_of c.self.inside.rows) (get c.self.inside.blocks) c.self.invariant c.args.list (c.args.page / 8) c.in-Some.at row in
    let now = c.set_entry.ensures.blocks k.0 k.1 ∙ ap (λ (i : ℕ). with_key (get c.self.inside.blocks) c.in-Some.at (with_entry k.0 i (Some c.args.link))) c.place_of.ensures in
    rw (← c.self.view_is) (links-set (values_of c.self.inside.rows) (get c.self.inside.blocks) c.self.invariant c.args.list c.args.page c.in-Some.at k.0 row k.1 (Some c.args.link) (get c.set_entry.new.blocks) now)
