use Rattle.std.proofs.Common.{set, replicate, Option, None, ◌/◌, ◌%◌, ℕ, Some, sym, ap, ◌∙◌, arith}
use Rattle.slab.specs.Slab.{get}
use Rattle.pair_map.specs.Maps.{values_of}
use Rattle.vm_base.specs.Entries.{with_key}
use Rattle.balanced_tree.specs.Pairs.{with_pair}
use Rattle.fault.specs.inside.Pages.{with_entry, link_numbers}
use Rattle.fault.proofs.LinkLaws.{links_with}
use Rattle.fault.proofs.PageLaws.{block-there, entry-given, links-set, AreBlocks-set, links-new, AreBlocks-new}
use Rattle.fault.proofs.page_map.PageMap.insert.Goals as goal

pub invariant_of-self : goal.invariant_of-self
invariant_of-self c =
    let row = ap (values_of c.self.inside.rows c.args.list) (sym c.block_of.ensures) ∙ sym c.in-Some.ensures in
    let k = block-there (values_of c.self.inside.rows) (get c.self.inside.blocks) c.self.invariant c.args.list (c.args.page / 8) c.in-Some.at row in
    let now = c.set_entry.ensures.blocks k.0 k.1 ∙ ap (λ (i : ℕ). with_key (get c.self.inside.blocks) c.in-Some.at (with_entry k.0 i (Some c.args.link))) c.place_of.ensures in
    AreBlocks-set (values_of c.self.inside.rows) (get c.self.inside.blocks) c.self.invariant c.args.list c.args.page c.in-Some.at k.0 row k.1 (Some c.args.link) (get c.set_entry.new.blocks) now
    (c.args.page % 8, entry-given k.0 (c.args.page % 8) c.args.link (c.self.invariant.size c.in-Some.at k.0 k.1) (omega arith))

pub returns-in-Some-clause-links : goal.returns-in-Some-clause-links
unfolding link_numbers
returns-in-Some-clause-links c =
    let row = ap (values_of c.self.inside.rows c.args.list) (sym c.block_of.ensures) ∙ sym c.in-Some.ensures in
    let k = block-there (values_of c.self.inside.rows) (get c.self.inside.blocks) c.self.invariant c.args.list (c.args.page / 8) c.in-Some.at row in
    let now = c.set_entry.ensures.blocks k.0 k.1 ∙ ap (λ (i : ℕ). with_key (get c.self.inside.blocks) c.in-Some.at (with_entry k.0 i (Some c.args.link))) c.place_of.ensures in
    rw (← c.self.view_is) (links-set (values_of c.self.inside.rows) (get c.self.inside.blocks) c.self.invariant c.args.list c.args.page c.in-Some.at k.0 row k.1 (Some c.args.link) (get c.set_entry.new.blocks) now)

pub invariant_of-self-in-None : goal.invariant_of-self-in-None
invariant_of-self-in-None c = AreBlocks-new (values_of c.self.inside.rows) (get c.self.inside.blocks) c.self.invariant c.args.list c.args.page c.insert_reserved-at.result c.args.link (omega arith)
    (ap (values_of c.self.inside.rows c.args.list) (sym c.block_of.ensures) ∙ sym c.in-None.ensures) c.insert_reserved-at.ensures.was_vacant _
    (ap (λ (i : ℕ). set (replicate 8 (let o : Option ℕ = None in o)) i (Some c.args.link)) c.place_of-in-None.ensures)
    (values_of c.insert.new.self) (c.insert.ensures.values ∙ ap (λ (n : ℕ). with_pair (values_of c.self.inside.rows) c.args.list n (Some c.insert_reserved-at.result)) c.block_of-in-None.ensures)
    (get c.insert_reserved-at.new.self) (links_with c.self.inside.blocks c.insert_reserved-at.new.self c.insert_reserved-at.result _ c.insert_reserved-at.ensures.updates)

pub returns-in-None-clause-links : goal.returns-in-None-clause-links
unfolding link_numbers
returns-in-None-clause-links c = rw (← c.self.view_is) (links-new (values_of c.self.inside.rows) (get c.self.inside.blocks) c.self.invariant c.args.list c.args.page c.insert_reserved-at.result c.args.link (omega arith)
    (ap (values_of c.self.inside.rows c.args.list) (sym c.block_of.ensures) ∙ sym c.in-None.ensures) c.insert_reserved-at.ensures.was_vacant _
    (ap (λ (i : ℕ). set (replicate 8 (let o : Option ℕ = None in o)) i (Some c.args.link)) c.place_of-in-None.ensures)
    (values_of c.insert.new.self) (c.insert.ensures.values ∙ ap (λ (n : ℕ). with_pair (values_of c.self.inside.rows) c.args.list n (Some c.insert_reserved-at.result)) c.block_of-in-None.ensures)
    (get c.insert_reserved-at.new.self) (links_with c.self.inside.blocks c.insert_reserved-at.new.self c.insert_reserved-at.result _ c.insert_reserved-at.ensures.updates))
