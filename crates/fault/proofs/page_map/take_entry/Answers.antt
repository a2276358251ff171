use Rattle.std.proofs.Common.{◌≡◌, ◌/◌, ◌%◌, ℕ, Bool, Option, None, is_some, length, refl, sym, ap, ◌∙◌}
use Rattle.slab.specs.Slab.{get}
use Rattle.pair_map.specs.Maps.{values_of}
use Rattle.vm_base.specs.Entries.{with_key}
use Rattle.vm_base.proofs.EntryLaws.{some_same, with_key-here, with_key-other}
use Rattle.balanced_tree.specs.Pairs.{with_pair}
use Rattle.fault.specs.declared.page_map.Block.{Block}
use Rattle.fault.specs.inside.Pages.{with_entry, block_entry}
use Rattle.fault.proofs.LinkLaws.{links_without}
use Rattle.fault.proofs.PageLaws.{size-set, links-set, AreBlocks-set, links-same, AreBlocks-gone}
use Rattle.fault.proofs.page_map.take_entry.Goals as goal

pub index-requires-in-Some : goal.index-requires-in-Some
index-requires-in-Some c =
    let k = c.index.result.now in
    let now = c.set_entry.ensures.blocks k c.index.ensures ∙ ap (λ (i : ℕ). with_key (get c.args.blocks.now) c.args.at (with_entry k i None)) c.place_of-in-Some.ensures in
    ap {B = Bool} is_some (ap (λ (m : ℕ → Option Block). m c.args.at) now ∙ with_key-here (get c.args.blocks.now) c.args.at _ c.args.at refl)

pub first_entry-requires : goal.first_entry-requires
first_entry-requires c =
    let k = c.index.result.now in
    let now = c.set_entry.ensures.blocks k c.index.ensures ∙ ap (λ (i : ℕ). with_key (get c.args.blocks.now) c.args.at (with_entry k i None)) c.place_of-in-Some.ensures in
    let is : with_entry k (c.args.page % 8) None ≡ c.index-in-Some.result.now =
    some_same (sym (ap (λ (m : ℕ → Option Block). m c.args.at) now ∙ with_key-here (get c.args.blocks.now) c.args.at _ c.args.at refl) ∙ c.index-in-Some.ensures) in
    ap (λ (b : Block). length b.entries) (sym is) ∙ size-set k (c.args.page % 8) None (c.requires.pages.size c.args.at k c.index.ensures)

pub returns-in-Some-first_entry-clause-pages : goal.returns-in-Some-first_entry-clause-pages
returns-in-Some-first_entry-clause-pages c =
    let k = c.index.result.now in
    let now = c.set_entry.ensures.blocks k c.index.ensures ∙ ap (λ (i : ℕ). with_key (get c.args.blocks.now) c.args.at (with_entry k i None)) c.place_of-in-Some.ensures in
    let is : with_entry k (c.args.page % 8) None ≡ c.index-in-Some.result.now =
    some_same (sym (ap (λ (m : ℕ → Option Block). m c.args.at) now ∙ with_key-here (get c.args.blocks.now) c.args.at _ c.args.at refl) ∙ c.index-in-Some.ensures) in
    AreBlocks-set (values_of c.args.rows.now) (get c.args.blocks.now) c.requires.pages c.args.list c.args.page c.args.at k c.requires.block c.index.ensures None (get c.set_entry.new.blocks) now (
      c.in-Some-first_entry.field-0.0,
      ap {B = Bool} is_some (ap (λ (b : Block). block_entry b c.in-Some-first_entry.field-0.0) is ∙ c.in-Some-first_entry.ensures.value.0),
    )

pub returns-in-Some-first_entry-clause-links : goal.returns-in-Some-first_entry-clause-links
returns-in-Some-first_entry-clause-links c =
    let k = c.index.result.now in
    let now = c.set_entry.ensures.blocks k c.index.ensures ∙ ap (λ (i : ℕ). with_key (get c.args.blocks.now) c.args.at (with_entry k i None)) c.place_of-in-Some.ensures in
    links-set (values_of c.args.rows.now) (get c.args.blocks.now) c.requires.pages c.args.list c.args.page c.args.at k c.requires.block c.index.ensures None (get c.set_entry.new.blocks) now

pub returns-in-None-first_entry-clause-pages : goal.returns-in-None-first_entry-clause-pages
returns-in-None-first_entry-clause-pages c =
    let k = c.index.result.now in
    let now = c.set_entry.ensures.blocks k c.index.ensures ∙ ap (λ (i : ℕ). with_key (get c.args.blocks.now) c.args.at (with_entry k i None)) c.place_of-in-Some.ensures in
    AreBlocks-gone (values_of c.args.rows.now) (get c.args.blocks.now) c.requires.pages c.args.list (c.args.page / 8) c.args.at c.requires.block
    (values_of c.remove-in-None-first_entry.new.self) (c.remove-in-None-first_entry.ensures.values ∙ ap (λ (n : ℕ). with_pair (values_of c.args.rows.now) c.args.list n None) c.block_of.ensures)
    (get c.set_entry.new.blocks) (get c.remove.new.self) (λ y apart. ap (λ (m : ℕ → Option Block). m y) now ∙ with_key-other (get c.args.blocks.now) c.args.at _ y apart)
    c.index-in-Some.result.now c.index-in-Some.ensures c.in-None-first_entry.ensures.next
    (links_without c.set_entry.new.blocks c.remove.new.self c.args.at c.remove.ensures.updates)

pub returns-in-None-first_entry-clause-links : goal.returns-in-None-first_entry-clause-links
returns-in-None-first_entry-clause-links c =
    let k = c.index.result.now in
    let now = c.set_entry.ensures.blocks k c.index.ensures ∙ ap (λ (i : ℕ). with_key (get c.args.blocks.now) c.args.at (with_entry k i None)) c.place_of-in-Some.ensures in
    links-same (values_of c.args.rows.now) (get c.args.blocks.now) c.requires.pages c.args.list (c.args.page / 8) c.args.at c.requires.block
    (values_of c.remove-in-None-first_entry.new.self) (c.remove-in-None-first_entry.ensures.values ∙ ap (λ (n : ℕ). with_pair (values_of c.args.rows.now) c.args.list n None) c.block_of.ensures)
    (get c.set_entry.new.blocks) (get c.remove.new.self) (λ y apart. ap (λ (m : ℕ → Option Block). m y) now ∙ with_key-other (get c.args.blocks.now) c.args.at _ y apart)
    c.index-in-Some.result.now c.index-in-Some.ensures c.in-None-first_entry.ensures.next
    (links_without c.set_entry.new.blocks c.remove.new.self c.args.at c.remove.ensures.updates)
    ∙ links-set (values_of c.args.rows.now) (get c.args.blocks.now) c.requires.pages c.args.list c.args.page c.args.at k c.requires.block c.index.ensures None (get c.set_entry.new.blocks) now
