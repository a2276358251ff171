use Rattle.std.proofs.Common.{Bool, is_some, ap, sym, ◌∙◌}
use Rattle.slab.specs.Slab.{get}
use Rattle.vm_base.specs.Entries.{with_key}
use Rattle.vm_base.proofs.EntryLaws.{some_same}
use Rattle.fault.specs.declared.page_map.Block.{Block}
use Rattle.fault.specs.inside.Pages.{with_entry}
use Rattle.fault.proofs.LinkLaws.{links_written}
use Rattle.fault.proofs.page_map.set_entry.Goals as goal

pub returns-clause-blocks : goal.returns-clause-blocks
returns-clause-blocks c = λ k is.
    links_written c.args.blocks.now c.args.at _ (ap {B = Bool} is_some c.index_mut-block.ensures.value)
    ∙ ap (λ (b : Block). with_key (get c.args.blocks.now) c.args.at (with_entry b c.args.place c.args.link)) (some_same (sym c.index_mut-block.ensures.value ∙ is))
