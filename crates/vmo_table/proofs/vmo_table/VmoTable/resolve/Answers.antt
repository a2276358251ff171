use Rattle.std.proofs.Common.{◌∙◌}
use Rattle.vmo_table.specs.Table.{names_in}
use Rattle.vmo_table.proofs.vmo_table.VmoTable.resolve.Goals as goal

pub returns : goal.returns
unfolding names_in
returns c = rw (← c.self.view_is) (c.copied.ensures ∙ c.get.ensures.value)
