use Rattle.pair_map.specs.Maps.{values_of}
use Rattle.pin_table.specs.Table.{pins_in}
use Rattle.pin_table.proofs.EntryLaws.{pins_in-empty}
use Rattle.pin_table.proofs.CountedLaws.{AreCountedByPage-empty}
use Rattle.pin_table.proofs.pin_table.PinTable.new.Goals as goal

pub invariant_of-result : goal.invariant_of-result
invariant_of-result c = record { pages = AreCountedByPage-empty (pins_in c.new.result.entries) (values_of c.new-2.result) (pins_in-empty c.new.result.entries c.new.ensures.empty) c.new-2.ensures.values }

pub returns : goal.returns
returns c = pins_in-empty c.new.result.entries c.new.ensures.empty
