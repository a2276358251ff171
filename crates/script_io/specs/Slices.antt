-- What a sink over bytes of its caller is, as contracts see it.
use Rattle.std.specs.Prelude.{take}
use Rattle.script_io.specs.Memory.{Lent}
use Rattle.script_io.specs.declared.slice_sink.SliceSink.{SliceSink}

abbrev pub lent : SliceSink → Lent
lent s = record { name = s.out.ghost_name; before = s.before.bytes; taken = take s.taken s.out.now; faults = s.faults }
