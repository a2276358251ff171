-- What the answers of `read_batch_line` and `read_batch_call` say.
use Rattle.std.specs.Prelude.{Option, None, Some, Result, Ok, Err}
use Rattle.script_text.specs.declared.reading.SyntaxFault.{SyntaxFault}
use Rattle.batch_model.specs.BatchWords.{BatchCommand}
use Rattle.batch_model.specs.BatchLanguage.{BatchReading, Blank, Order, Outside}
use Rattle.batch_vm.specs.declared.reading.BatchLine.{BatchLine}
use Rattle.batch_vm.specs.declared.reading.BatchLine.TheVariants.{Blank as BlankLine, Order as OrderLine}

-- an answer as a reading
abbrev pub batch_reading_of : Result BatchLine SyntaxFault → BatchReading
batch_reading_of (Ok BlankLine) = Blank
batch_reading_of (Ok (OrderLine command)) = Order command
batch_reading_of (Err fault) = Outside

-- the same of an answer whose data stands elsewhere
abbrev pub batch_reading_of_call : Result (Option BatchCommand) SyntaxFault → BatchReading
batch_reading_of_call (Ok None) = Blank
batch_reading_of_call (Ok (Some call)) = Order call
batch_reading_of_call (Err fault) = Outside
