-- What the answers of `read_line` and `read_call` say.
use Rattle.std.specs.Prelude.{ℕ, ◌==◌, Bool, true, List, [], ◌∷◌, Option, None, Some, Result, Ok, Err}
use Rattle.vm_model.specs.Language.Reading.{Reading, Blank, Order, Outside, command}
use Rattle.vm_model.specs.Machine.Words.{Command}
use Rattle.script_text.specs.declared.reading.Line.{Line}
use Rattle.script_text.specs.declared.reading.Line.TheVariants.{Blank as BlankLine, Order as OrderLine}
use Rattle.script_text.specs.declared.reading.SyntaxFault.{SyntaxFault}

-- an answer as a reading
abbrev pub reading_of : Result Line SyntaxFault → Reading
reading_of (Ok BlankLine) = Blank
reading_of (Ok (OrderLine command)) = Order command
reading_of (Err fault) = Outside

-- the same of an answer whose data stands elsewhere
abbrev pub reading_of_call : Result (Option Command) SyntaxFault → Reading
reading_of_call (Ok None) = Blank
reading_of_call (Ok (Some call)) = Order call
reading_of_call (Err fault) = Outside

-- the command of a line with these words
abbrev pub order_in : List (List ℕ) → Option Command
order_in [] = None
order_in (word ∷ arguments) = command word arguments

-- a line that begins with no blank says nothing
abbrev pub is_silent : List ℕ → Bool
is_silent [] = true
is_silent (b ∷ bs) = b == 35
