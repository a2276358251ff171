-- The commands of page sources, with their byte data as lists. Data that is lent is the same list.
use Rattle.std.specs.Prelude.{ℕ, List}
use Rattle.source_model.specs.declared.command.SourceCommand.{SourceCommand as SourceCommandOver}

abbrev pub SourceCommand : Type 0
SourceCommand = SourceCommandOver (List ℕ)
