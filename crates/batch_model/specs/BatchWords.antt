-- The commands of a machine with jobs and its replies, with their data as lists. Data that is lent is the same list.
use Rattle.std.specs.Prelude.{ℕ, List}
use Rattle.batch_model.specs.declared.command.BatchCommand.{BatchCommand as BatchCommandOver}
use Rattle.batch_model.specs.declared.command.BatchReply.{BatchReply as BatchReplyOver}

abbrev pub BatchCommand : Type 0
BatchCommand = BatchCommandOver (List ℕ)

abbrev pub BatchReply : Type 0
BatchReply = BatchReplyOver (List ℕ) (List ℕ)
