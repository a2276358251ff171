-- The commands and the replies, with their data as lists. Data that is lent is the same list.
use Rattle.std.specs.Prelude.{ℕ, List}
use Rattle.vm_model.specs.declared.command.Command.{Command as CommandOver}
use Rattle.vm_model.specs.declared.reply.Reply.{Reply as ReplyOver}

abbrev pub Command : Type 0
Command = CommandOver (List ℕ)

abbrev pub Reply : Type 0
Reply = ReplyOver (List ℕ) (List ℕ)
