use Rattle.std.specs.Fmt.{digits}
use Rattle.vm_model.specs.Language.Spelling.{spelling, command_words}
use Rattle.caller_laws.proofs.scripts.a_read_is_written_with_its_offset_first.Goals as goal

pub returns : goal.returns
unfolding spelling command_words digits
returns c = c.write_command.ensures.line
