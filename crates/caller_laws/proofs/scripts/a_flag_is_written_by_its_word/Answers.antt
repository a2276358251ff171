use Rattle.std.specs.Fmt.{digits}
use Rattle.vm_model.specs.Language.Spelling.{spelling, command_words}
use Rattle.caller_laws.proofs.scripts.a_flag_is_written_by_its_word.Goals as goal

-- src/scripts.rt:140:1
pub returns : goal.returns
unfolding spelling command_words digits
returns c = c.write_command.ensures.line
