use Rattle.std.proofs.Common.{arith}
use Rattle.std.proofs.lemmas.Grind.{common_steps}
use Rattle.vm_model.specs.Language.Spelling.{command_words, spelling}
use Rattle.vm_model.proofs.SpellingLaws.{spelling-read}
use Rattle.script_text.proofs.SpacedLaws.{join-first}
use Rattle.script_text.proofs.writing.write_command.Goals as goal

pub returns-clause-line : goal.returns-clause-line
unfolding spelling
returns-clause-line c =
    let whole = join-first c.command_word.result.now (command_words c.args.command.now) c.command_word.ensures.word in
    grind (arith, common_steps, whole)

pub returns-clause-read_back : goal.returns-clause-read_back
returns-clause-read_back c = spelling-read c.args.command.now c.put_arguments-end.ensures.ranges c.requires.spelled
