-- The word is looked for among those of its length.
use Rattle.std.proofs.Common.{sym, ◌∙◌, arith}
use Rattle.script_text.proofs.RowLaws.{command_of_length, command_of_other_length}
use Rattle.script_text.proofs.command_words.call.Goals as goal

pub returns-in-4 : goal.returns-in-4
returns-in-4 c = c.call_of_four.ensures ∙ sym (command_of_length 4 _ _ c.in-4.is)

pub returns-in-7 : goal.returns-in-7
returns-in-7 c = c.call_of_seven.ensures ∙ sym (command_of_length 7 _ _ c.in-7.is)

pub returns-in-8 : goal.returns-in-8
returns-in-8 c = c.call_of_eight.ensures ∙ sym (command_of_length 8 _ _ c.in-8.is)

pub returns-in-9 : goal.returns-in-9
returns-in-9 c = c.call_of_nine.ensures ∙ sym (command_of_length 9 _ _ c.in-9.is)

pub returns-in-10 : goal.returns-in-10
returns-in-10 c = c.call_of_ten.ensures ∙ sym (command_of_length 10 _ _ c.in-10.is)

pub returns-in-11 : goal.returns-in-11
returns-in-11 c = c.call_of_eleven.ensures ∙ sym (command_of_length 11 _ _ c.in-11.is)

pub returns-in-12 : goal.returns-in-12
returns-in-12 c = c.call_of_twelve.ensures ∙ sym (command_of_length 12 _ _ c.in-12.is)

pub returns-in-13 : goal.returns-in-13
returns-in-13 c = c.call_of_thirteen.ensures ∙ sym (command_of_length 13 _ _ c.in-13.is)

pub returns-in-16 : goal.returns-in-16
returns-in-16 c = c.call_of_sixteen.ensures ∙ sym (command_of_length 16 _ _ c.in-16.is)

pub returns : goal.returns
returns c = sym (command_of_other_length _ _ (omega arith) (omega arith) (omega arith) (omega arith)
    (omega arith) (omega arith) (omega arith) (omega arith) (omega arith))
