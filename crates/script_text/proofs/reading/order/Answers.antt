use Rattle.std.proofs.Common.{sym, ◌∙◌}
use Rattle.script_text.proofs.FrequentLaws.{vmo_read_line, vmo_write_line, mem_read_line, mem_write_line}
use Rattle.script_text.proofs.reading.order.Goals as goal

pub returns-in-Some : goal.returns-in-Some
returns-in-Some c =
    c.vmo_read_of.ensures ∙ sym (vmo_read_line c.args.line.now _ c.in-Some.ensures.line c.in-Some.ensures.cut)

pub returns-in-Some-behind_word : goal.returns-in-Some-behind_word
returns-in-Some-behind_word c =
    c.vmo_write_of.ensures
    ∙ sym (vmo_write_line c.args.line.now _ c.in-Some-behind_word.ensures.line c.in-Some-behind_word.ensures.cut)

pub returns-in-Some-behind_word-2 : goal.returns-in-Some-behind_word-2
returns-in-Some-behind_word-2 c =
    c.mem_read_of.ensures
    ∙ sym (mem_read_line c.args.line.now _ c.in-Some-behind_word-2.ensures.line c.in-Some-behind_word-2.ensures.cut)

pub returns-in-Some-behind_word-3 : goal.returns-in-Some-behind_word-3
returns-in-Some-behind_word-3 c =
    c.mem_write_of.ensures
    ∙ sym (mem_write_line c.args.line.now _ c.in-Some-behind_word-3.ensures.line c.in-Some-behind_word-3.ensures.cut)
