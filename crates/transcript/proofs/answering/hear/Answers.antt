use Rattle.std.proofs.Common.{Option, Ok, sym, ap, ◌∙◌, eqb}
use Rattle.std.specs.Cmp.Lexicographic.{pointwise}
use Rattle.vm_model.specs.Machine.Words.{Command}
use Rattle.script_text.specs.Lines.{reading_of_call}
use Rattle.transcript.proofs.HearLaws.{outside_heard}
use Rattle.transcript.proofs.answering.hear.Goals as goal

pub hear_order-requires-clause-stands : goal.hear_order-requires-clause-stands
hear_order-requires-clause-stands c = c.requires.stands

pub returns-in-Ok-Some : goal.returns-in-Ok-Some
returns-in-Ok-Some c = record {
  heard = λ frames before stands.
      c.hear_order.ensures frames before c.args.pending.now stands (sym c.read_call.ensures ∙ (ap reading_of_call c.in-Ok-Some.is ∙ ap (λ (call : Option Command). reading_of_call (Ok call)) c.in-Ok-Some.field-0-is));
}

pub returns-in-Ok-None : goal.returns-in-Ok-None
returns-in-Ok-None c = record {
  heard = λ frames before stands. absurd (c.requires.asks (sym c.read_call.ensures ∙ (ap reading_of_call c.in-Ok-None.is ∙ ap (λ (call : Option Command). reading_of_call (Ok call)) c.in-Ok-None.field-0-is)));
}

pub returns-in-Err : goal.returns-in-Err
returns-in-Err c = record {
  heard = λ frames before stands.
      outside_heard frames c.args.own.now c.args.pending.now before c.args.line.now c.eq.result c.ends_if.result stands (sym c.read_call.ensures ∙ ap reading_of_call c.in-Err.is) (c.eq.ensures ∙ ap (pointwise eqb c.args.line.now) c.as_slice.ensures) c.ends_if.ensures;
}
