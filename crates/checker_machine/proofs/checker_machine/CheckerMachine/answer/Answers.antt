use Rattle.checker_machine.specs.Machine.{CheckerParts, checker_machine_of}
use Rattle.checker_machine.specs.inside.Fields.{checker_parts_of}
use Rattle.checker_machine.proofs.AnswerLaws.{outcome_lack, outcome_placed, outcome_step}
use Rattle.checker_machine.proofs.checker_machine.CheckerMachine.answer.Goals as goal

pub answer_told-given-requires-clause-sound : goal.answer_told-given-requires-clause-sound
answer_told-given-requires-clause-sound c = c.self.invariant

pub answer_told-given-requires-clause-next : goal.answer_told-given-requires-clause-next
unfolding checker_machine_of
answer_told-given-requires-clause-next c = rw (← c.self.view_is) at c.requires.next

pub invariant_of-self : goal.invariant_of-self
invariant_of-self c = c.answer_told-given.ensures.sound

pub returns : goal.returns
unfolding checker_machine_of
returns c =
    let command = c.args.call.now in
    let after : CheckerParts = record { pages = c.answer_told-given.new.pages; machine = c.answer_told-given.new.self } in
    rw (← c.self.view_is) (record {
      step = outcome_step (checker_machine_of (checker_parts_of c.self.inside)) (checker_machine_of after) command c.args.told c.answer_told-given.result c.own.result c.own.ensures.given c.answer_told-given.ensures.step;
      lack = outcome_lack (checker_machine_of (checker_parts_of c.self.inside)) (checker_machine_of after) command c.args.told c.answer_told-given.result c.own.result c.own.ensures.given c.answer_told-given.ensures.step;
      own = c.own.ensures.own;
      place = outcome_placed command c.args.told c.answer_told-given.result c.own.result c.own.ensures.given c.answer_told-given.ensures.place;
      good = c.answer_told-given.ensures.sound.good;
      next = c.answer_told-given.ensures.next;
      frames = c.answer_told-given.ensures.frames;
    })
