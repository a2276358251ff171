use Rattle.std.proofs.Common.{◌∙◌, arith}
use Rattle.shared_vm.proofs.TurnLaws.{turn_stays, turn_falls}
use Rattle.shared_vm.proofs.acting.finish.Goals as goal

pub loop-room-preserved : goal.loop-room-preserved
loop-room-preserved g c =
    let stays = turn_stays g.P.PageStore.content _ _ c.args.actor _ c.turn.ensures.turns in
    record {
      frames = stays.frames ∙ c.loop-room.invariant.frames;
      lists = stays.lists ∙ c.loop-room.invariant.lists;
      others = λ a ne. stays.others a ne ∙ c.loop-room.invariant.others a ne;
    }

pub loop-room-smaller : goal.loop-room-smaller
loop-room-smaller g c =
    turn_falls g.P.PageStore.content _ _ c.args.actor _ c.turn.ensures.turns (omega (arith, c.left.ensures.left, c.loop-room-test.true))

pub returns-clause-done : goal.returns-clause-done
returns-clause-done g c = omega (arith, c.left.ensures.left, c.loop-room-test.false)
