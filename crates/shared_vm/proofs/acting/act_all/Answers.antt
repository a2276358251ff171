use Rattle.shared_vm.proofs.TurnLaws.{IsWholeJournal-finished}
use Rattle.shared_vm.proofs.acting.act_all.Goals as goal

pub returns-clause-whole : goal.returns-clause-whole
returns-clause-whole g c =
    IsWholeJournal-finished _ _ _ _ _ _ _ _ c.finish-2.ensures.lists c.finish-3.ensures.lists c.finish-4.ensures.lists c.finish.ensures.done
    c.finish-2.ensures.done c.finish-3.ensures.done c.finish-4.ensures.done c.finish-2.ensures.others c.finish-3.ensures.others
    c.finish-4.ensures.others
