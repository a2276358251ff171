use Rattle.shared_vm.proofs.StartLaws.{IsRoom-start, legal_start}
use Rattle.shared_vm.proofs.room.with_journal.Goals as goal

pub invariant_of-result : goal.invariant_of-result
invariant_of-result g c =
    IsRoom-start g.P.PageStore.content c.args.frames c.args.scripts c.new.result c.fill.new.self _ c.in_ok-fill.ensures.ok c.requires.empty
    c.new.ensures.bare c.new.ensures.agrees _ _ _ c.requires.few c.requires.bare c.none.ensures c.requires.room c.requires.bytes c.requires.numbers

pub returns-clause-legal : goal.returns-clause-legal
returns-clause-legal g c =
    legal_start g.P.PageStore.content c.args.frames c.args.scripts c.new.result c.fill.new.self (g.P.PageStore.content c.args.store)
    c.in_ok-fill.ensures.ok c.requires.empty c.new.ensures.bare c.new.ensures.agrees (g.J.Journal.deeds c.args.journal) c.requires.bare
