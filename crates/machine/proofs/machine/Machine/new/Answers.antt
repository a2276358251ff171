use Rattle.region_tree.proofs.NotedLaws.{AreNoted-none}
use Rattle.machine.proofs.StartLaws.{counts_none, state_of-bare}
use Rattle.machine.proofs.machine.Machine.new.Goals as goal

pub invariant_of-result : goal.invariant_of-result
invariant_of-result g c = record {
  counted = counts_none (record { vmos = c.new.result; pins = c.new-2.result; regions = c.new-3.result; maps = c.new-4.result; ready = c.args.ready }) c.new.ensures.keepers c.new-2.ensures c.new-4.ensures.table;
  noted = AreNoted-none _ _ c.new-3.ensures c.new-4.ensures.places;
}

pub returns-clause-bare : goal.returns-clause-bare
returns-clause-bare g c = λ d.
    state_of-bare d (record { vmos = c.new.result; pins = c.new-2.result; regions = c.new-3.result; maps = c.new-4.result; ready = c.args.ready })
    c.new.ensures.names c.new.ensures.lineage c.new-2.ensures c.new-3.ensures c.new-4.ensures.table
