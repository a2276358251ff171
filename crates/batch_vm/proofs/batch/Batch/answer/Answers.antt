use Rattle.std.proofs.Common.{inl, refl}
use Rattle.vm_core.specs.Vm.{machine_of}
use Rattle.vm_core.proofs.AgreeLaws.{agrees_good}
use Rattle.batch_model.specs.Batch.{AreGoodJobs}
use Rattle.batch_model.proofs.GoodLaws.{BatchStep-jobs}
use Rattle.batch_vm.specs.Jobs.{jobs_of}
use Rattle.batch_vm.proofs.BatchLaws.{jobs_kept}
use Rattle.batch_vm.proofs.batch.Batch.answer.Given as given
use Rattle.batch_vm.proofs.batch.Batch.answer.Goals as goal

-- the jobs after one began
begun : (g : given.Over) (c : goal.After-begin g) → AreGoodJobs (jobs_of c.begin.new.table)
begun g c = jobs_kept _ _ _ _ _ _ (rw (← c.self.view_is) at c.requires.agrees) c.self.invariant.good c.begin.ensures

pub invariant_of-self-in-Begin : goal.invariant_of-self-in-Begin
invariant_of-self-in-Begin g c = record { good = begun g c }

pub returns-in-Begin-clause-good : goal.returns-in-Begin-clause-good
returns-in-Begin-clause-good g c = record { machine = c.begin.ensures.good; jobs = begun g c }

-- after a step of one
stepped : (g : given.Over) (c : goal.After-do_piece g) → AreGoodJobs (jobs_of c.do_piece.new.table)
stepped g c = jobs_kept _ _ _ _ _ _ (rw (← c.self.view_is) at c.requires.agrees) c.self.invariant.good c.do_piece.ensures

pub invariant_of-self-in-Step : goal.invariant_of-self-in-Step
invariant_of-self-in-Step g c = record { good = stepped g c }

pub returns-in-Step-clause-good : goal.returns-in-Step-clause-good
returns-in-Step-clause-good g c = record { machine = c.do_piece.ensures.good; jobs = stepped g c }

-- and after one was given up
dropped : (g : given.Over) (c : goal.After-drop_job g) → AreGoodJobs (jobs_of c.drop_job.new.table)
dropped g c =
    let agrees = rw (← c.self.view_is) at c.requires.agrees in
    BatchStep-jobs _ _ _ _ agrees.good c.self.invariant.good (c.drop_job.ensures (machine_of (g.P.PageStore.content c.args.store.now) c.self.inside.vm))

pub invariant_of-self-in-Drop : goal.invariant_of-self-in-Drop
invariant_of-self-in-Drop g c = record { good = dropped g c }

pub returns-in-Drop-clause-good : goal.returns-in-Drop-clause-good
returns-in-Drop-clause-good g c = record { machine = agrees_good _ _ (rw (← c.self.view_is) at c.requires.agrees); jobs = dropped g c }

-- ---- the step of each kind of command: its parts are those of the whole

pub returns-in-Plain-clause-step : goal.returns-in-Plain-clause-step
returns-in-Plain-clause-step g c =
    rw (← c.self.view_is, c.in-Plain.is) (record { outcome = inl (record { answer = c.answer.result; step = c.answer.ensures.step; is = refl; jobs = refl }) })

pub returns-in-Begin-clause-step : goal.returns-in-Begin-clause-step
returns-in-Begin-clause-step g c = rw (← c.self.view_is, c.in-Begin.is) c.begin.ensures.step

pub returns-in-Step-clause-step : goal.returns-in-Step-clause-step
returns-in-Step-clause-step g c = rw (← c.self.view_is, c.in-Step.is) c.do_piece.ensures.step
