use Rattle.std.proofs.Common.{ℕ, ◌+◌, ◌*◌, List, sym, ap, ◌∙◌}
use Rattle.vm_base.specs.declared.limits.TheConstants.{PAGE}
use Rattle.vm_model.specs.Contents.Writing.{touched}
use Rattle.vm_model.specs.declared.names.Target.{Target}
use Rattle.vmo_ops.specs.Targets.{with_content}
use Rattle.vmo_ops.proofs.AskLaws.{change_barred, change_lacks, change_fits}
use Rattle.vmo_ops.proofs.ready.ask_to_own.Goals as goal

-- the pages that the range touches
abbrev owned : (offset len : ℕ) → Target → List ℕ
owned offset len t = touched (t.first * PAGE + offset) len

pub returns-in-Err-clause-refusal : goal.returns-in-Err-clause-refusal
returns-in-Err-clause-refusal g c = λ rest name named.
    change_barred (with_content (g.P.PageStore.content c.args.store.now) rest) name.0 _ named c.args.offset c.args.len (owned c.args.offset c.args.len) _ c.in-Err.ensures.err

pub returns-in-None-clause-refusal : goal.returns-in-None-clause-refusal
returns-in-None-clause-refusal g c = λ rest name named.
    let placed = c.in-Ok.ensures.ok in
    change_lacks (with_content (g.P.PageStore.content c.args.store.now) rest) name.0 _ named c.args.offset c.args.len (owned c.args.offset c.args.len)
    placed.0 placed.1.range _ (ap (λ (a : ℕ). touched a c.args.len) (sym placed.1.place) ∙ c.touched_by-pages.ensures.row) c.in-None.ensures.none

pub returns-in-Some-clause-refusal : goal.returns-in-Some-clause-refusal
returns-in-Some-clause-refusal g c = λ rest name named.
    let placed = c.in-Ok.ensures.ok in
    change_fits (with_content (g.P.PageStore.content c.args.store.now) rest) name.0 _ named c.args.offset c.args.len (owned c.args.offset c.args.len)
    placed.0 placed.1.range _ (ap (λ (a : ℕ). touched a c.args.len) (sym placed.1.place) ∙ c.touched_by-pages.ensures.row) c.in-Some.ensures.some.1
