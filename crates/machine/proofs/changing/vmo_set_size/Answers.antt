use Rattle.std.proofs.Common.{ℕ, ◌/◌, refl, sym, ap}
use Rattle.vm_base.specs.Pages.{rounded}
use Rattle.vm_base.specs.declared.limits.TheConstants.{PAGE}
use Rattle.vm_model.specs.declared.names.Target.{Target}
use Rattle.ready_pages.specs.declared.change.Change.{Change}
use Rattle.machine.specs.inside.Fields.{state_in}
use Rattle.machine.proofs.ChangeLaws.{changed_named}
use Rattle.machine.proofs.HandleLaws.{inside_named}
use Rattle.machine.proofs.changing.vmo_set_size.Goals as goal

pub resize-requires-clause-inside : goal.resize-requires-clause-inside
resize-requires-clause-inside g c = inside_named c.requires c.args.name c.in-Some.ensures

pub returns-in-Ok : goal.returns-in-Ok
returns-in-Ok g c =
    let s = state_in (g.P.PageStore.content c.args.pages.now) c.args.tables.now in record {
      step = c.in-Ok.ensures s c.args.name (sym c.in-Some.ensures);
      changes = changed_named s c.args.name.0 (λ (target : Target). Change.Past target.koid (rounded c.args.size / PAGE)) c.in-Some.ensures (ap (λ (n : ℕ). Change.Past c.in-Some.target.koid n) c.page_count.ensures);
      counted = c.requires.counted;
      name = tt;
    }

pub returns-in-Err : goal.returns-in-Err
returns-in-Err g c =
    let s = state_in (g.P.PageStore.content c.args.pages.now) c.args.tables.now in
    record { step = c.in-Err.ensures s c.args.name (sym c.in-Some.ensures); changes = refl; counted = c.requires.counted; name = tt }
