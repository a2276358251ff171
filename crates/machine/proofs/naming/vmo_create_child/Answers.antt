use Rattle.std.proofs.Common.{refl, sym, arith}
use Rattle.vm_model.specs.declared.names.Target.{Target}
use Rattle.machine.specs.inside.Changes.{change_of_child}
use Rattle.machine.specs.inside.Fields.{state_in}
use Rattle.machine.proofs.ChangeLaws.{changed_named}
use Rattle.machine.proofs.HandleLaws.{inside_named, together_in, kept_counted}
use Rattle.machine.proofs.naming.vmo_create_child.Goals as goal

pub child_change-change-requires-clause-inside : goal.child_change-change-requires-clause-inside
child_change-change-requires-clause-inside g c = inside_named c.requires.sound c.args.request.parent c.in-Some.ensures

pub create_child-requires-clause-parts : goal.create_child-requires-clause-parts
create_child-requires-clause-parts g c = together_in c.requires.sound

pub returns-in-Ok : goal.returns-in-Ok
returns-in-Ok g c =
    let s = state_in (g.P.PageStore.content c.args.pages.now) c.args.tables.now in record {
      step = c.in-Ok.ensures.step s c.args.request.parent (sym c.in-Some.ensures);
      changes = changed_named s c.args.request.parent.0
          (λ (target : Target). change_of_child c.args.request.kind (g.P.PageStore.content c.args.pages.now) target c.args.request.shape.offset c.args.request.shape.size)
          c.in-Some.ensures c.child_change-change.ensures;
      counted = kept_counted c.requires.sound.counted c.in-Ok.ensures.keepers;
      name = omega arith;
    }

pub returns-in-Err : goal.returns-in-Err
returns-in-Err g c =
    let s = state_in (g.P.PageStore.content c.args.pages.now) c.args.tables.now in record {
      step = c.in-Err.ensures.step s c.args.request.parent (sym c.in-Some.ensures);
      changes = refl;
      counted = kept_counted c.requires.sound.counted c.in-Err.ensures.keepers;
      name = omega arith;
    }
