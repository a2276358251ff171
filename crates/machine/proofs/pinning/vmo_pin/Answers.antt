use Rattle.std.proofs.Common.{refl, sym, arith}
use Rattle.vm_model.specs.declared.names.Target.{Target}
use Rattle.machine.specs.inside.Changes.{range_part}
use Rattle.machine.specs.inside.Fields.{state_in}
use Rattle.machine.proofs.ChangeLaws.{pinned_inside, changed_named}
use Rattle.machine.proofs.HandleLaws.{well_in}
use Rattle.machine.proofs.pinning.vmo_pin.Goals as goal

pub pin_into-requires-clause-parts : goal.pin_into-requires-clause-parts
pin_into-requires-clause-parts g c = (state_in (g.P.PageStore.content c.args.pages.now) c.args.tables.now, well_in c.requires.sound)

pub range_changed-requires : goal.range_changed-requires
range_changed-requires g c =
    let s = state_in (g.P.PageStore.content c.args.pages.now) c.args.tables.now in
    pinned_inside s _ c.args.request.pin c.args.request.range.name c.args.request.range.offset c.args.request.range.len c.requires.sound.good (c.in-Ok.ensures.step s c.args.request.range.name (sym c.in-Some.ensures)) (λ refusal e. cc) c.in-Some.ensures

pub returns-in-Ok : goal.returns-in-Ok
returns-in-Ok g c =
    let s = state_in (g.P.PageStore.content c.args.pages.now) c.args.tables.now in record {
      step = c.in-Ok.ensures.step s c.args.request.range.name (sym c.in-Some.ensures);
      changes = changed_named s c.args.request.range.name.0 (λ (target : Target). range_part target c.args.request.range.offset c.args.request.range.len) c.in-Some.ensures c.range_changed.ensures;
      counted = record { counted = c.in-Ok.ensures.counted s c.requires.sound.counted.counted; noted = c.requires.sound.counted.noted };
      name = omega arith;
    }

pub returns-in-Err : goal.returns-in-Err
returns-in-Err g c =
    let s = state_in (g.P.PageStore.content c.args.pages.now) c.args.tables.now in record {
      step = c.in-Err.ensures.step s c.args.request.range.name (sym c.in-Some.ensures);
      changes = refl;
      counted = record { counted = c.in-Err.ensures.counted s c.requires.sound.counted.counted; noted = c.requires.sound.counted.noted };
      name = omega arith;
    }
