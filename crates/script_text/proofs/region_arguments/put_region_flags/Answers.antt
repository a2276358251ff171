use Rattle.std.proofs.Common.{◌∙◌, [], ◌∷◌, take}
use Rattle.std.specs.Prelude.{codes}
use Rattle.vm_model.specs.Space.Rights.{has}
use Rattle.script_text.proofs.SpacedLaws.{after_flag, last_flag}
use Rattle.script_text.proofs.region_arguments.put_region_flags.Goals as goal

pub returns-clause-written : goal.returns-clause-written
returns-clause-written c =
    let n = c.args.flags.0 in
    let m = c.args.caps.0 in
    let start = take c.args.at c.args.out.now in
    let first = take c.put_flag-at.result c.put_flag-at.new.out in
    let second = take c.put_flag-at-2.result c.put_flag-at-2.new.out in
    let third = take c.put_flag-at-3.result c.put_flag-at-3.new.out in
    let fourth = take c.put_flag-at-4.result c.put_flag-at-4.new.out in
    let last = take c.put_flag.result c.put_flag.new.out in
    let execute = (codes "can_execute", has m 4) ∷ [] in
    let write = (codes "can_write", has m 2) ∷ execute in
    let read = (codes "can_read", has m 1) ∷ write in
    let upper = (codes "upper_limit", has n 4) ∷ read in
    last_flag fourth last (codes "can_execute") c.contains-5.result (has m 4) c.put_flag.ensures.written
    (c.contains-5.ensures tt)
    ∙ after_flag third fourth (codes "can_write") c.contains-4.result (has m 2) execute c.put_flag-at-4.ensures.written
    (c.contains-4.ensures tt)
    ∙ after_flag second third (codes "can_read") c.contains-3.result (has m 1) write c.put_flag-at-3.ensures.written
    (c.contains-3.ensures tt)
    ∙ after_flag first second (codes "upper_limit") c.contains-2.result (has n 4) read c.put_flag-at-2.ensures.written
    (c.contains-2.ensures tt)
    ∙ after_flag start first (codes "specific") c.contains.result (has n 1) upper c.put_flag-at.ensures.written
    (c.contains.ensures tt)
