use Rattle.std.proofs.Common.{◌∙◌, [], ◌∷◌, take}
use Rattle.std.specs.Prelude.{codes}
use Rattle.vm_model.specs.Space.Rights.{has}
use Rattle.script_text.proofs.SpacedLaws.{after_flag, last_flag}
use Rattle.script_text.proofs.region_arguments.put_map_flags.Goals as goal

pub returns-clause-written : goal.returns-clause-written
returns-clause-written c =
    let n = c.args.flags.0 in
    let start = take c.args.at c.args.out.now in
    let first = take c.put_flag-at.result c.put_flag-at.new.out in
    let second = take c.put_flag-at-2.result c.put_flag-at-2.new.out in
    let third = take c.put_flag-at-3.result c.put_flag-at-3.new.out in
    let last = take c.put_flag.result c.put_flag.new.out in
    let faults = (codes "allow_faults", has n 8) ∷ [] in
    let upper = (codes "upper_limit", has n 4) ∷ faults in
    let over = (codes "specific_overwrite", has n 2) ∷ upper in
    last_flag third last (codes "allow_faults") c.contains-4.result (has n 8) c.put_flag.ensures.written
    (c.contains-4.ensures tt)
    ∙ after_flag second third (codes "upper_limit") c.contains-3.result (has n 4) faults c.put_flag-at-3.ensures.written
    (c.contains-3.ensures tt)
    ∙ after_flag first second (codes "specific_overwrite") c.contains-2.result (has n 2) upper
    c.put_flag-at-2.ensures.written (c.contains-2.ensures tt)
    ∙ after_flag start first (codes "specific") c.contains.result (has n 1) over c.put_flag-at.ensures.written
    (c.contains.ensures tt)
