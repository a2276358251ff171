use Rattle.std.proofs.Common.{refl}
use Rattle.vm_model.specs.declared.command.Command.TheVariants.{VmarProtect}
use Rattle.mapping_set.specs.Tables.{table_of}
use Rattle.region_tree.specs.Tree.{regions_of, spaces_of}
use Rattle.region_ops.specs.Spaces.{with_spaces}
use Rattle.checker_machine.proofs.WantLaws.{lack_asked, lack_refused}
use Rattle.checker_machine.proofs.wanting.protect_wants.Goals as goal

pub returns-in-Err : goal.returns-in-Err
returns-in-Err c = λ s.
    let t = with_spaces s (spaces_of (regions_of c.args.regions.now) (table_of c.args.maps.now)) in
    lack_refused t (VmarProtect c.args.range.region c.args.range.addr c.args.range.len c.args.perm) (c.in-Err.ensures _)

pub returns : goal.returns
returns c = λ s.
    let t = with_spaces s (spaces_of (regions_of c.args.regions.now) (table_of c.args.maps.now)) in
    lack_asked t (VmarProtect c.args.range.region c.args.range.addr c.args.range.len c.args.perm) c.ask_to_protect.result c.is_ok.ensures.value refl
    (λ pages e. (rw e at c.ask_to_protect.ensures).2 s) (λ refusal e. (rw e at c.ask_to_protect.ensures) s)
