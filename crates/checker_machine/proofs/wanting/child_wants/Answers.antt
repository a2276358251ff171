use Rattle.std.proofs.Common.{◌≡◌, None, refl, sym, ◌∙◌}
use Rattle.vm_base.proofs.EntryLaws.{none_is}
use Rattle.vm_model.specs.declared.command.ChildKind.TheVariants.{Snapshot, Slice, Reference}
use Rattle.vm_model.specs.declared.command.Command.TheVariants.{VmoChild}
use Rattle.vmo_ops.proofs.NameLaws.{parts_inside}
use Rattle.vmo_ops.specs.Targets.{with_tables}
use Rattle.vmo_table.specs.Table.{names_of}
use Rattle.page_store.specs.Flat.{flat_content}
use Rattle.checker_machine.proofs.WantLaws.{child_unnamed, lack_asked, lack_refused, parts_of}
use Rattle.checker_machine.proofs.wanting.child_wants.Goals as goal

pub returns-in_default : goal.returns-in_default
returns-in_default c = λ s.
    let r = c.args.request in
    let t = with_tables s (flat_content c.args.pages.now) c.args.vmos.now c.args.pins.now in
    lack_refused t (VmoChild c.args.name r.parent r.kind r.shape.offset r.shape.size r.shape.resizable r.shape.no_write)
    (child_unnamed t c.args.name r.parent r.kind r.shape.offset r.shape.size r.shape.resizable r.shape.no_write (sym c.in_default.ensures))

pub ask_to_snapshot-requires-clause-inside : goal.ask_to_snapshot-requires-clause-inside
ask_to_snapshot-requires-clause-inside c = parts_inside _ _ _ (parts_of c.requires) (c.args.request.parent.0, sym c.in-Some.ensures)

pub ask_to_slice-requires-clause-parts : goal.ask_to_slice-requires-clause-parts
ask_to_slice-requires-clause-parts c = parts_of c.requires

pub ask_to_slice-requires-clause-named : goal.ask_to_slice-requires-clause-named
ask_to_slice-requires-clause-named c = (c.args.request.parent.0, sym c.in-Some.ensures)

pub returns-in-Snapshot : goal.returns-in-Snapshot
returns-in-Snapshot c = rw c.in-Snapshot.is (λ s.
    let r = c.args.request in
    let t = with_tables s (flat_content c.args.pages.now) c.args.vmos.now c.args.pins.now in
    let none : names_of c.args.vmos.now c.args.name.0 ≡ None = none_is _ (rw c.resolve-2.ensures at (sym c.is_some.ensures ∙ c.if-is_some.false)) in
    lack_asked t (VmoChild c.args.name r.parent Snapshot r.shape.offset r.shape.size r.shape.resizable r.shape.no_write) c.ask_to_snapshot.result c.is_ok.ensures.value refl
    (λ part e. (rw e at c.ask_to_snapshot.ensures.refusal) t c.args.name r.parent (sym c.in-Some.ensures) none)
    (λ refusal e. (rw e at c.ask_to_snapshot.ensures.refusal) t c.args.name r.parent (sym c.in-Some.ensures) none))

pub returns-in-Slice : goal.returns-in-Slice
returns-in-Slice c = rw c.in-Slice.is (λ s.
    let r = c.args.request in
    let t = with_tables s (flat_content c.args.pages.now) c.args.vmos.now c.args.pins.now in
    let none : names_of c.args.vmos.now c.args.name.0 ≡ None = none_is _ (rw c.resolve-2.ensures at (sym c.is_some.ensures ∙ c.if-is_some.false)) in
    lack_asked t (VmoChild c.args.name r.parent Slice r.shape.offset r.shape.size r.shape.resizable r.shape.no_write) c.ask_to_slice.result c.is_ok-in-Slice.ensures.value refl
    (λ pages e. ((rw e at c.ask_to_slice.ensures) r.shape.no_write).0 t c.args.name r.parent (sym c.in-Some.ensures) none)
    (λ refusal e. ((rw e at c.ask_to_slice.ensures) r.shape.no_write) t c.args.name r.parent (sym c.in-Some.ensures) none))

pub returns-in-Reference : goal.returns-in-Reference
returns-in-Reference c = rw c.in-Reference.is (λ s.
    let r = c.args.request in
    let t = with_tables s (flat_content c.args.pages.now) c.args.vmos.now c.args.pins.now in
    let none : names_of c.args.vmos.now c.args.name.0 ≡ None = none_is _ (rw c.resolve-2.ensures at (sym c.is_some.ensures ∙ c.if-is_some.false)) in
    lack_asked t (VmoChild c.args.name r.parent Reference r.shape.offset r.shape.size r.shape.resizable r.shape.no_write) c.ask_to_reference.result c.is_ok-in-Reference.ensures.value refl
    (λ u e. (rw e at c.ask_to_reference.ensures) (λ x. x) t c.args.name r.parent (sym c.in-Some.ensures) none)
    (λ refusal e. (rw e at c.ask_to_reference.ensures) (λ x. x) t c.args.name r.parent (sym c.in-Some.ensures) none))
