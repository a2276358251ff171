use Rattle.std.proofs.Common.{not, refl, sym, ap, ◌∙◌, arith}
use Rattle.std.proofs.lemmas.Bool.{lt-ltb, le-ltb}
use Rattle.vm_model.specs.Naming.Names.{Lineage, may_decommit}
use Rattle.vmo_ops.specs.Targets.{with_tables}
use Rattle.vmo_ops.proofs.NameLaws.{named_inside, named_known}
use Rattle.vmo_ops.proofs.AskLaws.{hit, skip, by_name, decommit_rows, of_lineage, whole_parts, pinned_row}
use Rattle.vmo_ops.proofs.decommitting.ask_to_decommit.Goals as goal

pub may_decommit-requires : goal.may_decommit-requires
may_decommit-requires g c = named_known _ _ c.requires.parts.good c.requires.named

pub place_in_vmo-requires-clause-inside : goal.place_in_vmo-requires-clause-inside
place_in_vmo-requires-clause-inside g c = named_inside _ _ c.requires.parts.good c.requires.named

pub returns-then-not-t : goal.returns-then-not-t
returns-then-not-t g c = λ rest name named.
    let s = with_tables rest (g.P.PageStore.content c.args.store.now) c.args.vmos.now c.args.pins.now in
    by_name s name.0 _ named (decommit_rows s c.args.offset c.args.len) _ (hit _ _ _ (ap not c.if-not-t.true))

pub returns-then-not-is_whole : goal.returns-then-not-is_whole
returns-then-not-is_whole g c = λ rest name named.
    let s = with_tables rest (g.P.PageStore.content c.args.store.now) c.args.vmos.now c.args.pins.now in
    by_name s name.0 _ named (decommit_rows s c.args.offset c.args.len) _
    (skip _ _ _ _ (ap not c.if-not-t.false) (hit _ _ _ (ap not (sym c.is_whole.ensures ∙ c.if-not-is_whole.true))))

pub returns-then-not-may_decommit : goal.returns-then-not-may_decommit
returns-then-not-may_decommit g c = λ rest name named.
    let s = with_tables rest (g.P.PageStore.content c.args.store.now) c.args.vmos.now c.args.pins.now in
    let t = c.args.t.now in
    by_name s name.0 _ named (decommit_rows s c.args.offset c.args.len) _
    (skip _ _ _ _ (ap not c.if-not-t.false) (skip _ _ _ _ (ap not (sym c.is_whole.ensures ∙ c.if-not-is_whole.false))
    (hit _ _ _ (ap not (sym (of_lineage s t.koid.0 _ (λ (l : Lineage). may_decommit s.names s.lineage t.koid.0 l)
    (named_known _ _ c.requires.parts.good c.requires.named) c.may_decommit.ensures) ∙ c.if-not-may_decommit.true)))))

pub returns-in_default : goal.returns-in_default
returns-in_default g c = λ rest name named.
    let s = with_tables rest (g.P.PageStore.content c.args.store.now) c.args.vmos.now c.args.pins.now in
    let t = c.args.t.now in
    by_name s name.0 _ named (decommit_rows s c.args.offset c.args.len) _
    (skip _ _ _ _ (ap not c.if-not-t.false) (skip _ _ _ _ (ap not (sym c.is_whole.ensures ∙ c.if-not-is_whole.false))
    (skip _ _ _ _ (ap not (sym (of_lineage s t.koid.0 _ (λ (l : Lineage). may_decommit s.names s.lineage t.koid.0 l)
    (named_known _ _ c.requires.parts.good c.requires.named) c.may_decommit.ensures) ∙ c.if-not-may_decommit.false))
    (hit _ _ _ (lt-ltb _ _ c.in_default.ensures.none)))))

pub returns-then-pinned : goal.returns-then-pinned
returns-then-pinned g c = λ rest name named.
    let s = with_tables rest (g.P.PageStore.content c.args.store.now) c.args.vmos.now c.args.pins.now in
    let t = c.args.t.now in
    let placed = c.in-Some.ensures.some in
    by_name s name.0 _ named (decommit_rows s c.args.offset c.args.len) _
    (skip _ _ _ _ (ap not c.if-not-t.false) (skip _ _ _ _ (ap not (sym c.is_whole.ensures ∙ c.if-not-is_whole.false))
    (skip _ _ _ _ (ap not (sym (of_lineage s t.koid.0 _ (λ (l : Lineage). may_decommit s.names s.lineage t.koid.0 l)
    (named_known _ _ c.requires.parts.good c.requires.named) c.may_decommit.ensures) ∙ c.if-not-may_decommit.false))
    (skip _ _ _ _ (le-ltb _ _ placed.range) (hit _ _ _ (pinned_row s.pins t.koid.0 t.first c.args.offset c.args.len _ _ _ placed.place
    c.page_of.ensures c.page_of-2.ensures (whole_parts c.args.offset c.args.len (sym c.is_whole.ensures ∙ c.if-not-is_whole.false)) ∙ (sym c.pinned.ensures ∙ c.if-pinned.true)))))))

pub returns : goal.returns
returns g c =
    let t = c.args.t.now in
    let placed = c.in-Some.ensures.some in
    let whole = whole_parts c.args.offset c.args.len (sym c.is_whole.ensures ∙ c.if-not-is_whole.false) in (
      λ rest name named.
          let s = with_tables rest (g.P.PageStore.content c.args.store.now) c.args.vmos.now c.args.pins.now in
          by_name s name.0 _ named (decommit_rows s c.args.offset c.args.len) _
          (skip _ _ _ _ (ap not c.if-not-t.false) (skip _ _ _ _ (ap not (sym c.is_whole.ensures ∙ c.if-not-is_whole.false))
          (skip _ _ _ _ (ap not (sym (of_lineage s t.koid.0 _ (λ (l : Lineage). may_decommit s.names s.lineage t.koid.0 l)
          (named_known _ _ c.requires.parts.good c.requires.named) c.may_decommit.ensures) ∙ c.if-not-may_decommit.false))
          (skip _ _ _ _ (le-ltb _ _ placed.range) (skip _ _ _ _ (pinned_row s.pins t.koid.0 t.first c.args.offset c.args.len _ _ _ placed.place
          c.page_of.ensures c.page_of-2.ensures whole ∙ (sym c.pinned.ensures ∙ c.if-pinned.false)) refl))))),
      placed,
      omega (arith, placed.place, whole.0),
      whole.1,
      rw (c.page_of.ensures, c.page_of-2.ensures) at (sym c.pinned.ensures ∙ c.if-pinned.false),
    )
