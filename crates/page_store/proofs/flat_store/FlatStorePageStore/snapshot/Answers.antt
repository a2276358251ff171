use Rattle.std.proofs.Common.{◌+◌, refl, ap, subst, ◌∙◌, arith}
use Rattle.vm_model.specs.Contents.Content.{Content, created, IsGood}
use Rattle.page_store.specs.Flat.{Flat, flat_of, flat_content, flat_spare}
use Rattle.page_store.proofs.RowLaws.{row_page}
use Rattle.page_store.proofs.VmoLaws.{pages_low}
use Rattle.page_store.proofs.HeldLaws.{held-next}
use Rattle.page_store.proofs.SnapshotLaws.{showing-start, showing-seen, showing-zero, showing-good, showing-next, showing-end}
use Rattle.page_store.proofs.flat_store.FlatStorePageStore.snapshot.Goals as goal

pub overflow_add-end : goal.overflow_add-end
overflow_add-end c =
    let range = rw (← c.self.view_is) at c.requires.range in
    omega (arith, range, pages_low (flat_content (flat_of c.self.inside)) c.args.of.0 c.self.invariant.flat.good (rw (← c.self.view_is) at c.requires.vmo))

pub add_vmo-koid-requires-clause-room : goal.add_vmo-koid-requires-clause-room
add_vmo-koid-requires-clause-room c = rw c.reserve_rows.ensures.vmos c.in_ok-reserve_vmo.ensures.room

pub loop-page-init : goal.loop-page-init
loop-page-init c =
    let same = c.reserve_rows.ensures.same ∙ c.reserve_vmo.ensures.same in
    let spare = ap flat_spare c.self.view_is in
    record {
      end = omega arith;
      shown = showing-start (flat_content c.args.self.now) (flat_content c.add_vmo-koid.new.self) c.args.of.0 c.args.first (c.args.first + c.args.seen) c.args.count c.add_vmo-koid.result.0
          (subst (λ (f : Flat). IsGood (flat_content f)) c.self.view_is c.self.invariant.flat.good) c.requires.vmo
          (c.add_vmo-koid.ensures.koid ∙ ap (λ (s : Content). s.next) same) (c.add_vmo-koid.ensures.content ∙ ap (λ (s : Content). created s c.args.count) same)
          (omega (arith, c.requires.seen)) c.requires.count;
      room = omega (arith, c.add_vmo-koid.ensures.spare, c.in_ok-reserve_rows.ensures.room, c.in-Some.ensures, c.count_held-held.ensures, spare);
    }

pub show_page-requires-clause-zero : goal.show_page-requires-clause-zero
show_page-requires-clause-zero c = showing-zero (flat_content c.args.self.now) (flat_content c.loop-page.self) _ _ _ _ _ _ c.loop-page.invariant.shown _ c.in-Some-held_below.ensures.some

pub show_page-requires-clause-good : goal.show_page-requires-clause-good
show_page-requires-clause-good c =
    showing-good (flat_content c.args.self.now) (flat_content c.loop-page.self) _ _ _ _ _ _ c.loop-page.invariant.shown _ _ c.in-Some-held_below.ensures.some
    (row_page c.loop-page.self c.args.of.0 c.in-Some-held_below.page c.in-Some-held_below.tag c.in-Some-held_below.ensures.tag)

pub show_page-requires-clause-room : goal.show_page-requires-clause-room
show_page-requires-clause-room c =
    let next = showing-seen (flat_content c.args.self.now) (flat_content c.loop-page.self) _ _ _ _ _ _ c.loop-page.invariant.shown _ c.in-Some-held_below.ensures.some in
    omega (arith, c.loop-page.invariant.room, held-next (flat_content c.args.self.now) c.args.of.0 c.loop-page.from (c.args.first + c.args.seen) _ next)

pub overflow_add-from : goal.overflow_add-from
overflow_add-from c =
    let next = c.in-Some-held_below.ensures.some in
    let below = next.below in
    let few = pages_low (flat_content c.args.self.now) c.args.of.0 c.loop-page.invariant.shown.good c.requires.vmo in
    omega (arith, below, few, c.requires.range)

pub loop-page-preserved : goal.loop-page-preserved
loop-page-preserved c =
    let s = c.loop-page.invariant.shown in
    let next = c.in-Some-held_below.ensures.some in
    let seen = showing-seen (flat_content c.args.self.now) (flat_content c.loop-page.self) _ _ _ _ _ _ s _ next in
    record {
      end = let below = next.below in omega arith;
      shown = showing-next (flat_content c.args.self.now) (flat_content c.loop-page.self) _ _ _ _ _ _ s (flat_content c.show_page.new.self) _ _ next
          (row_page c.loop-page.self c.args.of.0 c.in-Some-held_below.page c.in-Some-held_below.tag c.in-Some-held_below.ensures.tag) c.show_page.ensures.content;
      room = omega (arith, c.loop-page.invariant.room, c.show_page.ensures.spare, held-next (flat_content c.args.self.now) c.args.of.0 c.loop-page.from (c.args.first + c.args.seen) _ seen);
    }

pub returns-clause-ok : goal.returns-clause-ok
returns-clause-ok c =
    showing-end (flat_content c.args.self.now) (flat_content c.loop-page.self) _ _ _ _ _ _ c.loop-page.invariant.shown c.args.seen refl c.loop-page.invariant.end c.in_default-held_below.ensures.none
