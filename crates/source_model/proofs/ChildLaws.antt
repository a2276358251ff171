-- Laws of snapshots, and of pages that are evicted: what each text is then.
use Rattle.std.proofs.Common.{◌≡◌, ℕ, ◌+◌, ◌*◌, ◌<◌, ◌≤◌, inl, inr, ◌==◌, Bool, false, cond, map, List, Option, None, Some, refl, sym, ap, ◌∙◌, arith}
use Rattle.std.specs.List.{range_with_len}
use Rattle.std.proofs.lemmas.Bool.{cases_eq, cases_lt, lt-ltb, le-ltb}
use Rattle.vm_base.specs.declared.limits.TheConstants.{PAGE}
use Rattle.vm_base.specs.Entries.{with_key}
use Rattle.vm_base.specs.Pages.{zeros}
use Rattle.vm_base.proofs.EntryLaws.{with_key-same, with_key-other}
use Rattle.vm_base.proofs.SearchLaws.{eqb_same, eqb_apart}
use Rattle.vm_model.specs.Contents.Content.{Content, Page, pages_of}
use Rattle.vm_model.specs.Contents.Sharing.{snapshotted, page_seen}
use Rattle.vm_model.proofs.SharingLaws.{page_seen-in, page_seen-out, page-snapshotted_new, page-snapshotted_other}
use Rattle.source_model.specs.declared.backing.Backing.{Backing}
use Rattle.source_model.specs.declared.link.Link.{Link}
use Rattle.source_model.specs.Sources.{source_byte, backing_text, held_text, text_over}
use Rattle.source_model.specs.Links.{page_below, walked}
use Rattle.source_model.specs.State.{with_text, child_text, seen_of, moved}
use Rattle.source_model.proofs.FillingLaws.{backing-seen, backing-behind}
use Rattle.source_model.proofs.LinkLaws.{below-unlinked, walked-end}
use Rattle.source_model.proofs.BesideLaws.{IsFresh, text_beside}

module _ (c : Content) (backing : ℕ → Option Backing) (link : ℕ → Option Link) (fresh : IsFresh c backing link) (v start pages : ℕ) (b : Backing)
    (e : backing v ≡ Some b) (unlinked : link v ≡ None) (few : b.seen ≤ pages_of c v) where
  abbrev seen : ℕ
  seen = seen_of (pages_of c v) start pages

  abbrev child : Content
  child = snapshotted c v start seen pages

  abbrev others : ℕ → Option Backing
  others = with_key backing c.next (moved start pages b)

  abbrev before : ℕ → ℕ → List ℕ
  before = walked c backing (page_below c link)

  -- a page of the child comes from the source as the parent's does
  backing_moved : (q : ℕ) → q < seen → backing_text (Some (moved start pages b)) q ≡ backing_text (Some b) (start + q)
  unfolding moved
  backing_moved q h = elim (cases_lt (start + q) b.seen) [
    | inl less ↦
        let there : q < seen_of b.seen start pages = omega (arith, less, h) in
        let some : (seen_of b.seen start pages == 0) ≡ false = eqb_apart (seen_of b.seen start pages) 0 (λ z. omega (arith, there, z)) in
        backing-seen (moved start pages b) q there
        ∙ (ap (λ (t : Bool). map (source_byte b.kind b.seed) (range_with_len ((cond t 0 (b.base + start) + q) * PAGE) PAGE)) some
        ∙ (ap (λ (n : ℕ). map (source_byte b.kind b.seed) (range_with_len (n * PAGE) PAGE)) (omega arith) ∙ sym (backing-seen b (start + q) less)))
    | inr past ↦ backing-behind (moved start pages b) q (omega (arith, past)) ∙ sym (backing-behind b (start + q) past)
  ]

  parent_text : (p : ℕ) → before v p ≡ held_text (c.page v p) (backing_text (Some b) p)
  unfolding text_over
  parent_text p = walked-end c backing (page_below c link) v p (below-unlinked c link v p unlinked)
      ∙ ap (λ (o : Option Backing). held_text (c.page v p) (backing_text o p)) e

  own_text : (q : ℕ) → text_over child others c.next q ≡ held_text (page_seen c v start seen q) (backing_text (Some (moved start pages b)) q)
  unfolding text_over
  own_text q = ap (λ (o : Option Page). held_text o (backing_text (others c.next) q)) (page-snapshotted_new c v start seen pages q)
      ∙ ap (λ (o : Option Backing). held_text (page_seen c v start seen q) (backing_text o q)) (with_key-same backing c.next (moved start pages b))

  child_at : (q : ℕ) → walked child others (page_below child link) c.next q ≡ child_text before v start seen q
  unfolding held_text moved
  child_at q = walked-end child others (page_below child link) c.next q (below-unlinked child link c.next q fresh.link) ∙ (own_text q ∙ elim (cases_lt q seen) [
    | inl less ↦
        ap (λ (o : Option Page). held_text o (backing_text (Some (moved start pages b)) q)) (page_seen-in c v start seen q less)
        ∙ (ap (λ (xs : List ℕ). held_text (c.page v (start + q)) xs) (backing_moved q less)
        ∙ (sym (parent_text (start + q)) ∙ sym (ap (λ (t : Bool). cond t (before v (start + q)) zeros) (lt-ltb q seen less))))
    | inr past ↦
        ap (λ (o : Option Page). held_text o (backing_text (Some (moved start pages b)) q)) (page_seen-out c v start seen q past)
        ∙ (backing-behind (moved start pages b) q (omega (arith, past, few))
        ∙ sym (ap (λ (t : Bool). cond t (before v (start + q)) zeros) (le-ltb q seen past)))
  ])

  pub text_child : (w q : ℕ) → walked child others (page_below child link) w q ≡ with_text before c.next (child_text before v start seen) w q
  unfolding with_text
  text_child w q = elim (cases_eq w c.next) [
    | inl same ↦ rw (same, eqb_same c.next) (child_at q)
    | inr apart ↦ text_beside c child backing others link link c.next (record {
      page = λ u p differs. page-snapshotted_other c v start seen pages u p differs;
      backing = λ u differs. with_key-other backing c.next (moved start pages b) u differs;
      link = λ u differs. refl;
      childless = fresh.childless;
    }) w q apart ∙ sym (ap (λ (t : Bool). cond t (child_text before v start seen q) (before w q)) (eqb_apart w c.next apart))
  ]
