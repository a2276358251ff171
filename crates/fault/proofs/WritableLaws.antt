-- Laws of a page that may be written, as it is found before anything is written.
use Rattle.std.proofs.Common.{◌≡◌, ℕ, ◌+◌, ◌≤◌, Bool, true, false, [], ◌∷◌, Option, None, Some, refl, sym, ap, subst, ◌∙◌, inl, inr, arith}
use Rattle.std.specs.Prelude.{is_some, IfSome}
use Rattle.std.specs.Option.{option_map}
use Rattle.std.proofs.lemmas.Bool.{cases_Bool}
use Rattle.vm_base.specs.declared.names.Tag.{Tag}
use Rattle.vm_base.proofs.EntryLaws.{some_same}
use Rattle.vm_model.specs.declared.space.Entry.{Entry}
use Rattle.vm_model.specs.declared.space.Readiness.{Readiness}
use Rattle.vm_model.specs.declared.space.Readiness.TheVariants.{Read, Write}
use Rattle.vm_model.specs.Contents.Content.{Page, Content, used, sole}
use Rattle.vm_model.specs.Contents.Owning.{need_from, need_each}
use Rattle.vm_model.specs.Space.Readiness.{frame_at, is_writable}
use Rattle.vm_model.specs.Machine.Access.{refusal_at}
use Rattle.vm_model.proofs.ContentLaws.{sole_held}
use Rattle.fault.specs.declared.translation.Translation.{Translation}
use Rattle.fault.specs.declared.checking.TouchedPage.{TouchedPage}
use Rattle.fault.specs.declared.writable.WritablePage.{WritablePage}
use Rattle.fault.specs.Table.{Places, AreTrue, ready_of, translated_frame, IsOfEntry}
use Rattle.fault.specs.inside.Touching.{IsTouched}
use Rattle.fault.specs.inside.Writable.{writing_frame, IsAbsent, IsSoleWith, IsWritable}
use Rattle.page_store.specs.Needs.{MayOwn}
use Rattle.fault.proofs.CheckLaws.{below-free}

-- a page that is ready for writing is ready for that
pub is_writable-is : (o : Option Readiness) → is_writable o ≡ true → o ≡ Some Write
is_writable-is None e = absurd cc
is_writable-is (Some Read) e = absurd cc
is_writable-is (Some Write) e = refl

-- a frame has a number
is_held_by : (o : Option Tag) (tag : ℕ) → option_map (λ (t : Tag). t.0) o ≡ Some tag → is_some o ≡ true
is_held_by None tag e = absurd cc
is_held_by (Some t) tag e = refl

-- a page that has no translation has none while the translations stay
pub IsAbsent-stays : (places now : Places) (root p : ℕ) (page : WritablePage) → now ≡ places → IsAbsent places root p page → IsAbsent now root p page
IsAbsent-stays places now root p page same absent = λ e. ap (λ (m : Places). m root p) same ∙ absent e

-- where no translation was found, there is none
none-of : (o : Option Translation) → is_some o ≡ false → o ≡ None
none-of None e = refl
none-of (Some x) e = absurd cc

module _ (c : Content) (table : ℕ → ℕ → Option Entry) (places : Places) (root p : ℕ) (are : AreTrue c table places) where
  -- the translation that the page has, if it has one, is of the entry
  pub entry-found : (entry : Entry) (now : Places) → table root p ≡ Some entry → now ≡ places → IsOfEntry now root p entry
  entry-found entry now is same = subst (λ (m : Places). IsOfEntry m root p entry) (sym same) (go (places root p) refl) where
    go : (o : Option Translation) → places root p ≡ o → IfSome o (λ x. x.entry ≡ entry)
    go None e = tt
    go (Some x) e = some_same (sym (are.entry root p x e) ∙ is)

  -- what a check finds of a page that may be written
  module _ (right : ℕ) (touched : TouchedPage) (frame : Option Tag) (is : IsTouched c table places right root p touched) (same : frame ≡ writing_frame touched.translation) where
    -- where it is translated for writing, the page of the VMO is sole, with the frame of the translation
    sole_with : (x : Translation) → places root p ≡ Some x → x.readiness ≡ Write
        → (sole c touched.entry.koid.0 touched.entry.page ≡ true) × (translated_frame x ≡ frame_at c touched.entry.koid.0 touched.entry.page)
    sole_with x e writes =
        let one : x.entry ≡ touched.entry = some_same (sym (are.entry root p x e) ∙ is.entry) in (
          subst (λ (entry : Entry). sole c entry.koid.0 entry.page ≡ true) one (are.alone root p x e writes),
          subst (λ (entry : Entry). translated_frame x ≡ frame_at c entry.koid.0 entry.page) one (are.frame root p x e),
        )

    -- there is a frame exactly where the page is ready for writing
    ready-is : (o : Option Translation) → places root p ≡ o → frame ≡ writing_frame o → is_some frame ≡ is_writable (ready_of places root p)
    ready-is None e f = rw (f, e) refl
    ready-is (Some x) e f = elim (cases_Bool (is_writable (Some x.readiness))) [
      | inl writes ↦
          let sole_here = sole_with x e (some_same (is_writable-is (Some x.readiness) writes)) in
          let page = sole_held c touched.entry.koid.0 touched.entry.page sole_here.0 in
          let tag = is_held_by x.frame page.0.tag (sole_here.1 ∙ ap (option_map (λ (held : Page). held.tag)) page.1) in
          rw (f, e, writes) tag
      | inr reads ↦ rw (f, e, reads) refl
    ]

    -- and the page of the VMO is sole with it
    held : (o : Option Translation) → places root p ≡ o → frame ≡ writing_frame o → (tag : Tag) → frame ≡ Some tag
        → IsSoleWith c touched.entry.koid.0 touched.entry.page tag.0
    held None e f tag g = absurd cc
    held (Some x) e f tag g = elim (cases_Bool (is_writable (Some x.readiness))) [
      | inl writes ↦
          let sole_here = sole_with x e (some_same (is_writable-is (Some x.readiness) writes)) in
          let is_frame : x.frame ≡ Some tag = sym (rw writes at f) ∙ g in
          record { alone = sole_here.0; frame = sym sole_here.1 ∙ ap (option_map (λ (t : Tag). t.0)) is_frame }
      | inr reads ↦ absurd (let none : frame ≡ None = rw reads at f in cc)
    ]

    sole_with-touched : (tag : Tag) → frame ≡ Some tag → IsSoleWith c touched.entry.koid.0 touched.entry.page tag.0
    sole_with-touched tag e = held touched.translation is.translation same tag e

    -- and so it may be written
    pub IsWritable-from_IsTouched : (translated : Bool) (link : ℕ) → translated ≡ is_some touched.translation
        → IsWritable c table places root p (record { entry = touched.entry; translated = translated; link = link; frame = frame })
        × (refusal_at c right (table root p) ≡ None)
    IsWritable-from_IsTouched translated link translated_is = (
      record {
        entry = is.entry;
        ready = ready-is touched.translation is.translation same;
        absent = λ e. is.translation ∙ none-of touched.translation (sym translated_is ∙ e);
        store = record {
          below = below-free c right touched.entry is.free;
          frame = sole_with-touched;
        };
      },
      ap (refusal_at c right) is.entry ∙ is.free,
    )

-- where the frame is free that owning a page needs, it is there where the page is not sole
pub one-free : (c : Content) (v p : ℕ) → used c + need_each c (record { koid = v; page = p } ∷ []) ≤ c.frames → MayOwn c v p
unfolding need_from
one-free c v p free = elim (cases_Bool (sole c v p)) [
  | inl alone ↦ inl alone
  | inr shared ↦ let one : need_each c (record { koid = v; page = p } ∷ []) ≡ 1 = rw shared refl in inr (omega (arith, free, one))
]
