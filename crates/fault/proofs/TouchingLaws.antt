-- Laws of a page that an access may touch, and of what reading it does.
use Rattle.std.proofs.Common.{◌≡◌, ℕ, ◌+◌, ◌<◌, true, false, cond, not, ◌&&◌, ◌==◌, List, [], ◌∷◌, length, Option, None, Some, refl, sym, subst, ap, ◌∙◌, inl, inr, arith}
use Rattle.std.specs.Prelude.{is_some}
use Rattle.std.specs.List.{filter, list_any}
use Rattle.std.proofs.lemmas.Bool.{cases_Bool}
use Rattle.std.proofs.lemmas.Bool.Decides.{nat_tests}
use Rattle.vm_base.specs.Entries.{passes}
use Rattle.vm_model.specs.Contents.Zeroing.{is_within}
use Rattle.vm_model.specs.declared.space.Entry.{Entry}
use Rattle.vm_model.specs.declared.space.Readiness.{Readiness}
use Rattle.vm_model.specs.declared.space.Readiness.TheVariants.{Read}
use Rattle.vm_model.specs.Contents.Content.{Content}
use Rattle.vm_model.specs.Space.Readiness.{with_ready, frame_at, shows_in}
use Rattle.vm_model.proofs.ReadinessLaws.{is_same_frame-same}
use Rattle.vm_model.specs.Machine.Access.{refusal_at, read_faults}
use Rattle.fault.specs.declared.translation.Translation.{Translation}
use Rattle.fault.specs.declared.checking.TouchedPage.{TouchedPage}
use Rattle.fault.specs.Table.{Places, AreTrue, ready_of, translated_frame, with_translation, translations_without, is_outdated}
use Rattle.fault.specs.inside.Touching.{IsTouched, IsTranslationOf, IsFoundPage, ReadsPage, missing_in}
use Rattle.fault.proofs.CheckLaws.{below-free}
use Rattle.fault.proofs.TranslationLaws.{AreTrue-with_translation, ready_of-with_translation, with_translation-other}

-- each translation of the page that an entry shows holds its frame, where translations are true
alike-from_AreTrue : {c : Content} {table : ℕ → ℕ → Option Entry} {places : Places} → AreTrue c table places → (entry : Entry) (r q : ℕ) (x : Translation)
    → places r q ≡ Some x → x.entry.koid.0 ≡ entry.koid.0 → x.entry.page ≡ entry.page → translated_frame x ≡ frame_at c entry.koid.0 entry.page
alike-from_AreTrue {c} are entry r q x stands koid page = are.frame r q x stands ∙ (λ i. frame_at c (koid i) (page i))

-- what was found of a page, where translations are true
pub IsFoundPage-from_IsTouched : {c : Content} {table : ℕ → ℕ → Option Entry} {places same_places : Places} {right root page : ℕ} {touched : TouchedPage}
    → same_places ≡ places → AreTrue c table places → IsTouched c table places right root page touched → IsFoundPage c same_places root page touched
IsFoundPage-from_IsTouched {c} {places} {right} {root} {page} {touched} same_places are is =
    subst (λ (p : Places). IsFoundPage c p root page touched) (sym same_places) (record {
      translation = is.translation;
      below = below-free c right touched.entry is.free;
      of_entry = λ x found.
          let stands : places root page ≡ Some x = is.translation ∙ found in
          let entry : ◌≡◌ {A = Option Entry} (Some x.entry) (Some touched.entry) = sym (are.entry root page x stands) ∙ is.entry in
          let same : x.entry ≡ touched.entry = cc in
          record { same = same; frame = rw (sym same) (are.frame root page x stands) };
      alike = alike-from_AreTrue are touched.entry;
    })

-- and where its translation stays, and they are true then
pub IsFoundPage-stays : {c : Content} (table : ℕ → ℕ → Option Entry) {old new : Places} {root page : ℕ} {touched : TouchedPage}
    → AreTrue c table new → new root page ≡ old root page → IsFoundPage c old root page touched → IsFoundPage c new root page touched
IsFoundPage-stays table {touched = touched} are same is = record {
  translation = same ∙ is.translation;
  below = is.below;
  of_entry = is.of_entry;
  alike = alike-from_AreTrue are touched.entry;
}

-- nothing is forgotten where no translation of the page holds another frame
translations_without-same : (c : Content) (places : Places) (root page : ℕ) (touched : TouchedPage) (x : Translation) → IsFoundPage c places root page touched → IsTranslationOf c touched.entry x
    → translations_without (is_outdated x.entry.koid.0 x.entry.page (translated_frame x)) places ≡ places
unfolding translations_without passes
translations_without-same c places root page touched x found of_entry = λ i r q. go r q (places r q) refl i where
  shows : (v p w q : ℕ) → ((w == v) && is_within p (p + 1) q) ≡ true → (w ≡ v) × (q ≡ p)
  shows v p w q e = grind (arith, nat_tests)

  holds : (r q : ℕ) (y : Translation) → places r q ≡ Some y → is_outdated x.entry.koid.0 x.entry.page (translated_frame x) r q y ≡ false
  holds r q y stands = elim (cases_Bool (shows_in x.entry.koid.0 x.entry.page (x.entry.page + 1) y.entry)) [
    | inl here ↦
        let page_is = shows x.entry.koid.0 x.entry.page y.entry.koid.0 y.entry.page here in
        let koid = page_is.0 ∙ ap (λ (entry : Entry). entry.koid.0) of_entry.same in
        let page = page_is.1 ∙ ap (λ (entry : Entry). entry.page) of_entry.same in
        let same : translated_frame y ≡ translated_frame x = found.alike r q y stands koid page ∙ sym of_entry.frame in
        rw (here, same, is_same_frame-same (translated_frame x)) refl
    | inr other ↦ rw other refl
  ]

  go : (r q : ℕ) (o : Option Translation) → places r q ≡ o → translations_without (is_outdated x.entry.koid.0 x.entry.page (translated_frame x)) places r q ≡ places r q
  go r q None e = rw e refl
  go r q (Some y) e = rw e (rw (holds r q y e) refl)

-- a page that had no translation gets one for reading
pub ReadsPage-translated : (c : Content) (root page : ℕ) (touched : TouchedPage) (old new : Places) (x : Translation)
    → IsFoundPage c old root page touched → touched.translation ≡ None → IsTranslationOf c touched.entry x → x.readiness ≡ Read
    → new ≡ with_translation (translations_without (is_outdated x.entry.koid.0 x.entry.page (translated_frame x)) old) root page x → ReadsPage c root page touched old new
ReadsPage-translated c root page touched old new x found none of_entry readiness e =
    let is = e ∙ ap (λ (m : Places). with_translation m root page x) (translations_without-same c old root page touched x found of_entry) in
    subst (ReadsPage c root page touched old) (sym is) (record {
      ready =
          let free : old root page ≡ None = found.translation ∙ none in
          rw free (ready_of-with_translation old root page x ∙ ap (with_ready (ready_of old) root page) readiness);
      others = with_translation-other old root page x;
      are_true = λ table entry are. AreTrue-with_translation c table old root page x
          (rw of_entry.same entry) (rw of_entry.same of_entry.frame) (rw of_entry.same found.below) (λ writes. absurd cc) are;
    })

-- an access to a page that it may touch is not refused there
pub refusal_at-touched : (c : Content) (table : ℕ → ℕ → Option Entry) (places : Places) (right root page : ℕ) (touched : TouchedPage)
    → IsTouched c table places right root page touched → refusal_at c right (table root page) ≡ None
refusal_at-touched c table places right root page touched is = rw is.entry is.free

-- so many page faults does it take to read these pages, of which the first was found so
pub read_faults-more : (places : Places) (root page : ℕ) (ps : List ℕ) (touched : TouchedPage) → places root page ≡ touched.translation
    → read_faults (ready_of places root) (page ∷ ps) ≡ missing_in touched + read_faults (ready_of places root) ps
unfolding read_faults
read_faults-more places root page ps touched is = go (places root page) touched.translation is refl where
  rest : List ℕ
  rest = filter (λ p. not (is_some (ready_of places root p))) ps

  go : (o t : Option Translation) → o ≡ t → places root page ≡ o
      → length (filter (λ p. not (is_some (ready_of places root p))) (page ∷ ps)) ≡ cond (is_some t) 0 1 + length rest
  go o None e was = rw (was, e) (omega arith)
  go o (Some x) e was = rw (was, e) (omega arith)

pub read_faults-nil : (places : Places) (root : ℕ) → read_faults (ready_of places root) [] ≡ 0
unfolding read_faults
read_faults-nil places root = refl

-- where it takes one, some page is not ready
pub any-read_faults : (ready : ℕ → Option Readiness) (ps : List ℕ) → 0 < read_faults ready ps → list_any (λ p. not (is_some (ready p))) ps ≡ true
unfolding read_faults
any-read_faults ready [] some = absurd (omega arith)
any-read_faults ready (p ∷ ps) some = go (ready p) refl (any-read_faults ready ps) some where
  go : (o : Option Readiness) → ready p ≡ o → (0 < read_faults ready ps → list_any (λ q. not (is_some (ready q))) ps ≡ true)
      → 0 < length (filter (λ q. not (is_some (ready q))) (p ∷ ps)) → list_any (λ q. not (is_some (ready q))) (p ∷ ps) ≡ true
  go None e rest h = rw e refl
  go (Some x) e rest h = rw e (rest (rw e at h))
