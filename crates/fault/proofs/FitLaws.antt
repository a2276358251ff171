-- Laws of translations that are left: by them the pages are ready for what a change leaves ready, and each is of an entry of the table.
use Rattle.std.proofs.Common.{◌≡◌, ℕ, Bool, true, false, cond, Option, None, Some, refl, sym, ap, ◌∙◌, inl, inr}
use Rattle.std.specs.Option.{option_map}
use Rattle.std.proofs.lemmas.Bool.{cases_Bool, cond-true, cond-false}
use Rattle.vm_base.specs.Entries.{passes}
use Rattle.vm_base.proofs.EntryLaws.{passes-some, passes-none, some_same}
use Rattle.vm_model.specs.declared.space.Entry.{Entry}
use Rattle.vm_model.specs.declared.space.Readiness.{Readiness}
use Rattle.vm_model.specs.declared.space.Readiness.TheVariants.{Read}
use Rattle.vm_model.specs.Contents.Content.{Content}
use Rattle.vm_model.specs.Space.Readiness.{Ready, frame_at, settled, unready, shows_but, read_only_but}
use Rattle.ready_pages.specs.Changes.{Entries, EntryStays}
use Rattle.ready_pages.proofs.SettledLaws.{settled-none, settled-stays, unready-in, unready-out, unready-none}
use Rattle.fault.specs.declared.translation.Translation.{Translation}
use Rattle.fault.specs.Table.{Places, readiness_of, ready_of, translated_frame, AreTrue, translations_without, is_at}
use Rattle.fault.specs.inside.Left.{restricted_but, with_read_only_but}
use Rattle.fault.proofs.WrittenLaws.{translations_without-some}

-- By these translations the pages are ready for this. Each is of an entry of the table, and holds the frame of its page.
pub record Fits (d : Content) (table : Entries) (ready : Ready) (left : Places) : Type 0 where
  pub are_ready : ready_of left ≡ ready
  pub entry : (root p : ℕ) (x : Translation) → left root p ≡ Some x → table root p ≡ Some x.entry
  pub frame : (root p : ℕ) (x : Translation) → left root p ≡ Some x → translated_frame x ≡ frame_at d x.entry.koid.0 x.entry.page

module _ (goes : ℕ → ℕ → Translation → Bool) (places : Places) (root p : ℕ) where
  -- where there was none before, there is none
  translations_without-none : places root p ≡ None → translations_without goes places root p ≡ None
  unfolding translations_without
  translations_without-none e = cond-false _ _ _ (passes-none (goes root p) (places root p) e) ∙ e

  -- one that passes is gone
  translations_without-gone : (x : Translation) → places root p ≡ Some x → goes root p x ≡ true → translations_without goes places root p ≡ None
  unfolding translations_without
  translations_without-gone x e on = cond-true _ _ _ (passes-some (goes root p) (places root p) x e ∙ on)

  -- another stays
  translations_without-stays : (x : Translation) → places root p ≡ Some x → goes root p x ≡ false → translations_without goes places root p ≡ Some x
  unfolding translations_without
  translations_without-stays x e off = cond-false _ _ _ (passes-some (goes root p) (places root p) x e ∙ off) ∙ e

module _ (c d : Content) (old table : Entries) (places : Places) (good : AreTrue c old places) where
  -- a translation that stays holds the frame of its page
  frame_left : (root p : ℕ) (x : Translation) → places root p ≡ Some x → EntryStays c d table root p x.entry → translated_frame x ≡ frame_at d x.entry.koid.0 x.entry.page
  frame_left root p x e stays = good.frame root p x e ∙ sym stays.frame

  -- where some go
  Fits-without : (goes : ℕ → ℕ → Translation → Bool) (ready : Ready) → ((root p : ℕ) → places root p ≡ None → ready root p ≡ None)
      → ((root p : ℕ) (x : Translation) → places root p ≡ Some x → goes root p x ≡ true → ready root p ≡ None)
      → ((root p : ℕ) (x : Translation) → places root p ≡ Some x → goes root p x ≡ false → EntryStays c d table root p x.entry × (ready root p ≡ ready_of places root p))
      → Fits d table ready (translations_without goes places)
  Fits-without goes ready none gone stays = record {
    are_ready = λ i root p. each root p (places root p) refl i;
    entry = λ root p x e. let was = translations_without-some goes places root p x e in (stays root p x was.0 was.1).0.is;
    frame = λ root p x e. let was = translations_without-some goes places root p x e in frame_left root p x was.0 (stays root p x was.0 was.1).0;
  } where
    each : (root p : ℕ) (o : Option Translation) → places root p ≡ o → ready_of (translations_without goes places) root p ≡ ready root p
    each root p None e = ap readiness_of (translations_without-none goes places root p e) ∙ sym (none root p e)
    each root p (Some x) e = elim (cases_Bool (goes root p x)) [
      | inl on ↦ ap readiness_of (translations_without-gone goes places root p x e on) ∙ sym (gone root p x e on)
      | inr off ↦ ap readiness_of (translations_without-stays goes places root p x e off ∙ sym e) ∙ sym (stays root p x e off).1
    ]

  -- where all stay
  pub Fits-all : ((root p : ℕ) (x : Translation) → places root p ≡ Some x → EntryStays c d table root p x.entry) → Fits d table (settled c d table (ready_of places)) places
  Fits-all stays = record {
    are_ready = λ i root p. each root p (places root p) refl i;
    entry = λ root p x e. (stays root p x e).is;
    frame = λ root p x e. frame_left root p x e (stays root p x e);
  } where
    each : (root p : ℕ) (o : Option Translation) → places root p ≡ o → ready_of places root p ≡ settled c d table (ready_of places) root p
    each root p None e = let none : ready_of places root p ≡ None = ap readiness_of e in none ∙ sym (settled-none c d table (ready_of places) root p none)
    each root p (Some x) e = sym (settled-stays c d table (ready_of places) root p x.entry (stays root p x e))

  -- where some go since what they show changed, or is shown no more
  pub Fits-settled : (goes : ℕ → ℕ → Translation → Bool)
      → ((root p : ℕ) (x : Translation) → places root p ≡ Some x → goes root p x ≡ true → settled c d table (ready_of places) root p ≡ None)
      → ((root p : ℕ) (x : Translation) → places root p ≡ Some x → goes root p x ≡ false → EntryStays c d table root p x.entry)
      → Fits d table (settled c d table (ready_of places)) (translations_without goes places)
  Fits-settled goes gone stays =
      Fits-without goes (settled c d table (ready_of places)) (λ root p e. settled-none c d table (ready_of places) root p (ap readiness_of e)) gone
      (λ root p x e off. let left = stays root p x e off in (left, settled-stays c d table (ready_of places) root p x.entry left))

  -- where the pages of a range are ready for nothing
  pub Fits-unready : (root first end : ℕ)
      → ((r p : ℕ) (x : Translation) → places r p ≡ Some x → is_at root first end r p x ≡ false → EntryStays c d table r p x.entry)
      → Fits d table (unready (settled c d table (ready_of places)) root first end) (translations_without (is_at root first end) places)
  Fits-unready root first end stays =
      let kept = settled c d table (ready_of places) in
      Fits-without (is_at root first end) (unready kept root first end)
      (λ r p e. unready-none kept root first end r p (settled-none c d table (ready_of places) r p (ap readiness_of e)))
      (λ r p x e on. unready-in kept root first end r p on)
      (λ r p x e off.
      let left = stays r p x e off in
      (left, unready-out kept root first end r p off ∙ settled-stays c d table (ready_of places) r p x.entry left))

  -- where what shows some pages of a VMO is ready for reading at most, but for the pages that pass
  pub Fits-read_only_but : (exempt : ℕ → Bool) (v first end : ℕ) → ((root p : ℕ) (x : Translation) → places root p ≡ Some x → EntryStays c d table root p x.entry)
      → Fits d table (read_only_but exempt old v first end (settled c d table (ready_of places))) (with_read_only_but exempt v first end places)
  unfolding read_only_but with_read_only_but
  Fits-read_only_but exempt v first end stays = record {
    are_ready = λ i root p. each root p (places root p) refl i;
    entry = λ root p x e. let was = from root p x e in (stays root p was.0 was.1).is ∙ ap (λ (entry : Entry). Some entry) was.2;
    frame = λ root p x e.
        let was = from root p x e in
        sym was.3 ∙ (frame_left root p was.0 was.1 (stays root p was.0 was.1) ∙ ap (λ (entry : Entry). frame_at d entry.koid.0 entry.page) was.2);
  } where
    kept : Ready
    kept = settled c d table (ready_of places)

    keeps : (x : Translation) → (x.entry ≡ (restricted_but exempt v first end x).entry) × (translated_frame x ≡ translated_frame (restricted_but exempt v first end x))
    keeps x = go (shows_but exempt v first end x.entry) where
      go : (b : Bool) → let y : Translation = cond b (record x { readiness = Read }) x in (x.entry ≡ y.entry) × (translated_frame x ≡ translated_frame y)
      go true = (refl, refl)
      go false = (refl, refl)

    from : (root p : ℕ) (x : Translation) → option_map (restricted_but exempt v first end) (places root p) ≡ Some x
        → (was : Translation) × (places root p ≡ Some was) × (was.entry ≡ x.entry) × (translated_frame was ≡ translated_frame x)
    from root p x e = go (places root p) refl e where
      go : (o : Option Translation) → places root p ≡ o → option_map (restricted_but exempt v first end) o ≡ Some x
          → (was : Translation) × (places root p ≡ Some was) × (was.entry ≡ x.entry) × (translated_frame was ≡ translated_frame x)
      go None f g = absurd cc
      go (Some y) f g =
          let same : restricted_but exempt v first end y ≡ x = some_same g in
          (y, f, (keeps y).0 ∙ ap (λ (z : Translation). z.entry) same, (keeps y).1 ∙ ap translated_frame same)

    each : (root p : ℕ) (o : Option Translation) → places root p ≡ o
        → readiness_of (option_map (restricted_but exempt v first end) (places root p)) ≡ cond (passes (shows_but exempt v first end) (old root p)) (option_map (λ (r : Readiness). Read) (kept root p)) (kept root p)
    each root p None e =
        let none : kept root p ≡ None = settled-none c d table (ready_of places) root p (ap readiness_of e) in
        ap (λ (o : Option Translation). readiness_of (option_map (restricted_but exempt v first end) o)) e ∙ sym (bare (passes (shows_but exempt v first end) (old root p)) none) where
          bare : (b : Bool) → kept root p ≡ None → cond b (option_map (λ (r : Readiness). Read) (kept root p)) (kept root p) ≡ None
          bare true f = ap (option_map (λ (r : Readiness). Read)) f
          bare false f = f
    each root p (Some x) e =
        let is : kept root p ≡ Some x.readiness = settled-stays c d table (ready_of places) root p x.entry (stays root p x e) ∙ ap readiness_of e in
        ap (λ (o : Option Translation). readiness_of (option_map (restricted_but exempt v first end) o)) e
        ∙ (go (shows_but exempt v first end x.entry) ∙ (ap (λ (o : Option Readiness). cond (shows_but exempt v first end x.entry) (option_map (λ (r : Readiness). Read) o) o) (sym is)
        ∙ ap (λ (b : Bool). cond b (option_map (λ (r : Readiness). Read) (kept root p)) (kept root p)) (sym (passes-some (shows_but exempt v first end) (old root p) x.entry (good.entry root p x e))))) where
          go : (b : Bool) → ◌≡◌ {A = Option Readiness} (Some (cond b (record x { readiness = Read }) x).readiness) (cond b (Some Read) (Some x.readiness))
          go true = refl
          go false = refl
