-- Laws of pages that stay ready over two changes in a row, of which each page's frame changes in one at most.
use Rattle.std.proofs.Common.{◌≡◌, ℕ, ◌<◌, true, Option, None, Some, ◌⊎◌, refl, sym, ap, ◌∙◌, inl, inr, arith}
use Rattle.std.specs.Option.{option_map}
use Rattle.std.proofs.lemmas.Bool.{cases_Bool, both_ways}
use Rattle.vm_base.proofs.EntryLaws.{passes-none, passes-some}
use Rattle.vm_model.specs.declared.space.Entry.{Entry}
use Rattle.vm_model.specs.Contents.Content.{Content, Page, pages_of}
use Rattle.vm_model.specs.Space.Readiness.{Ready, frame_at, keeps_frame, settled}
use Rattle.vm_model.proofs.ReadinessLaws.{keeps_frame-parts, keeps_frame-from, settled-kept, settled-changed}
use Rattle.vm_model.proofs.ZeroingLaws.{cases_zeroed}
use Rattle.batch_model.proofs.RowLaws.{Leaves}

-- each page has its old frame in mid, or its frame of mid in new, and VMOs have as many pages
pub record AreApart (old mid new : Content) : Type 0 where
  pub before : (v : ℕ) → pages_of mid v ≡ pages_of old v
  pub after : (v : ℕ) → pages_of new v ≡ pages_of mid v
  pub frames : (v p : ℕ) → (frame_at mid v p ≡ frame_at old v p) ⊎ (frame_at new v p ≡ frame_at mid v p)

-- a page with its frame
frame-same : (c d : Content) (v p : ℕ) → d.page v p ≡ c.page v p → frame_at d v p ≡ frame_at c v p
frame-same c d v p e = ap (λ (o : Option Page). option_map (λ (held : Page). held.tag) o) e

-- a row and the one behind it are apart
pub AreApart-rows : (v first mid end : ℕ) (c b d : Content) → Leaves v first mid c b → Leaves v mid end b d → AreApart c b d
AreApart-rows v first mid end c b d these those = record {
  before = these.kept.pages;
  after = those.kept.pages;
  frames = λ w q. elim (cases_zeroed v first mid w q) [
    | inl inside ↦ inr (frame-same b d w q (those.page w q (λ same. inl inside.2)))
    | inr out ↦ inl (frame-same c b w q (these.page w q out))
  ];
}

module _ (old mid new : Content) (apart : AreApart old mid new) (entry : Entry) where
  -- what keeps its frame over both changes keeps it over each
  keeps_each : keeps_frame old new entry ≡ true → (keeps_frame old mid entry ≡ true) × (keeps_frame mid new entry ≡ true)
  keeps_each e =
      let v = entry.koid.0 in
      let p = entry.page in
      let parts = keeps_frame-parts old new entry e in
      let now : p < pages_of new v = parts.1 in
      let then : p < pages_of mid v = omega (arith, apart.after v, now) in
      elim (apart.frames v p) [
        | inl first ↦ (keeps_frame-from old mid entry first then, keeps_frame-from mid new entry (parts.0 ∙ sym first) now)
        | inr second ↦ (keeps_frame-from old mid entry (sym second ∙ parts.0) then, keeps_frame-from mid new entry second now)
      ]

  -- and the other way round
  keeps_both : keeps_frame old mid entry ≡ true → keeps_frame mid new entry ≡ true → keeps_frame old new entry ≡ true
  keeps_both e f =
      let first = keeps_frame-parts old mid entry e in
      let second = keeps_frame-parts mid new entry f in
      keeps_frame-from old new entry (second.0 ∙ first.0) second.1

-- so what stays ready over one change and then over the other stays ready over both
pub settled-twice : (old mid new : Content) → AreApart old mid new → (table : ℕ → ℕ → Option Entry) (ready : Ready)
    → settled mid new table (settled old mid table ready) ≡ settled old new table ready
settled-twice old mid new apart table ready = λ i root p. each root p (table root p) refl i where
  each : (root p : ℕ) (o : Option Entry) → table root p ≡ o → settled mid new table (settled old mid table ready) root p ≡ settled old new table ready root p
  each root p None e =
      settled-changed mid new table (settled old mid table ready) root p (passes-none (keeps_frame mid new) (table root p) e)
      ∙ sym (settled-changed old new table ready root p (passes-none (keeps_frame old new) (table root p) e))
  each root p (Some entry) e = elim (cases_Bool (keeps_frame old new entry)) [
    | inl keeps ↦
        let both = keeps_each old mid new apart entry keeps in
        settled-kept mid new table (settled old mid table ready) root p entry e both.1
        ∙ (settled-kept old mid table ready root p entry e both.0 ∙ sym (settled-kept old new table ready root p entry e keeps))
    | inr changes ↦
        let now = settled-changed old new table ready root p (passes-some (keeps_frame old new) (table root p) entry e ∙ changes) in
        elim (cases_Bool (keeps_frame mid new entry)) [
          | inr second ↦ settled-changed mid new table (settled old mid table ready) root p (passes-some (keeps_frame mid new) (table root p) entry e ∙ second) ∙ sym now
          | inl second ↦
              settled-kept mid new table (settled old mid table ready) root p entry e second
              ∙ (settled-changed old mid table ready root p (passes-some (keeps_frame old mid) (table root p) entry e ∙ (elim (cases_Bool (keeps_frame old mid entry)) [
                | inr first ↦ first
                | inl first ↦ absurd (both_ways (keeps_frame old new entry) changes (keeps_both old mid new apart entry first second))
              ])) ∙ sym now)
        ]
  ]
