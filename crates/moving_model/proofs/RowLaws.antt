-- Laws of pages that are owned, written or zeroed one after another: what two outcomes have in common, and which frames stay.
use Rattle.std.proofs.Common.{◌≡◌, ◌≢◌, ℕ, zero, suc, ◌+◌, ◌-◌, ◌*◌, ◌/◌, ◌<◌, ◌≤◌, Bool, true, false, cond, List, [], ◌∷◌, length, map, replicate, Some, refl, sym, ap, subst, ◌∙◌, inl, inr, arith}
use Rattle.std.specs.Option.{option_map}
use Rattle.std.specs.List.{AllByRecursion, filter, range_with_len}
use Rattle.std.proofs.lemmas.Bool.{cases_Bool, cases_eq}
use Rattle.vm_base.specs.declared.limits.TheConstants.{PAGE}
use Rattle.vm_model.specs.Contents.Content.{Page, Content, is_held, pages_of, IsGood}
use Rattle.vm_model.specs.Contents.Owning.{VmoPage, Owns, OwnsEach, pages_at}
use Rattle.vm_model.specs.Contents.Writing.{touched, touched_end, Piece, piece, pieces, WritesPiece, Writes}
use Rattle.vm_model.specs.Contents.Zeroing.{is_cleared, ZeroesPage, Zeroes}
use Rattle.vm_model.specs.Space.Readiness.{frame_at}
use Rattle.vm_model.proofs.ContentLaws.{sole_held}
use Rattle.vm_model.proofs.OwningLaws.{Owned-from_Owns}
use Rattle.vm_model.proofs.RangeLaws.{touched-row, touched-nil, touched_end_le, touched_below, part_fits}
use Rattle.vm_model.proofs.WritingLaws.{Written-from_WritesPiece}
use Rattle.vm_model.proofs.ZeroesLaws.{beside}
use Rattle.vm_model.proofs.ZeroingLaws.{page-zeroed_out}
use Rattle.vm_model.proofs.AccessLaws.{frame_at-other}
use Rattle.moving_model.proofs.ChangeLaws.{OwnsEach-renamed, Writes-renamed, Zeroes-renamed}
use Rattle.moving_model.proofs.ExchangeLaws.{AreTwo-Owns, AreTwo-WritesPiece, AreTwo-ZeroesPage}
use Rattle.moving_model.proofs.FrameLaws.{KeepsFrames, IsIn, KeepsFrames-Owns, KeepsFrames-WritesPiece, KeepsFrames-ZeroesPage}
use Rattle.moving_model.proofs.TwinLaws.{AreTwins, frames_all, others_all, twins, twins_beside}

-- ---- lists

pub all_map : {A : Type 0} (P Q : A → Type 0) (xs : List A) → ((x : A) → P x → Q x) → AllByRecursion P xs → AllByRecursion Q xs
all_map P Q [] each all = tt
all_map P Q (x ∷ xs) each all = (each x all.0, all_map P Q xs each all.1)

pub all_over : {A B : Type 0} (f : A → B) (P : B → Type 0) (xs : List A) → AllByRecursion (λ x. P (f x)) xs → AllByRecursion P (map f xs)
all_over f P [] all = tt
all_over f P (x ∷ xs) all = (all.0, all_over f P xs all.1)

all_filter : {A : Type 0} (P : A → Type 0) (test : A → Bool) (xs : List A) → AllByRecursion P xs → AllByRecursion P (filter test xs)
all_filter P test [] all = tt
all_filter P test (x ∷ xs) all = go (test x) (all_filter P test xs all.1) where
  go : (b : Bool) → AllByRecursion P (filter test xs) → AllByRecursion P (cond b (x ∷ filter test xs) (filter test xs))
  go true rest = (all.0, rest)
  go false rest = rest

-- each number is less than those behind it
abbrev Rising : List ℕ → Type 0
Rising [] = Unit {0}
Rising (p ∷ ps) = AllByRecursion (λ q. p < q) ps × Rising ps

row_within : (low high first n : ℕ) → low ≤ first → first + n ≤ high → AllByRecursion (λ p. (p < high) × (low ≤ p)) (range_with_len first n)
row_within low high first zero l h = tt
row_within low high first (suc n) l h = ((omega arith, l), row_within low high (first + 1) n (omega arith) (omega arith))

row_rising : (first n : ℕ) → Rising (range_with_len first n)
row_rising first zero = tt
row_rising first (suc n) =
    (all_map (λ q. (q < first + 1 + n) × (first + 1 ≤ q)) (λ q. first < q) (range_with_len (first + 1) n) (λ q both. omega (arith, both.1)) (row_within (first + 1) (first + 1 + n) (first + 1) n (omega arith) (omega arith)), row_rising (first + 1) n)

-- the pages that a range touches, inside a VMO
pub touched_within : (offset len pages : ℕ) → offset + len ≤ pages * PAGE → AllByRecursion (λ p. (p < pages) × (offset / PAGE ≤ p)) (touched offset len)
touched_within offset zero pages h = subst (AllByRecursion (λ p. (p < pages) × (offset / PAGE ≤ p))) (sym (touched-nil offset)) tt
touched_within offset (suc len) pages h =
    subst (AllByRecursion (λ p. (p < pages) × (offset / PAGE ≤ p))) (sym (touched-row offset (suc len) (omega arith)))
    (row_within (offset / PAGE) pages (offset / PAGE) (touched_end offset (suc len) - offset / PAGE) (omega arith)
    (omega (arith, touched_end_le offset (suc len) pages h, touched_below offset (suc len) (omega arith))))

touched_rising : (offset len : ℕ) → Rising (touched offset len)
touched_rising offset zero = subst Rising (sym (touched-nil offset)) tt
touched_rising offset (suc len) = subst Rising (sym (touched-row offset (suc len) (omega arith))) (row_rising (offset / PAGE) (touched_end offset (suc len) - offset / PAGE))

-- the frame of a page that is in it still
frame_in : (c d : Content) (v p : ℕ) (held : Page) → c.page v p ≡ Some held → IsIn d v p held.tag → frame_at d v p ≡ frame_at c v p
frame_in c d v p held e still =
    ap (option_map (λ (page : Page). page.tag)) still.is ∙ (ap (λ (n : ℕ). Some n) still.tag_is ∙ sym (ap (option_map (λ (page : Page). page.tag)) e))

abbrev every : ℕ → ℕ → Bool
every v p = true

-- ---- owning

abbrev pub OwnsFits : Content → List VmoPage → Type 0
OwnsFits c ws = IsGood c × AllByRecursion (λ (w : VmoPage). w.page < pages_of c w.koid) ws

abbrev OwnsOne : Content → VmoPage → Content → Type 0
OwnsOne old w new = (tag : ℕ) × Owns old new w.koid w.page tag

owns_more : (old new : Content) (w : VmoPage) (ws : List VmoPage) → OwnsEach old (w ∷ ws) new → (mid : Content) × OwnsOne old w mid × OwnsEach mid ws new
owns_more old new w ws owns = (owns.0, (owns.1, owns.2), owns.3)

owns_keeps : (test : ℕ → ℕ → Bool) (c x : Content) (w : VmoPage) (ws : List VmoPage) → OwnsFits c (w ∷ ws) → OwnsOne c w x → KeepsFrames test c x × OwnsFits x ws
owns_keeps test c x w ws fits owns =
    let keeps = KeepsFrames-Owns test c x w.koid w.page owns.0 fits.0 fits.1.0 owns.1 in
    (keeps, (keeps.kept.good, all_map (λ (u : VmoPage). u.page < pages_of c u.koid) (λ (u : VmoPage). u.page < pages_of x u.koid) ws (λ u h. subst (λ (n : ℕ). u.page < n) (sym (keeps.kept.pages u.koid)) h) fits.1.1))

owns_others : (c x : Content) (w : VmoPage) (ws : List VmoPage) → OwnsFits c (w ∷ ws) → OwnsOne c w x → (u q : ℕ) → (u ≡ w.koid → q ≡ w.page → ⊥) → frame_at x u q ≡ frame_at c u q
owns_others c x w ws fits owns u q apart =
    let owned = Owned-from_Owns c x w.koid w.page owns.0 fits.0 fits.1.0 owns.1 in
    ap (option_map (λ (page : Page). page.tag)) (elim (cases_eq u w.koid) [
      | inl same ↦ rw same (owned.other_page q (apart same))
      | inr else ↦ owned.other_vmo u q else
    ])

module _ (test : ℕ → ℕ → Bool) where
  pub owns_frames : (ws : List VmoPage) (c x : Content) → IsGood c → OwnsFits c ws → OwnsEach c ws x → KeepsFrames test c x
  owns_frames = frames_all test (λ w. w.koid) (λ w. w.page) OwnsOne (λ c ws x. OwnsEach c ws x) OwnsFits (λ c x e. e) owns_more
      (λ r c ws x keeps owns. OwnsEach-renamed r c ws x keeps owns) (λ c x y w ws fits one other. AreTwo-Owns c x y w.koid w.page one.0 other.0 fits.0 one.1 other.1) (owns_keeps test) owns_others

  pub owns_rest : (ws : List VmoPage) (c x : Content) (u q : ℕ) → OwnsFits c ws → OwnsEach c ws x → AllByRecursion (λ (w : VmoPage). u ≡ w.koid → q ≡ w.page → ⊥) ws → frame_at x u q ≡ frame_at c u q
  owns_rest = others_all test (λ w. w.koid) (λ w. w.page) OwnsOne (λ c ws x. OwnsEach c ws x) OwnsFits (λ c x e. e) owns_more
      (λ r c ws x keeps owns. OwnsEach-renamed r c ws x keeps owns) (λ c x y w ws fits one other. AreTwo-Owns c x y w.koid w.page one.0 other.0 fits.0 one.1 other.1) (owns_keeps test) owns_others

owns_once : (c mid x : Content) (w : VmoPage) (ws : List VmoPage) → OwnsFits c (w ∷ ws) → OwnsOne c w mid → OwnsEach mid ws x → frame_at x w.koid w.page ≡ frame_at mid w.koid w.page
owns_once c mid x w ws fits owns rest =
    let owned = Owned-from_Owns c mid w.koid w.page owns.0 fits.0 fits.1.0 owns.1 in
    let kept = owns_keeps every c mid w ws fits owns in
    let all = owns_frames every ws mid x kept.1.0 kept.1 rest in
    frame_in mid x w.koid w.page _ owned.held (all.stays w.koid w.page _ refl owned.alone owned.held)

pub owns_twins : (test : ℕ → ℕ → Bool) (ws : List VmoPage) (c x y : Content) → IsGood c → OwnsFits c ws → OwnsEach c ws x → OwnsEach c ws y → AreTwins test c x y
owns_twins test = twins test (λ w. w.koid) (λ w. w.page) OwnsOne (λ c ws x. OwnsEach c ws x) OwnsFits (λ c x e. e) owns_more
    (λ r c ws x keeps owns. OwnsEach-renamed r c ws x keeps owns) (λ c x y w ws fits one other. AreTwo-Owns c x y w.koid w.page one.0 other.0 fits.0 one.1 other.1) (owns_keeps test) owns_others owns_once

pub owns_twins_beside : (test : ℕ → ℕ → Bool) (ws : List VmoPage) (c x y : Content) → IsGood c → OwnsFits c ws → OwnsEach c ws x → OwnsEach c ws y
    → (twin : AreTwins test c x y) × ((w q : ℕ) (held : Page) → AllByRecursion (λ (a : VmoPage). w ≡ a.koid → q ≡ a.page → ⊥) ws → c.page w q ≡ Some held → twin.by.to held.tag ≡ held.tag)
owns_twins_beside test = twins_beside test (λ w. w.koid) (λ w. w.page) OwnsOne (λ c ws x. OwnsEach c ws x) OwnsFits (λ c x e. e) owns_more
    (λ r c ws x keeps owns. OwnsEach-renamed r c ws x keeps owns) (λ c x y w ws fits one other. AreTwo-Owns c x y w.koid w.page one.0 other.0 fits.0 one.1 other.1) (owns_keeps test) owns_others owns_once

-- pages of one VMO
pub owns_fit : (c : Content) (v : ℕ) (ps : List ℕ) → IsGood c → AllByRecursion (λ p. p < pages_of c v) ps → OwnsFits c (pages_at v ps)
owns_fit c v ps good all = (good, all_over (λ p. record { koid = v; page = p }) (λ (w : VmoPage). w.page < pages_of c w.koid) ps all)

-- those of a row of pages that pass a test, in a VMO with so many pages
pub filter_fit : (c : Content) (v first n : ℕ) (test : ℕ → Bool) → IsGood c → first + n ≤ pages_of c v → OwnsFits c (pages_at v (filter test (range_with_len first n)))
filter_fit c v first n test good h = owns_fit c v (filter test (range_with_len first n)) good (all_filter (λ p. p < pages_of c v) test (range_with_len first n)
    (all_map (λ p. (p < pages_of c v) × (first ≤ p)) (λ p. p < pages_of c v) (range_with_len first n) (λ p both. both.0) (row_within first (pages_of c v) first n (omega arith) h)))

-- pages of other VMOs are none of these
pub all_apart : (v w q : ℕ) (ps : List ℕ) → w ≢ v → AllByRecursion (λ (a : VmoPage). w ≡ a.koid → q ≡ a.page → ⊥) (pages_at v ps)
all_apart v w q [] apart = tt
all_apart v w q (p ∷ ps) apart = (λ same page. apart same, all_apart v w q ps apart)

pub touched_fit : (c : Content) (v offset len : ℕ) → IsGood c → offset + len ≤ pages_of c v * PAGE → OwnsFits c (pages_at v (touched offset len))
touched_fit c v offset len good h = owns_fit c v (touched offset len) good
    (all_map (λ p. (p < pages_of c v) × (offset / PAGE ≤ p)) (λ p. p < pages_of c v) (touched offset len) (λ p both. both.0) (touched_within offset len (pages_of c v) h))

-- ---- writing

abbrev pub WritesFits : Content → List Piece → Type 0
WritesFits c parts = IsGood c × AllByRecursion (λ (part : Piece). (part.page < pages_of c part.koid) × (part.at + length part.bytes ≤ PAGE)) parts

pub writes_keeps : (test : ℕ → ℕ → Bool) (c x : Content) (part : Piece) (parts : List Piece) → WritesFits c (part ∷ parts) → WritesPiece c part x → KeepsFrames test c x × WritesFits x parts
writes_keeps test c x part parts fits writes =
    let keeps = KeepsFrames-WritesPiece test c part x fits.0 fits.1.0.0 fits.1.0.1 writes in (
      keeps,
      (
        keeps.kept.good,
        all_map (λ (u : Piece). (u.page < pages_of c u.koid) × (u.at + length u.bytes ≤ PAGE)) (λ (u : Piece). (u.page < pages_of x u.koid) × (u.at + length u.bytes ≤ PAGE)) parts
            (λ u h. (subst (λ (n : ℕ). u.page < n) (sym (keeps.kept.pages u.koid)) h.0, h.1)) fits.1.1,
      ),
    )

writes_others : (c x : Content) (part : Piece) (parts : List Piece) → WritesFits c (part ∷ parts) → WritesPiece c part x → (u q : ℕ) → (u ≡ part.koid → q ≡ part.page → ⊥) → frame_at x u q ≡ frame_at c u q
writes_others c x part parts fits writes u q apart =
    frame_at-other c x part.koid part.page (Written-from_WritesPiece c part x fits.0 fits.1.0.0 fits.1.0.1 writes) u q apart

pub writes_frames : (test : ℕ → ℕ → Bool) (parts : List Piece) (c x : Content) → IsGood c → WritesFits c parts → Writes c parts x → KeepsFrames test c x
writes_frames test = frames_all test (λ part. part.koid) (λ part. part.page) (λ c part x. WritesPiece c part x) (λ c parts x. Writes c parts x) WritesFits (λ c x e. e) (λ c x part parts writes. writes)
    (λ r c parts x keeps writes. Writes-renamed r parts c x keeps writes) (λ c x y part parts fits one other. AreTwo-WritesPiece c x y part fits.0 one other) (writes_keeps test) writes_others

writes_once : (c mid x : Content) (part : Piece) (parts : List Piece) → WritesFits c (part ∷ parts) → WritesPiece c part mid → Writes mid parts x → frame_at x part.koid part.page ≡ frame_at mid part.koid part.page
writes_once c mid x part parts fits writes rest =
    let written = Written-from_WritesPiece c part mid fits.0 fits.1.0.0 fits.1.0.1 writes in
    let held = sole_held mid part.koid part.page written.alone in
    let kept = writes_keeps every c mid part parts fits writes in
    let all = writes_frames every parts mid x kept.1.0 kept.1 rest in
    frame_in mid x part.koid part.page held.0 held.1 (all.stays part.koid part.page held.0 refl written.alone held.1)

writes_twins : (test : ℕ → ℕ → Bool) (parts : List Piece) (c x y : Content) → IsGood c → WritesFits c parts → Writes c parts x → Writes c parts y → AreTwins test c x y
writes_twins test = twins test (λ part. part.koid) (λ part. part.page) (λ c part x. WritesPiece c part x) (λ c parts x. Writes c parts x) WritesFits (λ c x e. e) (λ c x part parts writes. writes)
    (λ r c parts x keeps writes. Writes-renamed r parts c x keeps writes) (λ c x y part parts fits one other. AreTwo-WritesPiece c x y part fits.0 one other) (writes_keeps test) writes_others writes_once

pub pieces_fit : (c : Content) (v offset : ℕ) (bytes : List ℕ) → IsGood c → offset + length bytes ≤ pages_of c v * PAGE → WritesFits c (pieces v offset bytes)
unfolding pieces
pieces_fit c v offset bytes good h = (
  good,
  all_over (piece v offset bytes) (λ (part : Piece). (part.page < pages_of c part.koid) × (part.at + length part.bytes ≤ PAGE)) (touched offset (length bytes))
      (all_map (λ p. (p < pages_of c v) × (offset / PAGE ≤ p)) (λ p. (p < pages_of c v) × ((piece v offset bytes p).at + length (piece v offset bytes p).bytes ≤ PAGE)) (touched offset (length bytes))
      (λ p both. (both.0, part_fits offset bytes p both.1)) (touched_within offset (length bytes) (pages_of c v) h)),
)

module _ (test : ℕ → ℕ → Bool) (v offset : ℕ) (bytes : List ℕ) (c x : Content) (good : IsGood c) (h : offset + length bytes ≤ pages_of c v * PAGE) (one : Writes c (pieces v offset bytes) x) where
  pub write_frames : KeepsFrames test c x
  write_frames = writes_frames test (pieces v offset bytes) c x good (pieces_fit c v offset bytes good h) one

  pub write_twins : (y : Content) → Writes c (pieces v offset bytes) y → AreTwins test c x y
  write_twins y other = writes_twins test (pieces v offset bytes) c x y good (pieces_fit c v offset bytes good h) one other

-- ---- zeroing

module _ (pins : ℕ → ℕ → Bool) (v offset len : ℕ) where
  abbrev ZeroesFits : Content → List ℕ → Type 0
  ZeroesFits c ps = IsGood c × AllByRecursion (λ p. (p < pages_of c v) × (offset / PAGE ≤ p)) ps × Rising ps

  zeroes_keeps : (c x : Content) (p : ℕ) (ps : List ℕ) → ZeroesFits c (p ∷ ps) → ZeroesPage c v (pins v) offset len p x → KeepsFrames pins c x × ZeroesFits x ps
  zeroes_keeps c x p ps fits zeroes =
      let keeps = KeepsFrames-ZeroesPage pins c v offset len p x fits.0 fits.1.0.0 fits.1.0.1 zeroes in (
        keeps,
        (
          keeps.kept.good,
          all_map (λ q. (q < pages_of c v) × (offset / PAGE ≤ q)) (λ q. (q < pages_of x v) × (offset / PAGE ≤ q)) ps
              (λ q h. (subst (λ (n : ℕ). q < n) (sym (keeps.kept.pages v)) h.0, h.1)) fits.1.1,
          fits.2.1,
        ),
      )

  zeroes_others : (c x : Content) (p : ℕ) (ps : List ℕ) → ZeroesFits c (p ∷ ps) → ZeroesPage c v (pins v) offset len p x → (u q : ℕ) → (u ≡ v → q ≡ p → ⊥) → frame_at x u q ≡ frame_at c u q
  zeroes_others c x p ps fits zeroes u q apart = elim (cases_Bool (is_cleared (pins v) offset len p)) [
    | inl cleared ↦ ap (λ (d : Content). frame_at d u q) (zeroes.cleared cleared) ∙ ap (option_map (λ (page : Page). page.tag)) (page-zeroed_out c v p (p + 1) u q (λ same. beside p q (apart same)))
    | inr part ↦ elim (cases_Bool (is_held c v p)) [
      | inl held ↦ frame_at-other c x v p (Written-from_WritesPiece c (piece v offset (replicate len 0) p) x fits.0 fits.1.0.0 (part_fits offset (replicate len 0) p fits.1.0.1) (zeroes.held part held)) u q apart
      | inr free ↦ ap (λ (d : Content). frame_at d u q) (zeroes.zero part free)
    ]
  ]

  zeroes_frames : (ps : List ℕ) (c x : Content) → IsGood c → ZeroesFits c ps → Zeroes c v (pins v) offset len ps x → KeepsFrames pins c x
  zeroes_frames = frames_all pins (λ p. v) (λ p. p) (λ c p x. ZeroesPage c v (pins v) offset len p x) (λ c ps x. Zeroes c v (pins v) offset len ps x) ZeroesFits (λ c x e. e) (λ c x p ps zeroes. zeroes)
      (λ r c ps x keeps zeroes. Zeroes-renamed r v (pins v) offset len ps c x keeps zeroes) (λ c x y p ps fits one other. AreTwo-ZeroesPage c x y v (pins v) offset len p fits.0 one other) zeroes_keeps zeroes_others

  zeroes_rest : (ps : List ℕ) (c x : Content) (u q : ℕ) → ZeroesFits c ps → Zeroes c v (pins v) offset len ps x → AllByRecursion (λ p. u ≡ v → q ≡ p → ⊥) ps → frame_at x u q ≡ frame_at c u q
  zeroes_rest = others_all pins (λ p. v) (λ p. p) (λ c p x. ZeroesPage c v (pins v) offset len p x) (λ c ps x. Zeroes c v (pins v) offset len ps x) ZeroesFits (λ c x e. e) (λ c x p ps zeroes. zeroes)
      (λ r c ps x keeps zeroes. Zeroes-renamed r v (pins v) offset len ps c x keeps zeroes) (λ c x y p ps fits one other. AreTwo-ZeroesPage c x y v (pins v) offset len p fits.0 one other) zeroes_keeps zeroes_others

  zeroes_once : (c mid x : Content) (p : ℕ) (ps : List ℕ) → ZeroesFits c (p ∷ ps) → ZeroesPage c v (pins v) offset len p mid → Zeroes mid v (pins v) offset len ps x → frame_at x v p ≡ frame_at mid v p
  zeroes_once c mid x p ps fits zeroes rest =
      let kept = zeroes_keeps c mid p ps fits zeroes in
      zeroes_rest ps mid x v p kept.1 rest (all_map (λ q. p < q) (λ q. v ≡ v → p ≡ q → ⊥) ps (λ q h same meet. omega (arith, h, meet)) fits.2.0)

  zeroes_twins : (ps : List ℕ) (c x y : Content) → IsGood c → ZeroesFits c ps → Zeroes c v (pins v) offset len ps x → Zeroes c v (pins v) offset len ps y → AreTwins pins c x y
  zeroes_twins = twins pins (λ p. v) (λ p. p) (λ c p x. ZeroesPage c v (pins v) offset len p x) (λ c ps x. Zeroes c v (pins v) offset len ps x) ZeroesFits (λ c x e. e) (λ c x p ps zeroes. zeroes)
      (λ r c ps x keeps zeroes. Zeroes-renamed r v (pins v) offset len ps c x keeps zeroes) (λ c x y p ps fits one other. AreTwo-ZeroesPage c x y v (pins v) offset len p fits.0 one other) zeroes_keeps zeroes_others zeroes_once

  touched_fits : (c : Content) → IsGood c → offset + len ≤ pages_of c v * PAGE → ZeroesFits c (touched offset len)
  touched_fits c good h = (good, touched_within offset len (pages_of c v) h, touched_rising offset len)

  pub zero_frames : (c x : Content) → IsGood c → offset + len ≤ pages_of c v * PAGE → Zeroes c v (pins v) offset len (touched offset len) x → KeepsFrames pins c x
  zero_frames c x good h one = zeroes_frames (touched offset len) c x good (touched_fits c good h) one

  pub zero_twins : (c x y : Content) → IsGood c → offset + len ≤ pages_of c v * PAGE → Zeroes c v (pins v) offset len (touched offset len) x
      → Zeroes c v (pins v) offset len (touched offset len) y → AreTwins pins c x y
  zero_twins c x y good h one other = zeroes_twins (touched offset len) c x y good (touched_fits c good h) one other
