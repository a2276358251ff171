-- What refuses an access, and the pages that it finds, by the one or two pages that it touches.
use Rattle.std.proofs.Common.{◌≡◌, ◌⊎◌, ℕ, zero, suc, ◌+◌, ◌-◌, ◌/◌, ◌%◌, ◌≤◌, Bool, true, false, cond, ◌||◌, List, [], ◌∷◌, length, map, ◌<◌, Option, None, Some, refl, sym, ap, subst, ◌∙◌, inl, inr, arith}
use Rattle.std.specs.Prelude.{nat_lt, is_some, unwrap_or}
use Rattle.std.specs.Option.{option_or}
use Rattle.std.specs.List.{list_any, range_with_len}
use Rattle.std.proofs.lemmas.Bool.{cases_lt, le-ltb, lt-ltb}
use Rattle.std.proofs.lemmas.List.{length-map}
use Rattle.std.proofs.lemmas.List.FromFn.{length-range_with_len}
use Rattle.vm_base.specs.declared.limits.TheConstants.{PAGE}
use Rattle.vm_base.specs.declared.refusal.Refusal.{Refusal}
use Rattle.vm_base.specs.declared.refusal.Refusal.TheVariants.{NotFound, NoMemory, OutOfRange}
use Rattle.vm_model.specs.declared.space.Entry.{Entry}
use Rattle.vm_model.specs.Contents.Content.{Content, used, sole}
use Rattle.vm_model.specs.Contents.Owning.{VmoPage, need_from, need_each}
use Rattle.vm_model.specs.Contents.Writing.{touched, touched_end}
use Rattle.vm_model.specs.Space.Rights.{has, reading, writing}
use Rattle.vm_model.specs.Machine.Access.{refusal_at, access_refusal, entry_at, page_shown, pages_shown}
use Rattle.vm_model.specs.Machine.Refusals.{read_refusals, write_refusals, first_of}
use Rattle.vm_model.proofs.ContentLaws.{pages_of-at}
use Rattle.vm_model.proofs.RangeLaws.{touched-nil, touched-row}
use Rattle.vm_model.proofs.TouchedLaws.{touched-one, touched-two}
use Rattle.ready_pages.specs.Changes.{Entries}
use Rattle.checker_ready.specs.inside.Pages.{AreFrom, IsMappedInside, Touches}

-- ---- a test on one page or two

pub any_none : (f : ℕ → Bool) (addr len : ℕ) → len ≡ 0 → false ≡ list_any f (touched addr len)
any_none f addr len none = rw (none, touched-nil addr) refl

pub any_one : (f : ℕ → Bool) (p : ℕ) → f p ≡ list_any f (p ∷ [])
any_one f p = go (f p) where
  go : (b : Bool) → b ≡ (b || false)
  go true = refl
  go false = refl

pub any_first : (f : ℕ → Bool) (p : ℕ) (ps : List ℕ) → f p ≡ true → true ≡ list_any f (p ∷ ps)
any_first f p ps is = rw is refl

pub any_rest : (f : ℕ → Bool) (p : ℕ) (ps : List ℕ) → f p ≡ false → list_any f ps ≡ list_any f (p ∷ ps)
any_rest f p ps is = rw is refl

-- ---- what refuses an access on a page with an entry that has the right

module _ (c : Content) (right : ℕ) (o : Option Entry) (entry : Entry) (n : ℕ) (is : o ≡ Some entry) (may : has entry.perm.0 right ≡ true)
    (count : c.count entry.koid.0 ≡ Some n) where
  pub page_past : n ≤ entry.page → Some OutOfRange ≡ refusal_at c right o
  unfolding refusal_at
  page_past past = rw (is, may, pages_of-at c entry.koid.0 n count, le-ltb entry.page n past) refl

  pub page_inside : entry.page < n → None ≡ refusal_at c right o
  unfolding refusal_at
  page_inside low = rw (is, may, pages_of-at c entry.koid.0 n count, lt-ltb entry.page n low) refl

-- ---- what refuses an access on no page, on one or on two

pub access_none : (c : Content) (right : ℕ) (entries : ℕ → Option Entry) (addr len : ℕ) → len ≡ 0 → None ≡ access_refusal c right entries (touched addr len)
unfolding access_refusal
access_none c right entries addr len none = rw (none, touched-nil addr) refl

module _ (c : Content) (right : ℕ) (entries : ℕ → Option Entry) (p : ℕ) where
  pub access_one : refusal_at c right (entries p) ≡ access_refusal c right entries (p ∷ [])
  unfolding access_refusal
  access_one = go (refusal_at c right (entries p)) where
    go : (o : Option Refusal) → o ≡ option_or o None
    go None = refl
    go (Some refusal) = refl

  pub access_first : (ps : List ℕ) (refusal : Refusal) → refusal_at c right (entries p) ≡ Some refusal → Some refusal ≡ access_refusal c right entries (p ∷ ps)
  unfolding access_refusal
  access_first ps refusal is = rw is refl

  pub access_rest : (ps : List ℕ) → refusal_at c right (entries p) ≡ None → access_refusal c right entries ps ≡ access_refusal c right entries (p ∷ ps)
  unfolding access_refusal
  access_rest ps free = rw free refl

-- ---- the rows

pub read_row : (c : Content) (entries : ℕ → Option Entry) (ps : List ℕ) → access_refusal c reading entries ps ≡ first_of (read_refusals c entries ps)
read_row c entries ps = go (access_refusal c reading entries ps) where
  go : (o : Option Refusal) → o ≡ cond (is_some o) (Some (unwrap_or o NotFound)) None
  go None = refl
  go (Some refusal) = refl

module _ (c : Content) (entries : ℕ → Option Entry) (ps : List ℕ) where
  -- the frames that are used once the pages are owned
  abbrev need : ℕ
  need = used c + need_each c (pages_shown entries ps)

  -- what refuses a write that no page refuses
  write_row : (short : Bool) → None ≡ access_refusal c writing entries ps → nat_lt c.frames need ≡ short → cond short (Some NoMemory) None ≡ first_of (write_refusals c entries ps)
  write_row short none is =
      sym (ap (λ (o : Option Refusal). cond (is_some o) (Some (unwrap_or o NotFound)) (cond (nat_lt c.frames need) (Some NoMemory) None)) (sym none)
      ∙ ap (λ (b : Bool). cond b (Some NoMemory) None) is)

  write_short : None ≡ access_refusal c writing entries ps → c.frames < need → Some NoMemory ≡ first_of (write_refusals c entries ps)
  write_short none short = write_row true none (lt-ltb c.frames need short)

  -- a write that nothing refuses is refused on no page
  pub write_row_free : None ≡ first_of (write_refusals c entries ps) → access_refusal c writing entries ps ≡ None
  write_row_free none = go (access_refusal c writing entries ps) none where
    go : (o : Option Refusal) → None ≡ cond (is_some o) (Some (unwrap_or o NotFound)) (cond (nat_lt c.frames need) (Some NoMemory) None) → o ≡ None
    go None e = refl
    go (Some refusal) e = absurd cc

  -- and takes no more frames than are free
  pub write_row_fits : None ≡ first_of (write_refusals c entries ps) → need ≤ c.frames
  write_row_fits none = elim (cases_lt c.frames need) [
    | inl short ↦ absurd (let denied = write_row true (sym (write_row_free none)) (lt-ltb c.frames need short) ∙ sym none in cc)
    | inr enough ↦ enough
  ]

  write_free : None ≡ access_refusal c writing entries ps → need ≤ c.frames → None ≡ first_of (write_refusals c entries ps)
  write_free none enough = write_row false none (le-ltb c.frames need enough)

-- ---- the pages that an access touches

-- they are two at most
touched_few : (addr len : ℕ) → len ≤ PAGE → length (touched addr len) ≤ 2
touched_few addr zero few = subst (λ (ps : List ℕ). length ps ≤ 2) (sym (touched-nil addr)) (omega arith)
touched_few addr (suc len) few = elim (cases_lt PAGE (addr % PAGE + suc len)) [
  | inl two ↦ subst (λ (ps : List ℕ). length ps ≤ 2) (sym (touched-two addr (suc len) two few)) (omega arith)
  | inr one ↦ subst (λ (ps : List ℕ). length ps ≤ 2) (sym (touched-one addr (suc len) (omega arith) one)) (omega arith)
]

module _ (addr len p : ℕ) (start : p ≡ addr / PAGE) where
  pub touches_one : 0 < len → addr % PAGE + len ≤ PAGE → touched addr len ≡ p ∷ []
  touches_one some fits = rw start (touched-one addr len some fits)

  pub touches_two : PAGE < addr % PAGE + len → len ≤ PAGE → touched addr len ≡ p ∷ (p + 1) ∷ []
  touches_two passes few = rw start (touched-two addr len passes few)

-- ---- a write that no page refuses

-- each page takes one frame at most
need_from-most : (fresh : ℕ) (c : Content) (ws : List VmoPage) → need_from fresh c ws ≤ length ws
unfolding need_from
need_from-most fresh c [] = omega arith
need_from-most fresh c (w ∷ ws) = go (sole c w.koid w.page) (need_from-most fresh c ws) (need_from-most (fresh + 1) _ ws) where
  go : (b : Bool) {x y n : ℕ} → x ≤ n → y ≤ n → cond b x (suc y) ≤ suc n
  go true h g = omega (arith, h)
  go false h g = omega (arith, g)

need_two : (c : Content) (entries : ℕ → Option Entry) (ps : List ℕ) → length ps ≤ 2 → need_each c (pages_shown entries ps) ≤ 2
unfolding pages_shown
need_two c entries ps few = omega (arith, need_from-most c.frames c (pages_shown entries ps), length-map ps (λ p. page_shown (entry_at entries p)), few)

-- ---- what an access finds

-- the first page that it touches decides if it is refused there
pub access_denied : (c : Content) (right : ℕ) (entries : ℕ → Option Entry) (addr len p : ℕ) (refusal : Refusal) → p ≡ addr / PAGE → 0 < len → len ≤ PAGE
    → Some refusal ≡ refusal_at c right (entries p) → Some refusal ≡ access_refusal c right entries (touched addr len)
access_denied c right entries addr len p refusal start some few is = elim (cases_lt PAGE (addr % PAGE + len)) [
  | inl two ↦ rw (touches_two addr len p start two few) (access_first c right entries p ((p + 1) ∷ []) refusal (sym is))
  | inr one ↦ rw (touches_one addr len p start some (omega (arith, one))) (access_first c right entries p [] refusal (sym is))
]

module _ {A : Type 0} (holds : ℕ → A → Type 0) where
  -- the pages from the first on are touched
  pub touches_from : (addr len p : ℕ) (xs : List A) → p ≡ addr / PAGE → touched addr len ≡ range_with_len p (length xs) → AreFrom holds p xs → Touches holds addr len xs
  touches_from addr len p xs start pages each = record {
    pages = subst (λ (q : ℕ). touched addr len ≡ range_with_len q (length xs)) start pages;
    each = subst (λ (q : ℕ). AreFrom holds q xs) start each;
  }

  -- what follows of each
  pub each_from : (also : ℕ → A → Type 0) → ((p q : ℕ) (x : A) → holds p x → also q x) → (p q : ℕ) (xs : List A) → AreFrom holds p xs → AreFrom also q xs
  each_from also follows p q [] are = tt
  each_from also follows p q (x ∷ xs) are = (follows p q x are.0, each_from also follows (p + 1) (q + 1) xs are.1)

  -- the pages of VMOs that are shown
  pub shown_from : (entries : ℕ → Option Entry) (entry_of : A → Entry) → ((p : ℕ) (x : A) → holds p x → entries p ≡ Some (entry_of x)) → (p : ℕ) (xs : List A) → AreFrom holds p xs
      → pages_shown entries (range_with_len p (length xs)) ≡ map (λ x. page_shown (entry_of x)) xs
  unfolding pages_shown entry_at
  shown_from entries entry_of is p [] are = refl
  shown_from entries entry_of is p (x ∷ xs) are = rw (is p x are.0) (ap (λ (ws : List VmoPage). page_shown (entry_of x) ∷ ws) (shown_from entries entry_of is (p + 1) xs are.1))

-- how many pages hold a byte of so many
touched_size : (addr len : ℕ) → 0 < len → length (touched addr len) ≡ (addr % PAGE + len + (PAGE - 1)) / PAGE
unfolding touched_end
touched_size addr len some =
    ap (λ (ps : List ℕ). length ps) (touched-row addr len some) ∙ (length-range_with_len (addr / PAGE) (touched_end addr len - addr / PAGE) ∙ omega arith)

module _ (addr len : ℕ) where
  size : (n : ℕ) → touched addr len ≡ range_with_len (addr / PAGE) n → ((len ≡ 0) × (n ≡ 0)) ⊎ (n ≡ (addr % PAGE + len + (PAGE - 1)) / PAGE)
  size n pages =
      let as_many = ap (λ (ps : List ℕ). length ps) pages ∙ length-range_with_len (addr / PAGE) n in
      elim (cases_lt 0 len) [
        | inl some ↦ inr (sym as_many ∙ touched_size addr len some)
        | inr none ↦
            let bare : len ≡ 0 = omega (arith, none) in
            inl (bare, sym as_many ∙ ap (λ (m : ℕ). length (touched addr m)) bare ∙ ap (λ (ps : List ℕ). length ps) (touched-nil addr))
      ]

  -- where no page is touched, there is no byte
  pub fits_none : touched addr len ≡ [] → len ≡ 0
  fits_none pages = elim (size 0 pages) [ inl bare ↦ bare.0 | inr some ↦ omega (arith, some) ]

  -- one page has all bytes
  pub fits_one : touched addr len ≡ addr / PAGE ∷ [] → addr % PAGE + len ≤ PAGE
  fits_one pages = elim (size 1 pages) [ inl bare ↦ omega (arith, bare.1) | inr some ↦ omega (arith, some) ]

  -- they pass the end of the first of two pages
  pub fits_two : touched addr len ≡ addr / PAGE ∷ (addr / PAGE + 1) ∷ [] → PAGE < addr % PAGE + len
  fits_two pages = elim (size 2 pages) [ inl bare ↦ omega (arith, bare.1) | inr some ↦ omega (arith, some) ]

module _ (c : Content) (table : Entries) (root addr len : ℕ) (found : List Entry) (touches : Touches (IsMappedInside c table root) addr len found) where
  -- the pages that are found are those that are shown
  shown_found : pages_shown (table root) (touched addr len) ≡ map page_shown found
  shown_found = rw touches.pages (shown_from (IsMappedInside c table root) (table root) (λ x. x) (λ p x mapped. mapped.is) (addr / PAGE) found touches.each)

  module _ (none : None ≡ access_refusal c writing (table root) (touched addr len)) where
    -- a write that takes no more frames than are free
    pub found_free : used c + need_each c (map page_shown found) ≤ c.frames → None ≡ first_of (write_refusals c (table root) (touched addr len))
    found_free enough = write_free c (table root) (touched addr len) none (rw shown_found enough)

    -- a write that takes more
    pub found_short : c.frames < used c + need_each c (map page_shown found) → Some NoMemory ≡ first_of (write_refusals c (table root) (touched addr len))
    found_short short = write_short c (table root) (touched addr len) none (rw shown_found short)

    -- two frames are enough
    pub found_two : len ≤ PAGE → (free : ℕ) → 2 ≤ free → free + used c ≡ c.frames → None ≡ first_of (write_refusals c (table root) (touched addr len))
    found_two few free two all = write_free c (table root) (touched addr len) none
        (omega (arith, two, all, need_two c (table root) (touched addr len) (touched_few addr len few)))
