-- Laws of entries that go: how many pages show a VMO then, and that the address spaces stay good.
use Rattle.std.proofs.Common.{◌≡◌, ◌≢◌, ℕ, zero, suc, ◌+◌, ◌-◌, ◌<◌, ◌≤◌, Bool, true, false, cond, ◌==◌, Option, None, Some, IsSome, refl, sym, ap, subst, ◌∙◌, inl, inr, arith}
use Rattle.std.specs.Prelude.{nat_lt}
use Rattle.std.proofs.lemmas.Bool.{cases_eq}
use Rattle.std.proofs.lemmas.Bool.Decides.{nat_tests}
use Rattle.vm_base.specs.Search.{count_below, sum_below}
use Rattle.vm_base.specs.Entries.{passes}
use Rattle.vm_base.specs.declared.limits.TheConstants.{NAMES, ROOT_END}
use Rattle.vm_base.proofs.EntryLaws.{passes-none, passes-some}
use Rattle.vm_base.proofs.SearchLaws.{below_next, bit_same, eqb_apart, count_below_same}
use Rattle.vm_model.specs.Contents.Content.{Content}
use Rattle.vm_model.specs.declared.space.Entry.{Entry}
use Rattle.vm_model.specs.Space.Table.{mapping_from}
use Rattle.vm_model.specs.Space.AddressSpaces.{Spaces, shows, is_mapped, mapped_count, AreGoodSpaces}
use Rattle.vm_model.proofs.RegionLaws.{region_bounds, reaches_over_parts}
use Rattle.vm_model.proofs.SpaceLaws.{is_mapped-count}
use Rattle.vm_model.proofs.TableLaws.{with_pages-in, with_pages-out, with_pages-was}
use Rattle.mapping_set.specs.declared.piece.Piece.{Piece}
use Rattle.mapping_set.specs.Tables.{without_piece, IsBare, IsPieceOf}

-- ---- sums and counts

-- where what is added up differs for one number at most, the sums differ by what is added for it
sum_below_change : (n k : ℕ) (f g : ℕ → ℕ) → k < n → ((j : ℕ) → j ≢ k → g j ≡ f j) → sum_below n g + f k ≡ sum_below n f + g k
unfolding sum_below
sum_below_change zero k f g h others = absurd (omega arith)
sum_below_change (suc n) k f g h others = elim (below_next k n h) [
  | inl same ↦
      let rest = sum_below_same n f g (λ j less. others j (omega arith)) in
      let was : f k ≡ f n = ap f same in
      let is : g k ≡ g n = ap g same in
      omega (arith, rest, was, is)
  | inr less ↦ omega (arith, sum_below_change n k f g less others, others n (omega arith))
] where
  sum_below_same : (n : ℕ) (f g : ℕ → ℕ) → ((k : ℕ) → k < n → g k ≡ f k) → sum_below n g ≡ sum_below n f
  sum_below_same zero f g each = refl
  sum_below_same (suc n) f g each = omega (arith, each n (omega arith), sum_below_same n f g (λ k less. each k (omega arith)))

-- which of two numbers comes first makes no difference
pub eqb_turned : (m n : ℕ) → (m == n) ≡ (n == m)
eqb_turned m n = grind (arith, nat_tests)

-- so many for each of no numbers, and of one number more
each_none : (b : Bool) → ◌≡◌ {A = ℕ} (cond b 0 0) 0
each_none true = refl
each_none false = refl

each_more : (b : Bool) (w : ℕ) → ◌≡◌ {A = ℕ} (cond b (suc w) 0) (cond b 1 0 + cond b w 0)
each_more true w = omega arith
each_more false w = refl

-- Where `width` numbers from `first` on, which all pass or all fail, fail, and no other number changes, so many less pass or as many.
pub count_below_range : (b : Bool) (n first width : ℕ) (p q : ℕ → Bool) → first + width ≤ n → ((k : ℕ) → first ≤ k → k < first + width → (p k ≡ b) × (q k ≡ false))
    → ((k : ℕ) → k < n → (first ≤ k → k < first + width → ⊥) → q k ≡ p k) → count_below n q + cond b width 0 ≡ count_below n p
unfolding count_below
count_below_range b n first zero p q h each others =
    let same = count_below_same n q p (λ k less. others k less (λ low high. omega arith)) in
    omega (arith, same, each_none b)
count_below_range b zero first (suc width) p q h each others = absurd (omega arith)
count_below_range b (suc n) first (suc width) p q h each others = elim (cases_eq (first + width) n) [
  | inl top ↦
      let here = each n (omega (arith, top)) (omega (arith, top)) in
      let rest = count_below_range b n first width p q (omega (arith, top)) (λ k low high. each k low (omega arith)) (λ k less out. others k (omega arith) (λ low high. out low (omega (arith, top)))) in
      omega (arith, rest, bit_same (p n) b here.0, bit_same (q n) false here.1, each_more b width)
  | inr apart ↦
      let rest = count_below_range b n first (suc width) p q (omega (arith, apart)) each (λ k less out. others k (omega arith) out) in
      let same = others n (omega arith) (λ low high. omega (arith, apart)) in
      omega (arith, rest, bit_same (q n) (p n) same)
]

-- ---- one piece more

-- The pages of a piece show its VMO in one table and nothing in the other, and no other page differs.
pub record IsPieceMore (less more : ℕ → ℕ → Option Entry) (root : ℕ) (piece : Piece) : Type 0 where
  pub space : root < NAMES
  pub end : piece.first + piece.count ≤ ROOT_END
  pub bare : IsBare (less root) piece.first (piece.first + piece.count)
  pub shown : (p : ℕ) → piece.first ≤ p → p < piece.first + piece.count → more root p ≡ mapping_from piece.first piece.entry p
  pub others : (r p : ℕ) → (r ≡ root → piece.first ≤ p → p < piece.first + piece.count → ⊥) → less r p ≡ more r p

module _ (s t : Spaces) {root : ℕ} {piece : Piece} (is : IsPieceMore s.table t.table root piece) where
  -- as many pages more show its VMO, and of the others as many
  pub mapped_count-more : (v : ℕ) → mapped_count s v + cond (v == piece.entry.koid.0) piece.count 0 ≡ mapped_count t v
  unfolding mapped_count
  mapped_count-more v =
      let change = sum_below_change NAMES root (count_in t.table) (count_in s.table) is.space (λ r apart.
      count_below_same ROOT_END _ _ (λ p below. ap (passes (shows v)) (is.others r p (λ same low high. apart same)))) in
      let range = count_below_range (piece.entry.koid.0 == v) ROOT_END piece.first piece.count (λ p. passes (shows v) (t.table root p)) (λ p. passes (shows v) (s.table root p)) is.end
      (λ p low high. (passes-some (shows v) (t.table root p) _ (is.shown p low high), passes-none (shows v) _ (is.bare p low high)))
      (λ p below out. ap (passes (shows v)) (is.others root p (λ same low high. out low high))) in
      omega (arith, change, range, turned) where
        count_in : (ℕ → ℕ → Option Entry) → ℕ → ℕ
        count_in table r = count_below ROOT_END (λ p. passes (shows v) (table r p))

        turned : ◌≡◌ {A = ℕ} (cond (v == piece.entry.koid.0) piece.count 0) (cond (piece.entry.koid.0 == v) piece.count 0)
        turned = ap (λ (b : Bool). cond {A = ℕ} b piece.count 0) (eqb_turned v piece.entry.koid.0)

  -- the other VMOs are as mapped
  pub is_mapped-more : (v : ℕ) → v ≢ piece.entry.koid.0 → is_mapped s v ≡ is_mapped t v
  is_mapped-more v apart =
      let count = mapped_count-more v in
      let none : ◌≡◌ {A = ℕ} (cond (v == piece.entry.koid.0) piece.count 0) 0 = ap (λ (b : Bool). cond {A = ℕ} b piece.count 0) (eqb_apart v piece.entry.koid.0 apart) in
      let same : mapped_count s v ≡ mapped_count t v = omega (arith, count, none) in
      is_mapped-count s v ∙ (ap (nat_lt 0) same ∙ sym (is_mapped-count t v))

-- ---- entries that go

-- what entries the table has the other had
abbrev pub HasLess : (ℕ → ℕ → Option Entry) → (ℕ → ℕ → Option Entry) → Type 0
HasLess table less = (r p : ℕ) (entry : Entry) → less r p ≡ Some entry → table r p ≡ Some entry

pub HasLess-same : (table : ℕ → ℕ → Option Entry) → HasLess table table
HasLess-same table = λ r p entry e. e

pub HasLess-piece : (table : ℕ → ℕ → Option Entry) (root : ℕ) (piece : Piece) → HasLess table (without_piece table root piece)
HasLess-piece table root piece = λ r p entry e. elim (with_pages-was table root piece.first (piece.first + piece.count) (λ q. None) r p entry e) [
  | inl new ↦ absurd (let none = new.3 in cc)
  | inr was ↦ was.1
]

module _ (c : Content) (spaces : Spaces) (good : AreGoodSpaces c spaces) where
  -- address spaces stay good where entries go
  pub AreGoodSpaces-less : (table : ℕ → ℕ → Option Entry) → HasLess spaces.table table → AreGoodSpaces c (record spaces { table = table })
  AreGoodSpaces-less table less = record {
    regions = good.regions;
    caps = good.caps;
    entries = λ r p entry e. good.entries r p entry (less r p entry e);
    vmos = λ r p entry e. good.vmos r p entry (less r p entry e);
  }

  -- an entry lies below the ends
  pub entry_bounds : (root p : ℕ) (entry : Entry) → spaces.table root p ≡ Some entry → (root < NAMES) × (p < ROOT_END)
  entry_bounds root p entry e =
      let fine = good.entries root p entry e in
      let bounds = region_bounds spaces.regions good.regions entry.region.0 fine.region fine.given fine.live in
      let inside = reaches_over_parts p (p + 1) fine.region fine.inside in
      (subst (λ (n : ℕ). n < NAMES) fine.root_is bounds.1, omega (arith, inside.1, bounds.0))

  module _ (root : ℕ) (piece : Piece) (is : IsPieceOf (spaces.table root) piece) where
    -- the spaces without the entries of a piece
    abbrev less : Spaces
    less = record spaces { table = without_piece spaces.table root piece }

    first_is : spaces.table root piece.first ≡ mapping_from piece.first piece.entry piece.first
    first_is = let some = is.some in is.entries piece.first (omega arith) (omega arith)

    last_is : spaces.table root (piece.first + piece.count - 1) ≡ mapping_from piece.first piece.entry (piece.first + piece.count - 1)
    last_is = let some = is.some in is.entries (piece.first + piece.count - 1) (omega arith) (omega arith)

    root_below : root < NAMES
    root_below = (entry_bounds root piece.first _ first_is).0

    end_below : piece.first + piece.count ≤ ROOT_END
    end_below = let last = (entry_bounds root (piece.first + piece.count - 1) _ last_is).1 in omega (arith, last)

    pub piece_vmo : IsSome (c.count piece.entry.koid.0)
    piece_vmo = good.vmos root piece.first _ first_is

    gone : IsPieceMore less.table spaces.table root piece
    gone = record {
      space = root_below;
      end = end_below;
      bare = with_pages-in spaces.table root piece.first (piece.first + piece.count) (λ q. None);
      shown = is.entries;
      others = with_pages-out spaces.table root piece.first (piece.first + piece.count) (λ q. None);
    }

    -- as many pages less show its VMO, and of the others as many as before
    pub mapped_count-piece : (v : ℕ) → mapped_count less v + cond (v == piece.entry.koid.0) piece.count 0 ≡ mapped_count spaces v
    mapped_count-piece = mapped_count-more less spaces gone

    -- the other VMOs are as mapped as before
    pub is_mapped-piece : (v : ℕ) → v ≢ piece.entry.koid.0 → is_mapped less v ≡ is_mapped spaces v
    is_mapped-piece = is_mapped-more less spaces gone
