-- What each kind of job does to pages of a VMO in a row, as one relation: it does a row and the one behind it where it does both
-- together, and it leaves all else as it was.
use Rattle.std.proofs.Common.{◌≡◌, ◌≢◌, ℕ, zero, suc, ◌+◌, ◌-◌, ◌*◌, ◌/◌, ◌<◌, ◌≤◌, Bool, true, false, not, cond, ◌&&◌, List, [], ◌∷◌, replicate, take, refl, sym, ap, subst, ◌∙◌, ◌⊎◌, inl, inr, arith}
use Rattle.std.specs.Prelude.{nat_le, slice_range}
use Rattle.std.specs.List.{range_with_len}
use Rattle.std.proofs.lemmas.List.{take-replicate, drop-replicate}
use Rattle.std.proofs.lemmas.Bool.{cases_Bool, cases_eq, cases_lt, le-leb, and_from}
use Rattle.vm_base.specs.declared.limits.TheConstants.{PAGE}
use Rattle.vm_model.specs.Contents.Content.{Content, is_held, pages_of, sole, used, IsGood}
use Rattle.vm_model.specs.Contents.Owning.{Owns, OwnsAll}
use Rattle.vm_model.specs.Contents.Writing.{Piece, piece, part_at, part_bytes, WritesPiece}
use Rattle.vm_model.specs.Contents.Zeroing.{zeroed, is_whole, is_cleared, ZeroesPage, Zeroes}
use Rattle.vm_model.proofs.OwningLaws.{Owned-from_Owns, unowned, count_from}
use Rattle.vm_model.proofs.RangeLaws.{part_fits}
use Rattle.vm_model.proofs.WritingLaws.{IsKept-same, IsKept-trans, Written-other, Written-from_WritesPiece}
use Rattle.vm_model.proofs.ZeroesLaws.{zeroed-keeps, ZeroedPage-from_ZeroesPage}
use Rattle.vm_model.proofs.ZeroingLaws.{cases_zeroed, page-zeroed_in, page-zeroed_out, sole-zeroed_out}
use Rattle.batch_model.specs.declared.job.JobKind.{JobKind}
use Rattle.batch_model.specs.declared.job.JobKind.TheVariants.{Commit, Zero, Decommit}
use Rattle.batch_model.proofs.RowLaws.{row_both, unowned-same, Leaves}

-- what a kind of job does to n pages of v in a row, from page `first` on, of which some may be pinned
abbrev pub Treats : JobKind → (v : ℕ) → (pinned : ℕ → Bool) → (first n : ℕ) → Content → Content → Type 0
Treats Commit v pinned first n c d = OwnsAll c v (range_with_len first n) d
Treats Zero v pinned first n c d = Zeroes c v pinned (first * PAGE) (n * PAGE) (range_with_len first n) d
Treats Decommit v pinned first n c d = d ≡ zeroed c v first (first + n)

-- ---- what is left

-- nothing changes
pub Leaves-same : (v first end : ℕ) (c d : Content) → IsGood c → d ≡ c → Leaves v first end c d
Leaves-same v first end c d good e = subst (Leaves v first end c) (sym e) (record { kept = IsKept-same c c good refl; page = λ w q out. refl; alone = λ q out. refl })

-- a row and the one behind it
pub Leaves-both : (v first mid end : ℕ) (c b d : Content) → first ≤ mid → mid ≤ end → Leaves v first mid c b → Leaves v mid end b d → Leaves v first end c d
Leaves-both v first mid end c b d low high these those = record {
  kept = IsKept-trans c b d these.kept those.kept;
  page = λ w q out. those.page w q (λ same. behind q (out same)) ∙ these.page w q (λ same. before q (out same));
  alone = λ q out. those.alone q (behind q out) ∙ these.alone q (before q out);
} where
  before : (q : ℕ) → (q < first) ⊎ (end ≤ q) → (q < first) ⊎ (mid ≤ q)
  before q (inl less) = inl less
  before q (inr past) = inr (omega arith)

  behind : (q : ℕ) → (q < first) ⊎ (end ≤ q) → (q < mid) ⊎ (end ≤ q)
  behind q (inl less) = inl (omega arith)
  behind q (inr past) = inr past

module _ (v lowest : ℕ) (Change : Content → ℕ → Content → Type 0) (Changes : Content → List ℕ → Content → Type 0)
    (none : (old new : Content) → Changes old [] new → new ≡ old)
    (more : (old new : Content) (p : ℕ) (ps : List ℕ) → Changes old (p ∷ ps) new → (mid : Content) × Change old p mid × Changes mid ps new)
    (leaves : (old new : Content) (p : ℕ) → IsGood old → p < pages_of old v → lowest ≤ p → Change old p new → Leaves v p (p + 1) old new) where
  -- what changes one page after another leaves what each change leaves
  row_leaves : (first n : ℕ) (old new : Content) → IsGood old → lowest ≤ first → first + n ≤ pages_of old v
      → Changes old (range_with_len first n) new → Leaves v first (first + n) old new
  row_leaves first zero old new good low h changes = Leaves-same v first (first + zero) old new good (none old new changes)
  row_leaves first (suc n) old new good low h changes =
      let parts = more old new first (range_with_len (first + 1) n) changes in
      let one = leaves old parts.0 first good (omega arith) low parts.1 in
      let e : (first + 1) + n ≡ first + suc n = omega arith in
      let rest = row_leaves (first + 1) n parts.0 new one.kept.good (omega arith) (omega (arith, one.kept.pages v)) parts.2 in
      Leaves-both v first (first + 1) (first + suc n) old parts.0 new (omega arith) (omega arith) one (subst (λ (k : ℕ). Leaves v (first + 1) k parts.0 new) e rest)

-- page p of v is owned
abbrev OwnsPage : ℕ → Content → ℕ → Content → Type 0
OwnsPage v old p new = (tag : ℕ) × Owns old new v p tag

-- a page out of the row is another page
another : (v p w q : ℕ) → (w ≡ v → (q < p) ⊎ (p + 1 ≤ q)) → w ≡ v → q ≢ p
another v p w q out same = elim (out same) [ inl less ↦ omega arith | inr past ↦ omega arith ]

Owns-leaves : (v : ℕ) (old new : Content) (p : ℕ) → IsGood old → p < pages_of old v → OwnsPage v old p new → Leaves v p (p + 1) old new
Owns-leaves v old new p good h owns =
    let owned = Owned-from_Owns old new v p owns.0 good h owns.1 in
    record {
      kept = record { good = owned.good; frames = owned.frames; next = owned.next; count = owned.count; pages = owned.pages };
      page = λ w q out. elim (cases_vmo w) [
        | inl same ↦ rw same (owned.other_page q (another v p w q out same))
        | inr apart ↦ owned.other_vmo w q apart
      ];
      alone = λ q out. owned.other_sole q (another v p v q (λ same. out) refl);
    }
  where
    cases_vmo : (w : ℕ) → (w ≡ v) ⊎ (w ≢ v)
    cases_vmo w = cases_eq w v

ZeroesPage-leaves : (v : ℕ) (pinned : ℕ → Bool) (offset len : ℕ) (old new : Content) (p : ℕ) → IsGood old → p < pages_of old v → offset / PAGE ≤ p
    → ZeroesPage old v pinned offset len p new → Leaves v p (p + 1) old new
ZeroesPage-leaves v pinned offset len old new p good h from zeroes =
    let page = ZeroedPage-from_ZeroesPage old v pinned offset len p new good h from zeroes in
    record {
      kept = page.kept;
      page = λ w q out. elim (cases_Bool (is_cleared pinned offset len p)) [
        | inl cleared ↦ ap (λ (c : Content). c.page w q) (zeroes.cleared cleared) ∙ page-zeroed_out old v p (p + 1) w q out
        | inr part ↦ elim (cases_Bool (is_held old v p)) [
          | inl held ↦
              Written-other old new v p (Written-from_WritesPiece old (piece v offset (replicate len 0) p) new good h (part_fits offset (replicate len 0) p from) (zeroes.held part held)) w q
              (another v p w q out)
          | inr free ↦ ap (λ (c : Content). c.page w q) (zeroes.zero part free)
        ]
      ];
      alone = λ q out. page.other_sole q (another v p v q (λ same. out) refl);
    }

-- whatever the kind
pub Treats-leaves : (kind : JobKind) (v : ℕ) (pinned : ℕ → Bool) (first n : ℕ) (c d : Content) → IsGood c → first + n ≤ pages_of c v
    → Treats kind v pinned first n c d → Leaves v first (first + n) c d
Treats-leaves Commit v pinned first n c d good h treats =
    row_leaves v 0 (OwnsPage v) (λ a ps b. OwnsAll a v ps b) (λ a b e. e) (λ a b p ps all. (all.0, (all.1, all.2), all.3)) (λ a b p fine below low. Owns-leaves v a b p fine below)
    first n c d good (omega arith) h treats
Treats-leaves Zero v pinned first n c d good h treats =
    row_leaves v (first * PAGE / PAGE) (λ a p b. ZeroesPage a v pinned (first * PAGE) (n * PAGE) p b) (λ a ps b. Zeroes a v pinned (first * PAGE) (n * PAGE) ps b) (λ a b e. e) (λ a b p ps all. all)
    (λ a b p fine below low. ZeroesPage-leaves v pinned (first * PAGE) (n * PAGE) a b p fine below low) first n c d good (omega arith) h treats
Treats-leaves Decommit v pinned first n c d good h treats = subst (Leaves v first (first + n) c) (sym treats) (record {
  kept = zeroed-keeps c v first (first + n) good;
  page = λ w q out. page-zeroed_out c v first (first + n) w q out;
  alone = λ q out. sole-zeroed_out c v first (first + n) q out;
})

-- ---- a row and the one behind it

-- what zeroing a range writes into a page that lies wholly in it is a page of zeros from the page's first byte on
unfoldable zeros_in : ℕ → ℕ → Piece
zeros_in v p = record { koid = v; page = p; at = 0; bytes = replicate PAGE 0 }

-- whole pages of zeros in a range of zeros
zeros-part : (len i j : ℕ) → i ≤ j → j ≤ len → j - i ≡ PAGE → slice_range {X = ℕ} (replicate len 0) i j ≡ replicate PAGE 0
zeros-part len i j low high e = ap (take (j - i)) (drop-replicate i len 0) ∙ (take-replicate (j - i) (len - i) 0 (omega arith) ∙ ap (λ (k : ℕ). replicate k 0) e)

piece-whole : (v offset len p : ℕ) → offset ≤ p * PAGE → (p + 1) * PAGE ≤ offset + len → piece v offset (replicate len 0) p ≡ zeros_in v p
unfolding zeros_in part_at part_bytes
piece-whole v offset len p low high =
    let at : part_at offset p ≡ 0 = omega arith in
    let bytes : part_bytes offset (replicate len 0) p ≡ replicate PAGE 0 =
    zeros-part len (PAGE * p - offset) (PAGE * (p + 1) - offset) (omega arith) (omega arith) (omega arith) in
    λ i. record { koid = v; page = p; at = at i; bytes = bytes i }

pub is_whole-true : (offset len p : ℕ) → offset ≤ p * PAGE → (p + 1) * PAGE ≤ offset + len → is_whole offset len p ≡ true
is_whole-true offset len p low high =
    and_from (nat_le offset (PAGE * p)) (nat_le (PAGE * (p + 1)) (offset + len)) (le-leb offset (PAGE * p) (omega arith)) (le-leb (PAGE * (p + 1)) (offset + len) (omega arith))

-- a page is zeroed alike by any two ranges in which it lies wholly
ZeroesPage-moved : (old : Content) (v : ℕ) (pinned : ℕ → Bool) (offset len other more p : ℕ) (new : Content)
    → offset ≤ p * PAGE → (p + 1) * PAGE ≤ offset + len → other ≤ p * PAGE → (p + 1) * PAGE ≤ other + more
    → ZeroesPage old v pinned offset len p new → ZeroesPage old v pinned other more p new
ZeroesPage-moved old v pinned offset len other more p new low high below above zeroes =
    let whole : is_whole offset len p ≡ is_whole other more p = is_whole-true offset len p low high ∙ sym (is_whole-true other more p below above) in
    let same : is_cleared pinned offset len p ≡ is_cleared pinned other more p = ap (λ (b : Bool). b && not (pinned p)) whole in
    let part : piece v offset (replicate len 0) p ≡ piece v other (replicate more 0) p = piece-whole v offset len p low high ∙ sym (piece-whole v other more p below above) in
    record {
      cleared = λ e. zeroes.cleared (same ∙ e);
      held = λ e held. subst (λ (w : Piece). WritesPiece old w new) part (zeroes.held (same ∙ e) held);
      zero = λ e free. zeroes.zero (same ∙ e) free;
    }

-- so are pages in a row
Zeroes-moved : (v : ℕ) (pinned : ℕ → Bool) (offset len other more first n : ℕ) (old new : Content)
    → offset ≤ first * PAGE → (first + n) * PAGE ≤ offset + len → other ≤ first * PAGE → (first + n) * PAGE ≤ other + more
    → Zeroes old v pinned offset len (range_with_len first n) new → Zeroes old v pinned other more (range_with_len first n) new
Zeroes-moved v pinned offset len other more first zero old new low high below above zeroes = zeroes
Zeroes-moved v pinned offset len other more first (suc n) old new low high below above zeroes = (
  zeroes.0,
  ZeroesPage-moved old v pinned offset len other more first zeroes.0 low (omega arith) below (omega arith) zeroes.1,
  Zeroes-moved v pinned offset len other more (first + 1) n zeroes.0 new (omega arith) (omega arith) (omega arith) (omega arith) zeroes.2,
)

-- zeros in a range and in the one behind it
zeroed-both : (c : Content) (v first mid end : ℕ) → first ≤ mid → mid ≤ end → zeroed (zeroed c v first mid) v mid end ≡ zeroed c v first end
unfolding zeroed
zeroed-both = grind (arith, cases_zeroed, cases_lt, page-zeroed_out, page-zeroed_in)

-- whatever the kind
pub Treats-both : (kind : JobKind) (v : ℕ) (pinned : ℕ → Bool) (first n m : ℕ) (c b d : Content) → Treats kind v pinned first n c b → Treats kind v pinned (first + n) m b d
    → Treats kind v pinned first (n + m) c d
Treats-both Commit v pinned first n m c b d these those =
    row_both (OwnsPage v) (λ x ps y. OwnsAll x v ps y) (λ x y e. e) (λ x. refl) (λ x y p ps all. (all.0, (all.1, all.2), all.3)) (λ x y z p ps one all. (y, one.0, one.1, all))
    first n m c b d these those
Treats-both Zero v pinned first n m c b d these those =
    let offset = first * PAGE in
    let len = (n + m) * PAGE in
    row_both (λ x p y. ZeroesPage x v pinned offset len p y) (λ x ps y. Zeroes x v pinned offset len ps y) (λ x y e. e) (λ x. refl) (λ x y p ps all. all) (λ x y z p ps one all. (y, one, all))
    first n m c b d
    (Zeroes-moved v pinned (first * PAGE) (n * PAGE) offset len first n c b (omega arith) (omega arith) (omega arith) (omega arith) these)
    (Zeroes-moved v pinned ((first + n) * PAGE) (m * PAGE) offset len (first + n) m b d (omega arith) (omega arith) (omega arith) (omega arith) those)
Treats-both Decommit v pinned first n m c b d these those =
    let e : (first + n) + m ≡ first + (n + m) = omega arith in
    those ∙ (ap (λ (x : Content). zeroed x v (first + n) ((first + n) + m)) these
    ∙ (zeroed-both c v first (first + n) ((first + n) + m) (omega arith) (omega arith) ∙ ap (zeroed c v first) e))

-- ---- how many frames it takes

-- owning pages takes a frame for each that is not sole
pub OwnsAll-used : (v first n : ℕ) (c d : Content) → IsGood c → first + n ≤ pages_of c v → OwnsAll c v (range_with_len first n) d → used d ≡ used c + unowned c v first n
unfolding unowned count_from
OwnsAll-used v first zero c d good h owns = omega (arith, ap used owns)
OwnsAll-used v first (suc n) c d good h owns =
    let owned = Owned-from_Owns c owns.0 v first owns.1 good (omega arith) owns.2 in
    let rest = OwnsAll-used v (first + 1) n owns.0 d owned.good (omega (arith, owned.pages v)) owns.3 in
    let same = unowned-same c owns.0 v (first + 1) n (λ p low high. let apart : p ≢ first = omega arith in owned.other_sole p apart) in
    one (sole c v first) (used owns.0) (used c) owned.used (used d) (unowned owns.0 v (first + 1) n) (unowned c v (first + 1) n) rest same where
      one : (alone : Bool) (m u : ℕ) → m ≡ cond alone u (u + 1) → (k x y : ℕ) → k ≡ m + x → x ≡ y → k ≡ u + (cond (not alone) 1 0 + y)
      one true m u e k x y f g = omega arith
      one false m u e k x y f g = omega arith
