-- The numbers of links in blocks, as one comes, changes or goes.
use Rattle.std.proofs.Common.{◌≡◌, ◌≢◌, ℕ, ◌+◌, ◌*◌, ◌<◌, ◌≤◌, ◌/◌, ◌%◌, ◌^◌, Bool, List, length, get_or, set, replicate, Option, None, Some, IsSome, is_some, ◌⊎◌, refl, sym, ap, ◌∙◌, inl, inr, arith}
use Rattle.std.proofs.lemmas.Bool.{cases_eq, cases_lt}
use Rattle.std.proofs.lemmas.List.{get_or-set_same, get_or-set_other, get_or_past, get_or-replicate, length-set, length-replicate}
use Rattle.vm_base.specs.Entries.{with_key, without_key}
use Rattle.vm_base.proofs.EntryLaws.{some_same, some_is, with_key-here, with_key-other, without_key-same, without_key-other}
use Rattle.balanced_tree.specs.Pairs.{with_pair, IsNext}
use Rattle.mapping_set.proofs.TableLaws.{with_pair-cases}
use Rattle.fault.specs.declared.page_map.Block.{Block}
use Rattle.fault.specs.inside.Pages.{block_entry, entry_in, block_entry_at, links_in, with_entry, AreBlocks}
use Rattle.fault.proofs.PairLaws.{missing, pair-left, pair-here, pair-cases}

-- a place behind the last has no number
entry-past : (k : Block) (i : ℕ) → length k.entries ≡ 8 → 8 ≤ i → block_entry k i ≡ None
entry-past k i size past = get_or_past k.entries i None (omega (arith, size))

module _ (rows : ℕ → ℕ → Option ℕ) (blocks : ℕ → Option Block) (h : AreBlocks rows blocks) where
  -- a block that is there
  pub block-there : (a n x : ℕ) → rows a n ≡ Some x → (k : Block) × (blocks x ≡ Some k)
  block-there a n x is = some_is (blocks x) (h.there a n x is)

  -- the entry of a page, by its block
  pub entry-by : (a p x : ℕ) (k : Block) → rows a (p / 8) ≡ Some x → blocks x ≡ Some k → links_in rows blocks a p ≡ block_entry k (p % 8)
  entry-by a p x k row is = ap (λ o. block_entry_at blocks o (p % 8)) row ∙ ap (λ o. entry_in o (p % 8)) is

  pub entry-none : (a p : ℕ) → rows a (p / 8) ≡ None → links_in rows blocks a p ≡ None
  entry-none a p none = ap (λ o. block_entry_at blocks o (p % 8)) none

  -- ---- a number of a block changes

  module _ (a p x : ℕ) (k : Block) (row : rows a (p / 8) ≡ Some x) (is : blocks x ≡ Some k) (v : Option ℕ) (now : ℕ → Option Block) (now_is : now ≡ with_key blocks x (with_entry k (p % 8) v)) where
    block-here : (y : ℕ) → y ≡ x → now y ≡ Some (with_entry k (p % 8) v)
    block-here y same = ap (λ (m : ℕ → Option Block). m y) now_is ∙ with_key-here blocks x (with_entry k (p % 8) v) y same

    block-other : (y : ℕ) → y ≢ x → now y ≡ blocks y
    block-other y apart = ap (λ (m : ℕ → Option Block). m y) now_is ∙ with_key-other blocks x (with_entry k (p % 8) v) y apart

    within : p % 8 < length k.entries
    within = let size = h.size x k is in omega (arith, size)

    at-alike : (o : Option ℕ) (i : ℕ) → (o ≡ Some x → ⊥) → block_entry_at now o i ≡ block_entry_at blocks o i
    at-alike None i apart = refl
    at-alike (Some y) i apart = ap (λ b. entry_in b i) (block-other y (λ same. apart (ap {B = Option ℕ} (λ n. Some n) same)))

    leads-to : (o : Option ℕ) → (o ≡ Some x) ⊎ (o ≡ Some x → ⊥)
    leads-to None = inr (λ e. absurd cc)
    leads-to (Some y) = elim (cases_eq y x) [
      | inl same ↦ inl (ap {B = Option ℕ} (λ n. Some n) same)
      | inr apart ↦ inr (λ e. apart (some_same e))
    ]

    pub links-set : links_in rows now ≡ with_pair (links_in rows blocks) a p v
    links-set = λ i r q. at r q i
      where
        at : (r q : ℕ) → links_in rows now r q ≡ with_pair (links_in rows blocks) a p v r q
        at r q = elim (with_pair-cases (links_in rows blocks) a p v r q) [
          | inl here ↦
              (λ i. links_in rows now (here.0 i) (here.1 i))
              ∙ (ap (λ o. block_entry_at now o (p % 8)) row ∙ (ap (λ o. entry_in o (p % 8)) (block-here x refl)
              ∙ (get_or-set_same k.entries (p % 8) v None within ∙ sym here.2)))
          | inr there ↦ elim (leads-to (rows r (q / 8))) [
            | inl same ↦
                let page = h.once r (q / 8) a (p / 8) x same row in
                let number = page.1 in
                let apart : q % 8 ≢ p % 8 = λ place. there.0 page.0 (omega (arith, number, place)) in
                ap (λ o. block_entry_at now o (q % 8)) same ∙ (ap (λ o. entry_in o (q % 8)) (block-here x refl)
                ∙ (get_or-set_other k.entries (p % 8) (q % 8) v None apart
                ∙ (sym (entry-by r q x k same is) ∙ sym there.1)))
            | inr other ↦ at-alike (rows r (q / 8)) (q % 8) other ∙ sym there.1
          ]
        ]

    -- where one is left, the blocks are right
    pub AreBlocks-set : ((j : ℕ) × IsSome (block_entry (with_entry k (p % 8) v) j)) → AreBlocks rows now
    AreBlocks-set left = record {
      there = λ b n y e. elim (cases_eq y x) [
        | inl same ↦ ap {B = Bool} is_some (block-here y same)
        | inr apart ↦ ap {B = Bool} is_some (block-other y apart) ∙ h.there b n y e
      ];
      once = h.once;
      used = λ b n y j e f. elim (cases_eq y x) [
        | inl same ↦
            let one : with_entry k (p % 8) v ≡ j = some_same (sym (block-here y same) ∙ f) in
            (left.0, ap {B = Bool} (λ (l : Block). is_some (block_entry l left.0)) (sym one) ∙ left.1)
        | inr apart ↦ h.used b n y j e (sym (block-other y apart) ∙ f)
      ];
      below = h.below;
      size = λ y j f. elim (cases_eq y x) [
        | inl same ↦
            let one : with_entry k (p % 8) v ≡ j = some_same (sym (block-here y same) ∙ f) in
            ap (λ (l : Block). length l.entries) (sym one) ∙ (length-set k.entries (p % 8) v ∙ h.size x k is)
        | inr apart ↦ h.size y j (sym (block-other y apart) ∙ f)
      ];
    }

  -- ---- a block goes that has no number left

  module _ (a n x : ℕ) (row : rows a n ≡ Some x) (fewer : ℕ → ℕ → Option ℕ) (fewer_is : fewer ≡ with_pair rows a n None) (was now : ℕ → Option Block)
      (was_other : (y : ℕ) → y ≢ x → was y ≡ blocks y) (k : Block) (was_here : was x ≡ Some k) (empty : IsNext (block_entry k) 0 None)
      (now_is : now ≡ without_key was x) where
    kept-block : (b m y : ℕ) → fewer b m ≡ Some y → (rows b m ≡ Some y) × (y ≢ x)
    kept-block b m y e =
        let old = pair-left rows fewer a n fewer_is b m y e in
        (old.1, λ same. let page = h.once b m a n x (old.1 ∙ ap {B = Option ℕ} (λ z. Some z) same) row in old.0 page.0 page.1)

    now-other : (y : ℕ) → y ≢ x → now y ≡ was y
    now-other y apart = ap (λ (m : ℕ → Option Block). m y) now_is ∙ without_key-other was x y apart

    pub links-same : links_in fewer now ≡ links_in rows was
    links-same = λ i r q. at r q i
      where
        alike : (r q : ℕ) (o : Option ℕ) → fewer r (q / 8) ≡ o → block_entry_at now o (q % 8) ≡ block_entry_at was o (q % 8)
        alike r q None e = refl
        alike r q (Some y) e = ap (λ b. entry_in b (q % 8)) (now-other y (kept-block r (q / 8) y e).1)

        at : (r q : ℕ) → links_in fewer now r q ≡ links_in rows was r q
        at r q = elim (with_pair-cases rows a n None r (q / 8)) [
          | inl here ↦
              ap (λ o. block_entry_at now o (q % 8)) (ap (λ (m : ℕ → ℕ → Option ℕ). m r (q / 8)) fewer_is ∙ here.2)
              ∙ sym (ap (λ o. block_entry_at was o (q % 8)) (ap (λ b. rows b (q / 8)) here.0 ∙ (ap (rows a) here.1 ∙ row))
              ∙ (ap (λ o. entry_in o (q % 8)) was_here ∙ empty.none refl (q % 8) (omega arith)))
          | inr there ↦
              alike r q (fewer r (q / 8)) refl ∙ ap (λ o. block_entry_at was o (q % 8)) (ap (λ (m : ℕ → ℕ → Option ℕ). m r (q / 8)) fewer_is ∙ there.1)
        ]

    pub AreBlocks-gone : AreBlocks fewer now
    AreBlocks-gone = record {
      there = λ b m y e. let old = kept-block b m y e in ap {B = Bool} is_some (now-other y old.1 ∙ was_other y old.1) ∙ h.there b m y old.0;
      once = λ b m c l y one two. h.once b m c l y (kept-block b m y one).0 (kept-block c l y two).0;
      used = λ b m y j e f. let old = kept-block b m y e in h.used b m y j old.0 (sym (now-other y old.1 ∙ was_other y old.1) ∙ f);
      below = λ b m y e. h.below b m y (kept-block b m y e).0;
      size = λ y j f. elim (cases_eq y x) [
        | inl same ↦ absurd (missing f (ap now same ∙ (ap (λ (m : ℕ → Option Block). m x) now_is ∙ gone-here)))
        | inr apart ↦ h.size y j (sym (now-other y apart ∙ was_other y apart) ∙ f)
      ];
    }
      where
        gone-here : without_key was x x ≡ None
        gone-here = without_key-same was x

  -- ---- a block comes

  module _ (a p x link : ℕ) (few : p < 2 ^ 64) (none : rows a (p / 8) ≡ None) (free : blocks x ≡ None) (k : Block) (k_is : k.entries ≡ set (replicate 8 None) (p % 8) (Some link))
      (more : ℕ → ℕ → Option ℕ) (more_is : more ≡ with_pair rows a (p / 8) (Some x)) (now : ℕ → Option Block) (now_is : now ≡ with_key blocks x k) where
    new-block : now x ≡ Some k
    new-block = ap (λ (m : ℕ → Option Block). m x) now_is ∙ with_key-here blocks x k x refl

    old-block : (y : ℕ) → y ≢ x → now y ≡ blocks y
    old-block y apart = ap (λ (m : ℕ → Option Block). m y) now_is ∙ with_key-other blocks x k y apart

    row-apart : (b n y : ℕ) → rows b n ≡ Some y → y ≢ x
    row-apart b n y e same = absurd (let no = sym (h.there b n y e) ∙ (ap {B = Bool} (λ z. is_some (blocks z)) same ∙ ap {B = Bool} is_some free) in cc)

    new-entry : block_entry k (p % 8) ≡ Some link
    new-entry = ap (λ (l : List (Option ℕ)). get_or l (p % 8) None) k_is ∙ get_or-set_same (replicate 8 None) (p % 8) (Some link) None (omega (arith, length-replicate 8 (let o : Option ℕ = None in o)))

    pub links-new : links_in more now ≡ with_pair (links_in rows blocks) a p (Some link)
    links-new = λ i r q. at r q i
      where
        alike : (r q : ℕ) (o : Option ℕ) → rows r (q / 8) ≡ o → block_entry_at now o (q % 8) ≡ block_entry_at blocks o (q % 8)
        alike r q None e = refl
        alike r q (Some y) e = ap (λ b. entry_in b (q % 8)) (old-block y (row-apart r (q / 8) y e))

        empty : (q : ℕ) → q % 8 ≢ p % 8 → block_entry k (q % 8) ≡ None
        empty q apart = ap (λ (l : List (Option ℕ)). get_or l (q % 8) None) k_is
            ∙ (get_or-set_other (replicate 8 None) (p % 8) (q % 8) (Some link) None apart ∙ get_or-replicate 8 (q % 8) None None (omega arith))

        at : (r q : ℕ) → links_in more now r q ≡ with_pair (links_in rows blocks) a p (Some link) r q
        at r q = elim (with_pair-cases (links_in rows blocks) a p (Some link) r q) [
          | inl here ↦
              ap (λ o. block_entry_at now o (q % 8)) (pair-here rows more a (p / 8) (Some x) more_is r (q / 8) here.0 (ap (λ n. n / 8) here.1))
              ∙ (ap (λ o. entry_in o (q % 8)) new-block ∙ (ap (λ n. block_entry k (n % 8)) here.1 ∙ (new-entry ∙ sym here.2)))
          | inr there ↦ elim (with_pair-cases rows a (p / 8) (Some x) r (q / 8)) [
            | inl same ↦
                let number = same.1 in
                ap (λ o. block_entry_at now o (q % 8)) (ap (λ (m : ℕ → ℕ → Option ℕ). m r (q / 8)) more_is ∙ same.2)
                ∙ (ap (λ o. entry_in o (q % 8)) new-block ∙ (empty q (λ place. there.0 same.0 (omega (arith, number, place)))
                ∙ (sym (ap (λ o. block_entry_at blocks o (q % 8)) (ap (λ b. rows b (q / 8)) same.0 ∙ (ap (rows a) same.1 ∙ none))) ∙ sym there.1)))
            | inr other ↦
                ap (λ o. block_entry_at now o (q % 8)) (ap (λ (m : ℕ → ℕ → Option ℕ). m r (q / 8)) more_is ∙ other.1)
                ∙ (alike r q (rows r (q / 8)) refl ∙ sym there.1)
          ]
        ]

    pub AreBlocks-new : AreBlocks more now
    AreBlocks-new = record {
      there = λ b n y e. elim (pair-cases rows more a (p / 8) x more_is b n y e) [
        | inl here ↦ ap {B = Bool} is_some (ap now (sym here.2) ∙ new-block)
        | inr old ↦ ap {B = Bool} is_some (old-block y (row-apart b n y old.1)) ∙ h.there b n y old.1
      ];
      once = λ b n c m y one two. elim (pair-cases rows more a (p / 8) x more_is b n y one) [
        | inl here ↦ elim (pair-cases rows more a (p / 8) x more_is c m y two) [
          | inl also ↦ (here.0 ∙ sym also.0, here.1 ∙ sym also.1)
          | inr old ↦ absurd (row-apart c m y old.1 (sym here.2))
        ]
        | inr old ↦ elim (pair-cases rows more a (p / 8) x more_is c m y two) [
          | inl also ↦ absurd (row-apart b n y old.1 (sym also.2))
          | inr too ↦ h.once b n c m y old.1 too.1
        ]
      ];
      used = λ b n y j e f. elim (pair-cases rows more a (p / 8) x more_is b n y e) [
        | inl here ↦
            let one : k ≡ j = some_same (sym new-block ∙ (ap now here.2 ∙ f)) in
            (p % 8, ap {B = Bool} (λ (l : Block). is_some (block_entry l (p % 8))) (sym one) ∙ ap {B = Bool} is_some new-entry)
        | inr old ↦ h.used b n y j old.1 (sym (old-block y (row-apart b n y old.1)) ∙ f)
      ];
      below = λ b n y e. elim (pair-cases rows more a (p / 8) x more_is b n y e) [
        | inl here ↦ let number = here.1 in omega (arith, number, few)
        | inr old ↦ h.below b n y old.1
      ];
      size = λ y j f. elim (cases_eq y x) [
        | inl same ↦
            let one : k ≡ j = some_same (sym new-block ∙ (ap now (sym same) ∙ f)) in
            ap (λ (l : Block). length l.entries) (sym one) ∙ (ap (λ (l : List (Option ℕ)). length l) k_is
            ∙ (length-set (replicate 8 None) (p % 8) (Some link) ∙ length-replicate 8 (let o : Option ℕ = None in o)))
        | inr apart ↦ h.size y j (sym (old-block y apart) ∙ f)
      ];
    }

-- a block keeps its size
pub size-set : (k : Block) (i : ℕ) (v : Option ℕ) → length k.entries ≡ 8 → length (with_entry k i v).entries ≡ 8
size-set k i v size = length-set k.entries i v ∙ size

-- a place that was given a number has it
pub entry-given : (k : Block) (i : ℕ) (link : ℕ) → length k.entries ≡ 8 → i < 8 → IsSome (block_entry (with_entry k i (Some link)) i)
entry-given k i link size low = ap {B = Bool} is_some (get_or-set_same k.entries i (Some link) None (omega (arith, size, low)))

-- where no page has a number, there is no row
pub rows-bare : (rows : ℕ → ℕ → Option ℕ) (blocks : ℕ → Option Block) → AreBlocks rows blocks → ((a p : ℕ) → links_in rows blocks a p ≡ None) → (a n : ℕ) → rows a n ≡ None
rows-bare rows blocks h none a n = go (rows a n) refl
  where
    go : (o : Option ℕ) → rows a n ≡ o → o ≡ None
    go None e = refl
    go (Some x) e =
        let k = block-there rows blocks h a n x e in
        let used = h.used a n x k.0 e k.1 in
        absurd (elim (cases_lt used.0 8) [
          | inl low ↦
              let page : (n * 8 + used.0) / 8 ≡ n = omega (arith, low) in
              let place : (n * 8 + used.0) % 8 ≡ used.0 = omega (arith, low) in
              missing (some_is (block_entry k.0 used.0) used.1).1
              (sym (entry-by rows blocks h a (n * 8 + used.0) x k.0 (ap (rows a) page ∙ e) k.1 ∙ ap (block_entry k.0) place) ∙ none a (n * 8 + used.0))
          | inr high ↦ missing (some_is (block_entry k.0 used.0) used.1).1 (entry-past k.0 used.0 (h.size x k.0 k.1) high)
        ])
