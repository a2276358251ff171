-- What is taken in the regions: pieces and places are extents of one list, apart from one another.
use Rattle.std.proofs.Common.{◌≡◌, ℕ, ◌+◌, ◌<◌, ◌≤◌, Option, None, Some, IsSome, is_some, Bool, true, false, inl, inr, refl, sym, ap, ◌∙◌, arith}
use Rattle.std.proofs.lemmas.Bool.{cases_lt, cases_order}
use Rattle.vm_base.specs.declared.names.RegionName.{RegionName}
use Rattle.vm_base.proofs.EntryLaws.{some_is, some_same}
use Rattle.balanced_tree.specs.Pairs.{with_pair, IsNext}
use Rattle.pair_map.specs.declared.stretch_row.Extent.{Extent}
use Rattle.pair_map.specs.Maps.{Covers, IsOpen, StandApart}
use Rattle.mapping_set.specs.inside.Taken.{piece_by, piece_at, pieces_in, IsMeeting}
use Rattle.mapping_set.specs.Tables.{place_by, place_at, places_in}
use Rattle.mapping_set.proofs.TableLaws.{with_pair-cases, with_pair-same}

-- ---- one number of a list gets an extent, or loses it

module _ {A B : Type 0} (f : Option A → Option B) (m : ℕ → ℕ → Option A) (a b : ℕ) (o : Option A) where
  abbrev each : ℕ → ℕ → Option B
  each k q = f (m k q)

  with_pair-each : (k q : ℕ) → f (with_pair m a b o k q) ≡ with_pair each a b (f o) k q
  with_pair-each k q = elim (with_pair-cases m a b o k q) [
    | inl here ↦ ap f here.2 ∙ sym (with_pair-same each a b (f o) k q here.0 here.1)
    | inr old ↦ elim (with_pair-cases each a b (f o) k q) [
      | inl here ↦ absurd (old.0 here.0 here.1)
      | inr other ↦ ap f old.1 ∙ sym other.1
    ]
  ]

  pub with_pair-map : (λ k q. f (with_pair m a b o k q)) ≡ with_pair each a b (f o)
  with_pair-map = λ i k q. with_pair-each k q i

-- a map with the value that it has
pub with_pair-kept : {A : Type 0} (m : ℕ → ℕ → Option A) (a b : ℕ) (o : Option A) → m a b ≡ o → with_pair m a b o ≡ m
with_pair-kept {A} m a b o is = λ i k q. at k q i
  where
    at : (k q : ℕ) → with_pair m a b o k q ≡ m k q
    at k q = elim (with_pair-cases m a b o k q) [
      | inl here ↦ here.2 ∙ (sym is ∙ (ap (λ n. m n b) (sym here.0) ∙ ap (m k) (sym here.1)))
      | inr old ↦ old.1
    ]

module _ (taken : ℕ → ℕ → Option (Extent (Option RegionName))) (l p : ℕ) (o : Option (Extent (Option RegionName))) where
  pub pieces_in-with : pieces_in (with_pair taken l p o) ≡ with_pair (pieces_in taken) l p (piece_at o)
  unfolding pieces_in
  pieces_in-with = with_pair-map piece_at taken l p o

  pub places_in-with : places_in (with_pair taken l p o) ≡ with_pair (places_in taken) l p (place_at o)
  unfolding places_in
  places_in-with = with_pair-map place_at taken l p o

-- ---- an extent is a piece or a place

piece_by-is : (count : ℕ) (name : Option RegionName) (e : Extent Unit) → piece_by count name ≡ Some e → (name ≡ None) × (count ≡ e.count)
piece_by-is count None e is = (refl, ap (λ (x : Extent Unit). x.count) (some_same is))
piece_by-is count (Some name) e is = absurd cc

place_by-is : (count : ℕ) (name : Option RegionName) (e : Extent RegionName) → place_by count name ≡ Some e → (name ≡ Some e.value) × (count ≡ e.count)
place_by-is count None e is = absurd cc
place_by-is count (Some name) e is = (ap (λ (x : Extent RegionName). Some x.value) (some_same is), ap (λ (x : Extent RegionName). x.count) (some_same is))

piece_at-is : (o : Option (Extent (Option RegionName))) (e : Extent Unit) → piece_at o ≡ Some e
    → (x : Extent (Option RegionName)) × (o ≡ Some x) × (x.value ≡ None) × (x.count ≡ e.count)
piece_at-is None e is = absurd cc
piece_at-is (Some x) e is = let by = piece_by-is x.count x.value e is in (x, refl, by.0, by.1)

place_at-is : (o : Option (Extent (Option RegionName))) (e : Extent RegionName) → place_at o ≡ Some e
    → (x : Extent (Option RegionName)) × (o ≡ Some x) × (x.value ≡ Some e.value) × (x.count ≡ e.count)
place_at-is None e is = absurd cc
place_at-is (Some x) e is = let by = place_by-is x.count x.value e is in (x, refl, by.0, by.1)

module _ (taken : ℕ → ℕ → Option (Extent (Option RegionName))) where
  pub piece-found : (l p : ℕ) (e : Extent Unit) → pieces_in taken l p ≡ Some e
      → (x : Extent (Option RegionName)) × (taken l p ≡ Some x) × (x.value ≡ None) × (x.count ≡ e.count)
  unfolding pieces_in
  piece-found l p e is = piece_at-is (taken l p) e is

  pub place-found : (l p : ℕ) (e : Extent RegionName) → places_in taken l p ≡ Some e
      → (x : Extent (Option RegionName)) × (taken l p ≡ Some x) × (x.value ≡ Some e.value) × (x.count ≡ e.count)
  unfolding places_in
  place-found l p e is = place_at-is (taken l p) e is

  -- what is no piece is a place, and the other way round
  pub none-taken : (l p : ℕ) → taken l p ≡ None → (pieces_in taken l p ≡ None) × (places_in taken l p ≡ None)
  unfolding pieces_in places_in
  none-taken l p is = (ap piece_at is, ap place_at is)

  pub as-piece : (l p : ℕ) (x : Extent (Option RegionName)) → taken l p ≡ Some x → x.value ≡ None → (pieces_in taken l p ≡ Some (record { count = x.count; value = tt })) × (places_in taken l p ≡ None)
  unfolding pieces_in places_in
  as-piece l p x is none = (ap piece_at is ∙ ap (piece_by x.count) none, ap place_at is ∙ ap (place_by x.count) none)

  pub as-place : (l p : ℕ) (x : Extent (Option RegionName)) (name : RegionName) → taken l p ≡ Some x → x.value ≡ Some name
      → (pieces_in taken l p ≡ None) × (places_in taken l p ≡ Some (record { count = x.count; value = name }))
  unfolding pieces_in places_in
  as-place l p x name is some = (ap piece_at is ∙ ap (piece_by x.count) some, ap place_at is ∙ ap (place_by x.count) some)

  -- a range is in no extent where it is in no piece and in no place
  module _ (l first count : ℕ) where
    pub open-both : IsOpen (pieces_in taken l) first count → IsOpen (places_in taken l) first count → IsOpen (taken l) first count
    open-both pieces places = record { free = λ q p x low high covers. by q p x low high covers x.value refl } where
      by : (q p : ℕ) (x : Extent (Option RegionName)) → first ≤ q → q < first + count → Covers (taken l) q p x → (o : Option RegionName) → x.value ≡ o → ⊥
      by q p x low high covers None none =
          pieces.free q p (record { count = x.count; value = tt }) low high (record { is = (as-piece l p x covers.is none).0; from = covers.from; below = covers.below })
      by q p x low high covers (Some name) some =
          places.free q p (record { count = x.count; value = name }) low high (record { is = (as-place l p x name covers.is some).1; from = covers.from; below = covers.below })

    pub open-pieces : IsOpen (taken l) first count → IsOpen (pieces_in taken l) first count
    open-pieces vacant = record {
      free = λ q p e low high covers.
          let found = piece-found l p e covers.is in
          let below = covers.below in
          let count_is = found.3 in
          vacant.free q p found.0 low high (record { is = found.1; from = covers.from; below = omega arith });
    }

    pub open-places : IsOpen (taken l) first count → IsOpen (places_in taken l) first count
    open-places vacant = record {
      free = λ q p e low high covers.
          let found = place-found l p e covers.is in
          let below = covers.below in
          let count_is = found.3 in
          vacant.free q p found.0 low high (record { is = found.1; from = covers.from; below = omega arith });
    }

  module _ (apart : StandApart taken) where
    -- nothing begins at the first page of a range that is in no extent
    pub none-first : (l first count : ℕ) → 1 ≤ count → IsOpen (taken l) first count → taken l first ≡ None
    none-first l first count some vacant = by (taken l first) refl where
      by : (o : Option (Extent (Option RegionName))) → taken l first ≡ o → o ≡ None
      by None is = refl
      by (Some x) is = let more = apart.some l first x is in absurd (vacant.free first first x (omega arith) (omega arith) (record { is = is; from = omega arith; below = omega arith }))

    -- no place has a page of a piece
    piece-apart : (l first : ℕ) (e : Extent Unit) → pieces_in taken l first ≡ Some e → (count : ℕ) → e.count ≡ count → IsOpen (places_in taken l) first count
    piece-apart l first e is count count_is = record {
      free = λ q p place low high covers.
          let piece = piece-found l first e is in
          let found = place-found l p place covers.is in
          let from = covers.from in
          let below = covers.below in
          let long = piece.3 in
          let wide = found.3 in
          elim (cases_order p first) [
            | inl same ↦
                let again : piece.0 ≡ found.0 = some_same (sym piece.1 ∙ (ap (taken l) (sym same) ∙ found.1)) in
                let none : Some place.value ≡ None = sym found.2 ∙ (ap (λ (x : Extent (Option RegionName)). x.value) (sym again) ∙ piece.2) in
                absurd cc
            | inr (inl less) ↦ absurd (let behind = apart.apart l p first found.0 piece.0 found.1 piece.1 less in omega arith)
            | inr (inr more) ↦ absurd (let before = apart.apart l first p piece.0 found.0 piece.1 found.1 more in omega arith)
          ];
    }

-- ---- an extent that has a page of a range

module _ (extents : ℕ → Option (Extent (Option RegionName))) (first count : ℕ) (some : 1 ≤ count) where
  pub meeting-at : (start : ℕ) (x : Extent (Option RegionName)) → Covers extents first start x → IsMeeting extents first count start
  meeting-at start x covers = record { extent = x; is = covers.is; page = first; low = omega arith; high = omega arith; from = covers.from; below = covers.below }

-- a range of which an extent has a page is in an extent
pub meeting-not_open : (extents : ℕ → Option (Extent (Option RegionName))) (first count start : ℕ) → IsOpen extents first count → IsMeeting extents first count start → ⊥
meeting-not_open extents first count start vacant meets = vacant.free meets.page start meets.extent meets.low meets.high (record { is = meets.is; from = meets.from; below = meets.below })

-- an extent that has a page of a range without pieces is a place
pub meeting-place : (taken : ℕ → ℕ → Option (Extent (Option RegionName))) (l first count start : ℕ) → IsOpen (pieces_in taken l) first count
    → IsMeeting (taken l) first count start → pieces_in taken l start ≡ None
meeting-place taken l first count start vacant meets = by meets.extent.value refl where
  by : (o : Option RegionName) → meets.extent.value ≡ o → pieces_in taken l start ≡ None
  by None none =
      absurd (vacant.free meets.page start (record { count = meets.extent.count; value = tt }) meets.low meets.high
      (record { is = (as-piece taken l start meets.extent meets.is none).0; from = meets.from; below = meets.below }))
  by (Some name) some = (as-place taken l start meets.extent name meets.is some).0

-- ---- what is taken changes

module _ (taken new : ℕ → ℕ → Option (Extent (Option RegionName))) (l first : ℕ) where
  -- a piece comes, or a place does
  module _ (apart : StandApart taken) (count : ℕ) (some : 1 ≤ count) (vacant : IsOpen (taken l) first count) where
    nothing : (pieces_in taken l first ≡ None) × (places_in taken l first ≡ None)
    nothing = none-taken taken l first (none-first taken apart l first count some vacant)

    pub piece-more : new ≡ with_pair taken l first (Some (record { count = count; value = None }))
        → (pieces_in new ≡ with_pair (pieces_in taken) l first (Some (record { count = count; value = tt }))) × (places_in new ≡ places_in taken)
    piece-more is = (
      ap pieces_in is ∙ pieces_in-with taken l first _,
      ap places_in is ∙ (places_in-with taken l first _ ∙ with_pair-kept (places_in taken) l first None nothing.1),
    )

    pub place-more : (name : RegionName) → new ≡ with_pair taken l first (Some (record { count = count; value = Some name }))
        → (pieces_in new ≡ pieces_in taken) × (places_in new ≡ with_pair (places_in taken) l first (Some (record { count = count; value = name })))
    place-more name is = (
      ap pieces_in is ∙ (pieces_in-with taken l first _ ∙ with_pair-kept (pieces_in taken) l first None nothing.0),
      ap places_in is ∙ places_in-with taken l first _,
    )

  -- a piece goes
  pub piece-less : (e : Extent Unit) → pieces_in taken l first ≡ Some e → new ≡ with_pair taken l first None
      → (pieces_in new ≡ with_pair (pieces_in taken) l first None) × (places_in new ≡ places_in taken)
  piece-less e there is =
      let found = piece-found taken l first e there in
      let none = (as-piece taken l first found.0 found.1 found.2).1 in (
        ap pieces_in is ∙ pieces_in-with taken l first None,
        ap places_in is ∙ (places_in-with taken l first None ∙ with_pair-kept (places_in taken) l first None none),
      )

  -- what is no piece goes
  pub place-less : pieces_in taken l first ≡ None → new ≡ with_pair taken l first None
      → (pieces_in new ≡ pieces_in taken) × (places_in new ≡ with_pair (places_in taken) l first None)
  place-less none is = (
    ap pieces_in is ∙ (pieces_in-with taken l first None ∙ with_pair-kept (pieces_in taken) l first None none),
    ap places_in is ∙ places_in-with taken l first None,
  )

-- a row of a piece comes, changes or goes, where no place stands
piece-set : (taken : ℕ → ℕ → Option (Extent (Option RegionName))) (l q : ℕ) (o : Option (Extent (Option RegionName))) → place_at o ≡ None → places_in taken l q ≡ None
    → (new : ℕ → ℕ → Option (Extent (Option RegionName))) → new ≡ with_pair taken l q o
    → (pieces_in new ≡ with_pair (pieces_in taken) l q (piece_at o)) × (places_in new ≡ places_in taken)
piece-set taken l q o no_place vacant new is = (
  ap pieces_in is ∙ pieces_in-with taken l q o,
  ap places_in is ∙ (places_in-with taken l q o ∙ (ap (with_pair (places_in taken) l q) no_place ∙ with_pair-kept (places_in taken) l q None vacant)),
)

module _ (taken : ℕ → ℕ → Option (Extent (Option RegionName))) where
  module _ (apart : StandApart taken) (l first : ℕ) (e : Extent Unit) (there : pieces_in taken l first ≡ Some e) where
    -- no place begins on its pages
    no-place : (q : ℕ) → first ≤ q → q < first + e.count → places_in taken l q ≡ None
    no-place q low high = by (places_in taken l q) refl where
      by : (o : Option (Extent RegionName)) → places_in taken l q ≡ o → o ≡ None
      by None is = refl
      by (Some d) is =
          let found = place-found taken l q d is in
          let some = apart.some l q found.0 found.1 in
          let wide = found.3 in
          absurd ((piece-apart taken apart l first e there e.count refl).free q q d low high (record { is = is; from = omega arith; below = omega arith }))

    -- it keeps its first pages alone
    pub piece-shorter : (count : ℕ) (new : ℕ → ℕ → Option (Extent (Option RegionName))) → new ≡ with_pair taken l first (Some (record { count = count; value = None }))
        → 1 ≤ e.count → (pieces_in new ≡ with_pair (pieces_in taken) l first (Some (record { count = count; value = tt }))) × (places_in new ≡ places_in taken)
    piece-shorter count new is some = piece-set taken l first (Some (record { count = count; value = None })) refl (no-place first (omega arith) (omega arith)) new is

    -- it loses pages, and keeps those from one on
    pub piece-split : (o : Option (Extent (Option RegionName))) → place_at o ≡ None → (to count : ℕ) → first ≤ to → to < first + e.count → (new : ℕ → ℕ → Option (Extent (Option RegionName)))
        → new ≡ with_pair (with_pair taken l first o) l to (Some (record { count = count; value = None }))
        → (pieces_in new ≡ with_pair (with_pair (pieces_in taken) l first (piece_at o)) l to (Some (record { count = count; value = tt }))) × (places_in new ≡ places_in taken)
    piece-split o no_place to count low high new is =
        let mid = with_pair taken l first o in
        let one = piece-set taken l first o no_place (no-place first (omega arith) (omega arith)) mid refl in
        let two = piece-set mid l to (Some (record { count = count; value = None })) refl (ap (λ (m : ℕ → ℕ → Option (Extent RegionName)). m l to) one.1 ∙ no-place to low high) new is in (
          two.0 ∙ ap (λ (m : ℕ → ℕ → Option (Extent Unit)). with_pair m l to (Some (record { count = count; value = tt }))) one.0,
          two.1 ∙ one.1,
        )

-- a place is no piece
pub place-not_piece : (taken : ℕ → ℕ → Option (Extent (Option RegionName))) (l first : ℕ) → IsSome (places_in taken l first) → (pieces_in taken l first ≡ None) × IsSome (taken l first)
place-not_piece taken l first some = by (places_in taken l first) refl some where
  by : (o : Option (Extent RegionName)) → places_in taken l first ≡ o → IsSome o → (pieces_in taken l first ≡ None) × IsSome (taken l first)
  by None is h = absurd cc
  by (Some e) is h = let found = place-found taken l first e is in ((as-place taken l first found.0 e.value found.1 found.2).0, ap is_some found.1)

pub piece-there : (taken : ℕ → ℕ → Option (Extent (Option RegionName))) (l first : ℕ) (e : Extent Unit) → pieces_in taken l first ≡ Some e → IsSome (taken l first)
piece-there taken l first e is = ap is_some (piece-found taken l first e is).1

-- ---- the first piece of a list

module _ (taken : ℕ → ℕ → Option (Extent (Option RegionName))) (l from : ℕ) (passed : (p : ℕ) → p < from → pieces_in taken l p ≡ None) where
  -- what is passed where no extent begins from there on
  pub passed-all : IsNext (taken l) from None → (p : ℕ) → pieces_in taken l p ≡ None
  passed-all next p = elim (cases_lt p from) [
    | inl low ↦ passed p low
    | inr high ↦ (none-taken taken l p (next.none refl p high)).0
  ]

  -- what is passed with a place
  pub passed-place : (first : ℕ) (x : Extent (Option RegionName)) → IsNext (taken l) from (Some first) → taken l first ≡ Some x → is_some x.value ≡ true
      → (p : ℕ) → p < first + 1 → pieces_in taken l p ≡ None
  passed-place first x next is place p less =
      let name = some_is x.value place in
      elim (cases_lt p from) [
        | inl low ↦ passed p low
        | inr high ↦ elim (cases_lt p first) [
          | inl before ↦ (none-taken taken l p ((next.least first refl).2 p high before)).0
          | inr behind ↦
              let same : p ≡ first = omega arith in
              ap (pieces_in taken l) same ∙ (as-place taken l first x name.0 is name.1).0
        ]
      ]

-- nothing is taken
pub pieces_in-none : (taken : ℕ → ℕ → Option (Extent (Option RegionName))) → taken ≡ (λ l p. None) → pieces_in taken ≡ (λ l p. None)
unfolding pieces_in
pieces_in-none taken is = ap pieces_in is

pub places_in-none : (taken : ℕ → ℕ → Option (Extent (Option RegionName))) → taken ≡ (λ l p. None) → places_in taken ≡ (λ l p. None)
unfolding places_in
places_in-none taken is = ap places_in is

-- what is found there tells whether it is a place
pub place-test : (taken : ℕ → ℕ → Option (Extent (Option RegionName))) (l first : ℕ) (x : Extent (Option RegionName)) → taken l first ≡ Some x → (b : Bool) → b ≡ is_some x.value
    → (b ≡ true → IsSome (places_in taken l first)) × (b ≡ false → places_in taken l first ≡ None)
place-test taken l first x is b test = by x.value refl where
  by : (o : Option RegionName) → x.value ≡ o → (b ≡ true → IsSome (places_in taken l first)) × (b ≡ false → places_in taken l first ≡ None)
  by None none = (λ on. let off : b ≡ false = test ∙ ap is_some none in absurd cc, λ off. (as-piece taken l first x is none).1)
  by (Some name) some = (λ on. ap is_some (as-place taken l first x name is some).1, λ off. let on : b ≡ true = test ∙ ap is_some some in absurd cc)
