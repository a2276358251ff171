-- How many rows have a frame: as many as frames are taken.
use Rattle.cow_forest.proofs.Words.{◌≡◌, ℕ, ◌+◌, ◌<◌, ◌/◌, ◌%◌, ◌^◌, true, false, cond, List, [], ◌∷◌, length, Option, None, Some, IsSome}
use Rattle.cow_forest.proofs.Words.{refl, sym, ap, subst, ◌∙◌, inl, inr, arith, eqb, filter, is_some, Contains, AllByRecursion, IsDistinct}
use Rattle.cow_forest.proofs.Words.{filter_map, cons_option, option_map, cases_Bool, cases_lt, cond-true, cond-false, ne_eqb}
use Rattle.cow_forest.proofs.Words.{IsDistinct-cons, Rows, row_at, RisesWithin, IsRising, pair_rank, value-seen, value-found, value-past}
use Rattle.cow_forest.proofs.Words.{some_same, eqb_same, eqb_apart, taken_frames, taken_count, is_taken, taken_count-is, Row, Slot}
use Rattle.cow_forest.proofs.Words.{row_functions, slot_of, slots_of, frame_in, IsExact, all_in_sight, Forest, tree, row_pairs}
use Rattle.cow_forest.proofs.Words.{Contains-cons_cases}
use Rattle.balanced_tree.proofs.ListLaws.{row_at-behind}
use Rattle.cow_split.proofs.SearchLaws.{contains-none, contains-first, contains-later}
use Rattle.cow_forest.specs.Counting.{frame_row_count}
use Rattle.cow_forest.proofs.CountLaws.{count_below_list}

abbrev row_frame : Row → Option ℕ
row_frame row = frame_in row.slot

-- the frames of the rows, one after another
abbrev frames_of : List Row → List ℕ
frames_of rows = filter_map row_frame rows

-- as many as rows have one
frames-counted : (rows : List Row) → length (filter (λ (row : Row). is_some (frame_in row.slot)) rows) ≡ length (frames_of rows)
frames-counted [] = refl
frames-counted (x ∷ rows) = with_frame (row_frame x) (frames-counted rows)
  where
    with_frame : (o : Option ℕ) → length (filter (λ (row : Row). is_some (frame_in row.slot)) rows) ≡ length (frames_of rows) → length (cond (is_some o) (x ∷ filter (λ (row : Row). is_some (frame_in row.slot)) rows) (filter (λ (row : Row). is_some (frame_in row.slot)) rows))
        ≡ length (cons_option o (frames_of rows))
    with_frame None rest = rest
    with_frame (Some t) rest = omega arith

-- a row of the list has this frame
record StandsIn (rows : List Row) (t : ℕ) : Type 0 where
  rank : ℕ
  row : Row
  at : row_at row_functions rank rows ≡ Some row
  frame : row_frame row ≡ Some t

-- a row behind the first has a higher rank, and is found in the whole list too
behind : (low high : ℕ) (x : Row) (rows : List Row) → RisesWithin row_functions low high (x ∷ rows) → (m : ℕ) (row : Row) → row_at row_functions m rows ≡ Some row →
    (row_functions.rank x < m) × (row_at row_functions m (x ∷ rows) ≡ Some row)
behind low high x rows rises m row at =
    let higher = row_at-behind row_functions m low high row x rows rises at in
    (higher, cond-false _ _ _ (ne_eqb (row_functions.rank x) m (λ same. absurd (omega arith))) ∙ at)

first-at : (x : Row) (rows : List Row) → row_at row_functions (row_functions.rank x) (x ∷ rows) ≡ Some x
first-at x rows = cond-true _ _ _ (eqb_same (row_functions.rank x))

-- each frame of the list is that of a row
frame-stands : (low high : ℕ) (rows : List Row) → RisesWithin row_functions low high rows → (t : ℕ) → Contains (frames_of rows) t → StandsIn rows t
frame-stands low high [] rises t inside = absurd (contains-none t inside)
frame-stands low high (x ∷ rows) rises t inside =
    with_frame (λ in_rest. later (frame-stands (row_functions.rank x + 1) high rows rises.1 t in_rest)) (row_frame x) refl inside
  where
    later : StandsIn rows t → StandsIn (x ∷ rows) t
    later it = record { rank = it.rank; row = it.row; at = (behind low high x rows rises it.rank it.row it.at).1; frame = it.frame }

    with_frame : (Contains (frames_of rows) t → StandsIn (x ∷ rows) t) → (o : Option ℕ) → row_frame x ≡ o →
        Contains (cons_option o (frames_of rows)) t → StandsIn (x ∷ rows) t
    with_frame later None is inside = later inside
    with_frame later (Some u) is inside = elim (Contains-cons_cases u t (frames_of rows) inside) [
      | inl here ↦ record { rank = row_functions.rank x; row = x; at = first-at x rows; frame = is ∙ ap (λ n. Some n) here }
      | inr rest ↦ later rest
    ]

-- and the frame of each row is in the list
stands-frame : (rows : List Row) (m : ℕ) (row : Row) (t : ℕ) → row_at row_functions m rows ≡ Some row → row_frame row ≡ Some t → Contains (frames_of rows) t
stands-frame [] m row t at frame = absurd (cc)
stands-frame (x ∷ rows) m row t at frame = elim (cases_Bool (eqb (row_functions.rank x) m)) [
  | inl here ↦
      let same : x ≡ row = some_same (sym (cond-true _ _ _ here) ∙ at) in
      subst (λ o. Contains (cons_option o (frames_of rows)) t) (sym (ap row_frame same ∙ frame)) (contains-first t (frames_of rows))
  | inr there ↦ with_frame (row_frame x) (stands-frame rows m row t (sym (cond-false _ _ _ there) ∙ at) frame)
]
  where
    with_frame : (o : Option ℕ) → Contains (frames_of rows) t → Contains (cons_option o (frames_of rows)) t
    with_frame None inside = inside
    with_frame (Some u) inside = contains-later u t (frames_of rows) inside

-- no two rows have one frame
abbrev StandsOnce : List Row → Type 0
StandsOnce rows = (m r : ℕ) (row other : Row) (t : ℕ) → row_at row_functions m rows ≡ Some row → row_at row_functions r rows ≡ Some other →
    row_frame row ≡ Some t → row_frame other ≡ Some t → m ≡ r

each_in : (P : ℕ → Type 0) (xs : List ℕ) → ((k : ℕ) → Contains xs k → P k) → AllByRecursion P xs
each_in P [] all = tt
each_in P (x ∷ xs) all = (all x (contains-first x xs), each_in P xs (λ k inside. all k (contains-later x k xs inside)))

-- so the frames differ
frames-distinct : (low high : ℕ) (rows : List Row) → RisesWithin row_functions low high rows → StandsOnce rows → IsDistinct eqb (frames_of rows)
unfolding IsDistinct
frames-distinct low high [] rises once = tt
frames-distinct low high (x ∷ rows) rises once =
    with_frame (frames-distinct (row_functions.rank x + 1) high rows rises.1 (λ m r row other t at also frame same.
    once m r row other t (behind low high x rows rises m row at).1 (behind low high x rows rises r other also).1 frame same)) (row_frame x) refl
  where
    with_frame : IsDistinct eqb (frames_of rows) → (o : Option ℕ) → row_frame x ≡ o → IsDistinct eqb (cons_option o (frames_of rows))
    with_frame rest None is = rest
    with_frame rest (Some u) is = IsDistinct-cons eqb u (frames_of rows) (each_in (λ y. eqb u y ≡ false) (frames_of rows) (λ k inside.
        let it = frame-stands (row_functions.rank x + 1) high rows rises.1 k inside in
        let later = behind low high x rows rises it.rank it.row it.at in
        eqb_apart u k (λ same.
        let place = once (row_functions.rank x) it.rank x it.row u (first-at x rows) later.1 is (it.frame ∙ ap (λ n. Some n) (sym same)) in
        absurd (omega (arith, later.0))))) rest

-- ---- the rows of a table by their places

-- the row of this rank is that of a page of a list
abbrev list_at : ℕ → ℕ
list_at m = m / 2 ^ 64

abbrev page_at : ℕ → ℕ
page_at m = m % 2 ^ 64

rank-parts : (m : ℕ) → (page_at m < 2 ^ 64) × (m ≡ pair_rank (list_at m) (page_at m))
rank-parts m = (omega arith, omega arith)

row-slot : (t : Rows Row) (m : ℕ) (row : Row) → row_at row_functions m t.rows ≡ Some row → slots_of t (list_at m) (page_at m) ≡ Some row.slot
row-slot t m row at =
    let parts = rank-parts m in value-found row_pairs t.rows t.rows refl (list_at m) (page_at m) m parts.0 parts.1 row at

-- a slot is that of a row
slot-row : (t : Rows Row) (l q : ℕ) (slot : Slot) → slots_of t l q ≡ Some slot → (m : ℕ) × (row : Row) × (row_at row_functions m t.rows ≡ Some row) × (row.slot ≡ slot)
slot-row t l q slot e = elim (cases_lt q (2 ^ 64)) [
  | inl few ↦ found (row_at row_functions (pair_rank l q) t.rows) refl (sym (value-seen row_pairs t.rows t.rows refl l q (pair_rank l q) few refl) ∙ e)
  | inr past ↦ absurd (let none = value-past row_pairs t.rows l q past in cc)
]
  where
    found : (o : Option Row) → row_at row_functions (pair_rank l q) t.rows ≡ o → option_map slot_of o ≡ Some slot →
        (m : ℕ) × (row : Row) × (row_at row_functions m t.rows ≡ Some row) × (row.slot ≡ slot)
    found None is e = absurd cc
    found (Some row) is e = (pair_rank l q, row, is, some_same e)

-- in an exact tree as many rows have a frame as frames are taken
pub frame-rows-taken : (f : Forest) → IsExact (tree f) all_in_sight (is_taken f.pool) → IsRising row_functions f.rows.rows →
    ((t : ℕ) → IsSome (taken_frames f.pool t) → t < f.pool.frames) → frame_row_count f.rows ≡ taken_count f.pool
unfolding frame_row_count
frame-rows-taken f exact rises below =
    frames-counted f.rows.rows
    ∙ sym (taken_count-is f.pool ∙ count_below_list f.pool.frames (frames_of f.rows.rows) (is_taken f.pool) (frames-distinct 0 (2 ^ 128) f.rows.rows rises once) inside all)
  where
    once : StandsOnce f.rows.rows
    once m r row other t at also frame same =
        let place = exact.once (list_at m) (page_at m) (list_at r) (page_at r) t row.slot other.slot (row-slot f.rows m row at) (row-slot f.rows r other also) frame same in
        omega (arith, rank-parts m, rank-parts r)

    inside : (t : ℕ) → Contains (frames_of f.rows.rows) t → (t < f.pool.frames) × (is_taken f.pool t ≡ true)
    inside t has =
        let it = frame-stands 0 (2 ^ 128) f.rows.rows rises t has in
        let taken = exact.used (list_at it.rank) (page_at it.rank) it.row.slot t (row-slot f.rows it.rank it.row it.at) it.frame in
        (below t taken, taken)

    all : (t : ℕ) → t < f.pool.frames → is_taken f.pool t ≡ true → Contains (frames_of f.rows.rows) t
    all t less taken =
        let it = exact.stands t taken in
        let found = slot-row f.rows it.l it.q it.row it.at in
        stands-frame f.rows.rows found.0 found.1 t found.2 (ap frame_in found.3 ∙ it.frame)
