-- Ranges of a list: joined, kept by a write behind them, moved to the front.
use Rattle.std.proofs.Common.{◌≡◌, ℕ, ◌+◌, ◌-◌, ◌≤◌, ◌<◌, List, ◌∷◌, ◌++◌, length, take, drop, get_or, sym, ap, ◌∙◌, arith, length-take, length-drop, take-append-drop}
use Rattle.std.specs.List.{slice_range}
use Rattle.std.proofs.Math.Seq.{take-add}
use Rattle.std.proofs.lemmas.Slice.{between_is}
use Rattle.std.proofs.lemmas.List.{drop-drop, drop-take, drop_more, take-take, take_at, take-append-le}
use lib.Seq.{paste}
use Rattle.script_io.specs.declared.line_buffer.TheConstants.{LINE_FEED}

-- two ranges that meet are one
pub ranges_join : (xs : List ℕ) (i j k : ℕ) → i ≤ j → j ≤ k → slice_range xs i k ≡ slice_range xs i j ++ slice_range
    xs j k
ranges_join xs i j k ij jk =
    let widths : k - i ≡ (j - i) + (k - j) = omega arith in
    let at : i + (j - i) ≡ j = omega arith in
    ap (λ (n : ℕ). take n (drop i xs)) widths ∙ take-add (j - i) (k - j) (drop i xs)
    ∙ ap (λ (ys : List ℕ). take (j - i) (drop i xs) ++ take (k - j) ys)
    (drop-drop (j - i) i xs ∙ ap (λ (n : ℕ). drop n xs) at)

-- a range lies before a place up to which two lists are the same
pub range_before : (xs ys : List ℕ) (from i j : ℕ) → take from ys ≡ take from xs → j ≤ from
    → slice_range ys i j ≡ slice_range xs i j
range_before xs ys from i j same le =
    between_is ys i j ∙ ap (drop i) (sym (take-take j from ys le) ∙ ap (take j) same ∙ take-take j from xs le)
    ∙ sym (between_is xs i j)

-- a range that ends behind that place
pub range_behind : (xs ys : List ℕ) (from i n : ℕ) → take from ys ≡ take from xs → i ≤ from
    → slice_range ys i (from + n) ≡ slice_range xs i from ++ take n (drop from ys)
range_behind xs ys from i n same le =
    let width : (from + n) - from ≡ n = omega arith in
    let le' : from ≤ from + n = omega arith in
    let within : from ≤ from = omega arith in
    ranges_join ys i from (from + n) le le'
    ∙ ap (λ (zs : List ℕ). zs ++ slice_range ys from (from + n)) (range_before xs ys from i from same within)
    ∙ ap (λ (m : ℕ). slice_range xs i from ++ take m (drop from ys)) width

-- a range of bytes that were moved to the front
pub range_moved : (xs : List ℕ) (start end i j : ℕ) → start ≤ end → end ≤ length xs → i ≤ j → j ≤ end - start
    → slice_range (paste xs 0 (drop start xs) (end - start)) i j ≡ slice_range xs (start + i) (start + j)
range_moved xs start end i j within inside ordered below =
    let moved : List ℕ = slice_range xs start end in
    let rest : List ℕ = drop (0 + (end - start)) xs in
    let fits : j ≤ length moved = simp (length-take, length-drop) (omega arith) in
    let width : j - i ≡ (start + j) - (start + i) = omega arith in
    between_is (moved ++ rest) i j
    ∙ ap (drop i) (take-append-le j moved rest fits ∙ take-take j (end - start) (drop start xs) below)
    ∙ sym (between_is (drop start xs) i j)
    ∙ ap (take (j - i)) (drop-drop i start xs)
    ∙ ap (λ (n : ℕ). take n (drop (start + i) xs)) width

-- a line feed stands at place n of a range
pub range_parts : (xs : List ℕ) (start end n : ℕ) → start + n < end → end ≤ length xs
    → get_or (slice_range xs start end) n 0 ≡ LINE_FEED
    → slice_range xs start end ≡ take n (slice_range xs start end) ++ LINE_FEED ∷ slice_range xs (start + n + 1) end
range_parts xs start end n below within is =
    let range : List ℕ = slice_range xs start end in
    let inside : n < length range = simp (length-take, length-drop) (omega arith) in
    let width : end - start ≡ (n + 1) + (end - (start + n + 1)) = omega arith in
    let place : start + (n + 1) ≡ start + n + 1 = omega arith in
    let behind : drop (n + 1) range ≡ slice_range xs (start + n + 1) end =
    ap (λ (k : ℕ). drop (n + 1) (take k (drop start xs))) width
    ∙ drop-take (n + 1) (end - (start + n + 1)) (drop start xs)
    ∙ ap (take (end - (start + n + 1))) (drop-drop (n + 1) start xs ∙ ap (λ (k : ℕ). drop k xs) place) in
    sym (take-append-drop n range)
    ∙ ap (λ (ys : List ℕ). take n range ++ ys)
    (drop_more range n 0 inside ∙ ap (λ (b : ℕ). b ∷ drop (n + 1) range) is
    ∙ ap (λ (ys : List ℕ). LINE_FEED ∷ ys) behind)

-- the front of a range is a range
pub take-range : (xs : List ℕ) (start end n : ℕ) → start + n ≤ end
    → take n (slice_range xs start end) ≡ slice_range xs start (start + n)
take-range xs start end n below =
    let fits : n ≤ end - start = omega arith in
    let width : n ≡ (start + n) - start = omega arith in
    take-take n (end - start) (drop start xs) fits ∙ ap (λ (k : ℕ). take k (drop start xs)) width

-- a range up to a place inside the next range
pub range_up_to : (xs : List ℕ) (start mid end n : ℕ) → start ≤ mid → mid + n ≤ end
    → slice_range xs start (mid + n) ≡ slice_range xs start mid ++ take n (slice_range xs mid end)
range_up_to xs start mid end n ordered below =
    let behind : mid ≤ mid + n = omega arith in
    ranges_join xs start mid (mid + n) ordered behind ∙ ap (λ (ys : List ℕ). slice_range xs start mid ++ ys)
    (sym (take-range xs mid end n below))

-- what a vector holds after a write to the whole of it
pub written_back : (ys zs : List ℕ) (n : ℕ) → length ys ≡ n → take n (ys ++ drop (length ys) zs) ≡ ys
written_back ys zs n size = take_at ys (drop (length ys) zs) n size
