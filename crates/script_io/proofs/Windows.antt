-- What a search, a pull and a move leave in a buffer.
use Rattle.std.proofs.Common.{◌≡◌, ℕ, ◌+◌, ◌-◌, ◌≤◌, ◌<◌, min, List, [], ◌∷◌, ◌++◌, length, take, drop, get_or, Option, Result, Ok, Err, IfOk, sym, ap, ◌∙◌, subst, arith, length-take, length-drop}
use Rattle.std.specs.List.{slice_range}
use Rattle.std.specs.Io.KnownBytes.{Consumes, IsAtEnd, ReadConsumes}
use Rattle.std.proofs.lemmas.List.{drop_at, take-append-le}
use Rattle.std.proofs.lemmas.List.Edits.{between_none}
use lib.Seq.{paste}
use Rattle.script_io.specs.Reader.{HasNoFeed, Window, Grows}
use Rattle.script_io.proofs.Ranges.{ranges_join, range_before, range_behind, range_moved, range_parts, range_up_to, written_back}
use Rattle.script_io.specs.declared.line_buffer.TheConstants.{LINE_FEED}

-- A search of the range from `mid` to `end` found a line feed at its place n: the line, and what is left. `whole` is
-- the
-- bytes as they were lent to the search.
pub found_line : (whole bytes seen fresh : List ℕ) (start mid end n : ℕ) → whole ≡ bytes
    → slice_range bytes start mid ≡ seen
    → slice_range bytes mid end ≡ fresh → start ≤ mid → mid ≤ end → end ≤ length bytes
    → (n < length (slice_range whole mid end)) × HasNoFeed (take n (slice_range whole mid end))
    × (get_or (slice_range whole mid end) n 0 ≡ LINE_FEED)
    → (slice_range bytes (mid + n + 1) (mid + n + 1) ≡ [])
    × (line : List ℕ) × HasNoFeed line × (slice_range bytes start (mid + n) ≡ seen ++ line)
    × (fresh ≡ line ++ LINE_FEED ∷ slice_range bytes (mid + n + 1) end)
found_line whole bytes seen fresh start mid end n lent seen_is fresh_is ordered ordered' within found =
    let range : List ℕ = slice_range bytes mid end in
    let h : (n < length range) × HasNoFeed (take n range) × (get_or range n 0 ≡ LINE_FEED) =
    subst (λ (xs : List ℕ). (n < length (slice_range xs mid end)) × HasNoFeed (take n (slice_range xs mid end))
    × (get_or (slice_range xs mid end) n 0 ≡ LINE_FEED)) lent found in
    let size : length range ≡ min (end - mid) (length bytes - mid) = simp (length-take, length-drop) in
    let below : mid + n < end = omega (arith, size, h.0) in
    let below' : mid + n ≤ end = omega (arith, below) in (
      between_none bytes (mid + n + 1),
      take n range,
      h.1,
      range_up_to bytes start mid end n ordered below' ∙ ap (λ (ys : List ℕ). ys ++ take n range) seen_is,
      sym fresh_is ∙ range_parts bytes mid end n below within h.2,
    )

-- The window that the places in a buffer give.
abbrev pub window_at : List ℕ → ℕ → ℕ → ℕ → ℕ → ℕ → Window
window_at bytes line_start line_end start mid end =
    record {
      line = slice_range bytes line_start line_end;
      seen = slice_range bytes start mid;
      fresh = slice_range
          bytes mid end;
    }

all_seen_at : (bytes whole : List ℕ) (line_start line_end start mid end : ℕ) → start ≤ mid → mid ≤ end → whole ≡ bytes
    → HasNoFeed (slice_range whole mid end)
    → HasNoFeed (slice_range bytes mid end)
    × (window_at bytes line_start line_end start end end
    ≡ record {
      line = slice_range bytes line_start line_end;
      seen = slice_range bytes start mid ++ slice_range bytes
          mid end;
      fresh = [];
    })
all_seen_at bytes whole line_start line_end start mid end first second lent none = (
  subst (λ (xs : List ℕ). HasNoFeed (slice_range xs mid end)) lent none,
  ap (λ (xs : List ℕ). let w : Window = record
      { line = slice_range bytes line_start line_end; seen = xs; fresh = slice_range bytes end end } in w)
      (ranges_join bytes start mid end first second)
      ∙ ap (λ (xs : List ℕ). let w : Window = record {
        line = slice_range bytes line_start line_end;
        seen = slice_range bytes start mid ++ slice_range bytes mid
            end;
        fresh = xs;
      } in w) (between_none bytes end),
)

-- a search found no line feed
pub all_seen : (w : Window) (bytes whole : List ℕ) (line_start line_end start mid end : ℕ) → start ≤ mid → mid ≤ end
    → whole ≡ bytes
    → window_at bytes line_start line_end start mid end ≡ w
    → HasNoFeed (slice_range whole mid end)
    → HasNoFeed w.fresh
    × (window_at bytes line_start line_end start end end ≡ record w { seen = w.seen ++ w.fresh; fresh = [] })
all_seen w bytes whole line_start line_end start mid end first second lent view none =
    subst (λ (w : Window). HasNoFeed w.fresh
    × (window_at bytes line_start line_end start end end ≡ record w { seen = w.seen ++ w.fresh; fresh = [] })) view
    (all_seen_at bytes whole line_start line_end start mid end first second lent none)

range_places : (xs : List ℕ) (i j k l : ℕ) → i ≡ k → j ≡ l → slice_range xs i j ≡ slice_range xs k l
range_places xs i j k l first second = ap (λ (n : ℕ). slice_range xs n j) first ∙ ap (slice_range xs k) second

same_window : (line seen seen' fresh fresh' : List ℕ) → seen ≡ seen' → fresh ≡ fresh'
    → ◌≡◌ {A = Window} (record { line = line; seen = seen; fresh = fresh })
    (record { line = line; seen = seen'; fresh = fresh' })
same_window line seen seen' fresh fresh' first second =
    ap (λ (xs : List ℕ). let w : Window = record { line = line; seen = xs; fresh = fresh } in w) first
    ∙ ap (λ (xs : List ℕ). let w : Window = record { line = line; seen = seen'; fresh = xs } in w) second

-- the bytes that are held were moved to the front
pub all_moved : (w : Window) (bytes new : List ℕ) (line_start line_end start mid end : ℕ) → start ≤ mid → mid ≤ end
    → end ≤ length bytes
    → new ≡ paste bytes 0 (drop start bytes) (end - start)
    → window_at bytes line_start line_end start mid end ≡ w
    → window_at new 0 0 0 (mid - start) (end - start) ≡ record w { line = [] }
all_moved w bytes new line_start line_end start mid end first second within moved view =
    let seen : slice_range new 0 (mid - start) ≡ slice_range bytes start mid =
    ap (λ (xs : List ℕ). slice_range xs 0 (mid - start)) moved
    ∙ range_moved bytes start end 0 (mid - start) (omega arith) within (omega arith) (omega arith)
    ∙ range_places bytes _ _ _ _ (omega arith) (omega arith) in
    let fresh : slice_range new (mid - start) (end - start) ≡ slice_range bytes mid end =
    ap (λ (xs : List ℕ). slice_range xs (mid - start) (end - start)) moved
    ∙ range_moved bytes start end (mid - start) (end - start) (omega arith) within (omega arith) (omega arith)
    ∙ range_places bytes _ _ _ _ (omega arith) (omega arith) in
    same_window [] _ _ _ _ (seen ∙ ap (λ (v : Window). v.seen) view) (fresh ∙ ap (λ (v : Window). v.fresh) view)

-- the bytes that are held stay where a pull writes behind them. `lent` is what was lent to it, and `new` what it left
-- there
pub pulled_before : (bytes lent new : List ℕ) (end i j len : ℕ) → lent ≡ bytes → take end new ≡ take end lent
    → length new ≡ len → j ≤ end
    → slice_range (take len (new ++ drop (length new) bytes)) i j ≡ slice_range bytes i j
pulled_before bytes lent new end i j len same front size below =
    ap (λ (xs : List ℕ). slice_range xs i j) (written_back new bytes len size)
    ∙ range_before lent new end i j front below ∙ ap (λ (xs : List ℕ). slice_range xs i j) same

-- the bytes that a pull gave stand behind those that were fresh
pub pulled_behind : (bytes lent new fresh : List ℕ) (end i n len : ℕ) (before after : Option (List ℕ)) → lent ≡ bytes
    → take end new ≡ take end lent → length new ≡ len
    → i ≤ end → slice_range bytes i end ≡ fresh → end + n ≤ length new → end < length new
    → Consumes before after (take n (drop end new)) × (n ≡ 0 → 0 < length (drop end new) → IsAtEnd after)
    → Grows fresh (slice_range (take len (new ++ drop (length new) bytes)) i (end + n)) before after n
pulled_behind bytes lent new fresh end i n len before after same front size ordered was within room bytes_given =
    record {
      part = take n (drop end new);
      size = simp (length-take, length-drop) (omega arith);
      behind = ap (λ (xs : List ℕ). slice_range xs i (end + n)) (written_back new bytes len size)
          ∙ range_behind lent new end i n front ordered
          ∙ ap (λ (xs : List ℕ). slice_range xs i end ++ take n (drop end new)) same
          ∙ ap (λ (xs : List ℕ). xs ++ take n (drop end new)) was;
      consumes = bytes_given.0;
      at_end = λ none. bytes_given.1 none (simp length-drop (omega arith));
    }

-- what a read into the part of a buffer behind its front did
pub read_behind : {E : Type 0} (before after : Option (List ℕ)) (r : Result ℕ E) (front buf rest : List ℕ) (from : ℕ)
    → length front ≡ from → IfOk r (λ n. n ≤ length buf)
    → 0 < length buf → ReadConsumes before after r buf → ReadConsumes before after r
    (drop from (front ++ (buf ++ rest)))
read_behind before after (Ok n) front buf rest from size within some given = (
  subst (Consumes before after)
      (sym (ap (take n) (drop_at front (buf ++ rest) from size) ∙ take-append-le n buf rest within)) given.0,
  λ none _. given.1 none some,
)
read_behind before after (Err e) front buf rest from size within some given = given

-- how many bytes are held
pub held_size : (w : Window) (bytes : List ℕ) (line_start line_end start mid end : ℕ) → start ≤ mid → mid ≤ end
    → end ≤ length bytes
    → window_at bytes line_start line_end start mid end ≡ w → length w.seen + length w.fresh ≡ end - start
held_size w bytes line_start line_end start mid end first second within view =
    let seen : length (slice_range bytes start mid) ≡ mid - start = simp (length-take, length-drop) (omega arith) in
    let fresh : length (slice_range bytes mid end) ≡ end - mid = simp (length-take, length-drop) (omega arith) in
    let seen' : length (slice_range bytes start mid) ≡ length w.seen = ap (λ (v : Window). length v.seen) view in
    let fresh' : length (slice_range bytes mid end) ≡ length w.fresh = ap (λ (v : Window). length v.fresh) view in
    omega arith
