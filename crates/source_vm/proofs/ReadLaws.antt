-- Laws of reading a range of text, page by page.
use Rattle.std.proofs.Common.{◌≡◌, ℕ, ◌+◌, ◌-◌, ◌*◌, ◌/◌, ◌%◌, ◌<◌, ◌≤◌, min, slice_index, List, [], ◌++◌, length, map, take, drop, ap, sym, ◌∙◌, refl, arith}
use Rattle.std.specs.Prelude.{slice_range}
use Rattle.std.specs.List.{range_with_len}
use Rattle.std.proofs.lemmas.Grind.{same_number_lists}
use Rattle.std.proofs.lemmas.List.{get_or-drop, get_or-take, length-drop, length-take, map-append, take_all}
use Rattle.std.proofs.lemmas.List.FromFn.{length-map-range_with_len, get_or-map-range_with_len}
use Rattle.std.proofs.lemmas.Slice.{take-put_mid}
use borrow.Rule.Slice.PartMut.{put_mid}
use Rattle.vm_base.specs.declared.limits.TheConstants.{PAGE}
use Rattle.vm_model.specs.Contents.Writing.{part_at}
use Rattle.vmo_ops.proofs.ModelLaws.{range_with_len-append}
use Rattle.source_model.specs.State.{SourceState, text_in}

-- texts that are the same
pub text_in-same : (s t : SourceState) (v offset n : ℕ) → ((w q : ℕ) → t.text w q ≡ s.text w q) → text_in t v offset n ≡ text_in s v offset n
unfolding text_in
text_in-same s t v offset n same = λ i. map (λ k. slice_index (same v (k / PAGE) i) (k % PAGE)) (range_with_len offset n)

-- two ranges, one behind the other
text_in-append : (s : SourceState) (v offset n m : ℕ) → text_in s v offset (n + m) ≡ text_in s v offset n ++ text_in s v (offset + n) m
unfolding text_in
text_in-append = grind (arith, range_with_len-append, map-append)

-- a range inside one page
text_in-page : (s : SourceState) (v offset n : ℕ) → length (s.text v (offset / PAGE)) ≡ PAGE → offset % PAGE + n ≤ PAGE
    → text_in s v offset n ≡ take n (drop (offset % PAGE) (s.text v (offset / PAGE)))
unfolding text_in
text_in-page = grind (arith, same_number_lists, length-map-range_with_len, length-take, length-drop, get_or-map-range_with_len, get_or-take, get_or-drop)

-- what was read so far, and more of the page where it stands
text_in-more : (s : SourceState) (v offset done n : ℕ) → ((p : ℕ) → length (s.text v p) ≡ PAGE) → (offset + done) % PAGE + n ≤ PAGE
    → text_in s v offset (done + n) ≡ text_in s v offset done ++ take n (drop ((offset + done) % PAGE) (s.text v ((offset + done) / PAGE)))
text_in-more s v offset done n whole h =
    text_in-append s v offset done n
    ∙ ap (λ (xs : List ℕ). text_in s v offset done ++ xs) (text_in-page s v (offset + done) n (whole ((offset + done) / PAGE)) h)

text_in-nil : (s : SourceState) (v offset : ℕ) → text_in s v offset 0 ≡ []
unfolding text_in
text_in-nil s v offset = refl

-- the part of a range that falls into page p, so many bytes from a place in the range on
text_in-part : (s : SourceState) (v offset len p from count at : ℕ) → from ≡ PAGE * p - offset → ((q : ℕ) → length (s.text v q) ≡ PAGE) → at ≡ part_at offset p → at + count ≤ PAGE
    → offset / PAGE ≤ p → p * PAGE < offset + len → text_in s v offset (from + count) ≡ text_in s v offset from ++ take count (drop at (s.text v p))
unfolding part_at
text_in-part s v offset len p from count at start whole place fits low high =
    let here : (offset + from) % PAGE ≡ at = omega (arith, start, place, low) in
    let page : (offset + from) / PAGE ≡ p = omega (arith, start, low) in
    text_in-more s v offset from count whole (omega (arith, here, fits))
    ∙ (ap (λ (n : ℕ). text_in s v offset from ++ take count (drop n (s.text v ((offset + from) / PAGE)))) here
    ∙ ap (λ (q : ℕ). text_in s v offset from ++ take count (drop at (s.text v q))) page)

-- how many bytes of a range lie before page p
abbrev before : ℕ → ℕ → ℕ → ℕ
before offset len p = min (PAGE * p - offset) len

-- of the bytes of a range, in their room, those before page p are read
pub record IsReadTo (s : SourceState) (v offset len p : ℕ) (out : List ℕ) : Type 0 where
  pub bytes : take (before offset len p) out ≡ text_in s v offset (before offset len p)

-- nothing lies before the first page
pub read_start : (s : SourceState) (v offset first : ℕ) (out : List ℕ) → first ≡ offset / PAGE → IsReadTo s v offset (length out) first out
read_start = grind (arith, text_in-nil)

slice_length : (out : List ℕ) (from count : ℕ) → from + count ≤ length out → length (slice_range out from (from + count)) ≡ count
slice_length = grind (arith, length-take, length-drop)

-- the part of the range that falls into page p is read to its place
pub read_step : {s : SourceState} {v offset len p at : ℕ} {out : List ℕ} (from count : ℕ) (new : List ℕ) → ((q : ℕ) → length (s.text v q) ≡ PAGE)
    → offset / PAGE ≤ p → p * PAGE < offset + len → at ≡ part_at offset p → from ≡ PAGE * p - offset
    → from + count ≡ before offset len (p + 1) → at + count ≤ PAGE → length out ≡ len
    → length new ≡ length (slice_range out from (from + count))
    → new ≡ take (length (slice_range out from (from + count))) (drop at (s.text v p)) → IsReadTo s v offset len p out
    → IsReadTo s v offset len (p + 1) (put_mid from ((from + count) - from) out new)
read_step {s} {v} {offset} {len} {p} {at} {out} from count new whole low high place start upto fits size new_size is to =
    let slice : length (slice_range out from (from + count)) ≡ count = slice_length out from count (omega (arith, upto, size)) in
    let read : new ≡ take count (drop at (s.text v p)) = is ∙ ap (λ (n : ℕ). take n (drop at (s.text v p))) slice in
    let first : from ≡ before offset len p = omega (arith, start, upto) in
    record {
      bytes = take-put_mid from ((from + count) - from) out new (before offset len (p + 1)) (omega (arith, upto, new_size, slice)) (omega (arith, upto, size))
          ∙ (ap (λ (n : ℕ). take n out ++ new) first
          ∙ (ap (λ (xs : List ℕ). xs ++ new) to.bytes
          ∙ (ap (λ (n : ℕ). text_in s v offset n ++ new) (sym first)
          ∙ (ap (λ (xs : List ℕ). text_in s v offset from ++ xs) read
          ∙ (sym (text_in-part s v offset len p from count at start whole place fits low high) ∙ ap (text_in s v offset) upto)))));
    }

-- all is read
pub read_end : (s : SourceState) (v offset len p : ℕ) (out : List ℕ) → length out ≡ len → len ≤ PAGE * p - offset → IsReadTo s v offset len p out → out ≡ text_in s v offset len
read_end s v offset len p out size h to =
    let all : before offset len p ≡ len = omega (arith, h) in
    sym (take_all (before offset len p) out (omega (arith, all, size))) ∙ (to.bytes ∙ ap (text_in s v offset) all)
