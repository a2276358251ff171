-- What becomes of the frames that are taken and of their bytes, and of how many are taken.
use Rattle.std.proofs.Common.{◌≡◌, ◌≢◌, ℕ, zero, suc, ◌+◌, ◌-◌, ◌<◌, ◌≤◌, Bool, true, false, cond, ◌==◌, List, [], ◌∷◌, ◌++◌, length, get_or, set, reverse, slice_get, Option, None, Some, IsSome, is_some, refl, sym, ap, subst, ◌∙◌, arith, length-set}
use Rattle.std.specs.Vec.{vec_len, with_item}
use Rattle.vm_base.specs.Pages.{zeros}
use Rattle.std.proofs.lemmas.Bool.Decides.{nat_tests}
use Rattle.std.specs.Prelude.{if◌then◌else◌}
use Rattle.std.proofs.lemmas.Bool.{eqb-true, eqb-false}
use Rattle.std.proofs.lemmas.Grind.{get_or-set_at}
use Rattle.std.proofs.lemmas.List.{get_or-set_other, length_push, append-nil, reverse-append}
use Rattle.std.proofs.lemmas.Option.{slice_get-get_or, slice_get_past, slice_get_within}
use Rattle.vm_base.specs.declared.limits.TheConstants.{FRAMES}
use Rattle.vm_base.specs.declared.names.Tag.{Tag}
use Rattle.vm_base.specs.Entries.{with_key, without_key, passes, entry_count}
use Rattle.vm_base.specs.Search.{count_below}
use Rattle.vm_base.proofs.SearchLaws.{count_below_same, bit-true}
use Rattle.vm_base.proofs.EntryLaws.{some_is, with_key-same, with_key-other, with_key-stays, entry_count-empty, entry_count-change, entry_count-with_key, entry_count-without_key}
use Rattle.frame_pool.specs.declared.frame_pool.FramePool.TheInside.{Inside}
use Rattle.frame_pool.specs.inside.PoolFields.{frames_shown, pool_of, ArePool}
use Rattle.frame_pool.proofs.ShownLaws.{length-shown, shown_blank, shown_plain, frames_shown-marked, frames_shown-unmarked, frames_shown-written}
use Rattle.frame_pool.specs.declared.frame_pool.Backlink.{Backlink}
use Rattle.frame_pool.specs.Pool.{Pool, is_idle, taken_frames, frame_bytes, taken_count, links_of, no_link, Takes, AreDistinctBelow, IsPool}

-- ---- how many frames are taken

-- how many tags below n have bytes
abbrev count_taken : ℕ → (ℕ → Option (List ℕ)) → ℕ
count_taken n m = entry_count n (λ bytes. true) m

-- what has bytes counts
passes-any : (o : Option (List ℕ)) → passes (λ bytes. true) o ≡ is_some o
unfolding passes
passes-any None = refl
passes-any (Some bytes) = refl

bit_taken : (o : Option (List ℕ)) → IsSome o → ◌≡◌ {A = ℕ} (cond (passes (λ bytes. true) o) 1 0) 1
bit_taken o taken = bit-true (passes (λ bytes. true) o) (passes-any o ∙ taken)

pub taken_count-is : (p : Pool) → taken_count p ≡ count_below p.frames (λ t. is_some (taken_frames p t))
unfolding entry_count
taken_count-is p = count_below_same p.frames (λ t. passes (λ bytes. true) (taken_frames p t))
    (λ t. is_some (taken_frames p t)) (λ t h. passes-any (taken_frames p t))

-- a free frame that is taken counts for one more
one_more : (p : Pool) (t : ℕ) (bytes : List ℕ) → t < p.frames → taken_frames p t ≡ None →
    count_taken p.frames (with_key (taken_frames p) t bytes) ≡ taken_count p + 1
one_more p t bytes h free = entry_count-with_key p.frames (λ (b : List ℕ). true) (taken_frames p) t bytes h free

-- ---- tags in the list of idle ones

-- a tag past the bound is not idle
is_idle-past : (n : ℕ) (tags : List Tag) (u : ℕ) → AreDistinctBelow n tags → n ≤ u → is_idle tags u ≡ false
unfolding is_idle AreDistinctBelow
is_idle-past n [] u distinct h = refl
is_idle-past n (s ∷ tags) u distinct h =
    let low : s.0 < n = distinct.0 in
    let rest = is_idle-past n tags u distinct.2 h in
    grind (arith, nat_tests)

-- a greater bound
distinct_more : (n m : ℕ) (tags : List Tag) → n ≤ m → AreDistinctBelow n tags → AreDistinctBelow m tags
unfolding AreDistinctBelow
distinct_more n m [] h distinct = tt
distinct_more n m (s ∷ tags) h distinct =
    let low : s.0 < n = distinct.0 in
    (omega arith, distinct.1, distinct_more n m tags h distinct.2)

-- ---- the buffer

slice_get-push : (xs : List (List ℕ)) (x : List ℕ) (k : ℕ) →
    slice_get (xs ++ x ∷ []) k ≡ cond (k == length xs) (Some x) (slice_get xs k)
slice_get-push [] x zero = refl
slice_get-push [] x (suc k) = grind (arith, nat_tests)
slice_get-push (y ∷ ys) x zero = grind (arith, nat_tests)
slice_get-push (y ∷ ys) x (suc k) = grind (arith, nat_tests, slice_get-push ys x k)

slice_get-set : (xs : List (List ℕ)) (t : ℕ) (x : List ℕ) (k : ℕ) → t < length xs →
    slice_get (set xs t x) k ≡ cond (k == t) (Some x) (slice_get xs k)
slice_get-set [] t x k h = absurd (omega arith)
slice_get-set (y ∷ ys) zero x zero h = refl
slice_get-set (y ∷ ys) zero x (suc k) h = grind (arith, nat_tests)
slice_get-set (y ∷ ys) (suc t) x zero h = grind (arith, nat_tests)
slice_get-set (y ∷ ys) (suc t) x (suc k) h = grind (arith, nat_tests, slice_get-set ys t x k (omega arith))

-- a taken frame is in the buffer, and is not idle
pub record IsInBuffer (p : Pool) (t : ℕ) : Type 0 where
  pub below : t < length p.buffer
  pub not_idle : is_idle p.idle t ≡ false

pub in_buffer : (p : Pool) (t : ℕ) → IsSome (taken_frames p t) → IsInBuffer p t
unfolding taken_frames
in_buffer p t taken = go (is_idle p.idle t) refl taken where
  go : (b : Bool) → is_idle p.idle t ≡ b → IsSome (cond b None (slice_get p.buffer t)) → IsInBuffer p t
  go true e some = absurd cc
  go false e some =
      let frame = some_is (slice_get p.buffer t) some in
      record { below = slice_get_within p.buffer t frame.0 frame.1; not_idle = e }

-- what a read of the buffer gives
pub frame_bytes-read : (p : Pool) (t : ℕ) (frame : List ℕ) → IsSome (taken_frames p t) →
    frame ≡ get_or p.buffer t frame → frame_bytes p t ≡ frame
unfolding taken_frames
frame_bytes-read p t frame taken read =
    let place = in_buffer p t taken in
    rw (place.not_idle, slice_get-get_or p.buffer t frame place.below) (sym read)

past_buffer : (p : Pool) (t : ℕ) → length p.buffer ≤ t → taken_frames p t ≡ None
unfolding taken_frames
past_buffer p t past = let none = slice_get_past p.buffer t past in grind (arith, nat_tests)

-- two maps of frames that answer alike
same_map : (m n : ℕ → Option (List ℕ)) → ((t : ℕ) → m t ≡ n t) → m ≡ n
same_map m n same = λ i t. same t i

-- ---- what holds of every pool

abbrev empty_pool : Pool
empty_pool = record { frames = 0; buffer = []; links = []; idle = [] }

pub IsPool-empty : IsPool empty_pool
unfolding AreDistinctBelow
IsPool-empty = record {
  bound = omega arith;
  fits = omega arith;
  idle = tt;
  counted =
      let each = λ (t : ℕ). past_buffer empty_pool t (omega arith) in
      omega (arith, entry_count-empty 0 (λ (b : List ℕ). true) (taken_frames empty_pool) each);
}

-- a pool with no frames gets some, with these backlinks, and all are free
module _ (p : Pool) (frames : ℕ) (links : List Backlink) (pool : IsPool p) (none : p.frames ≡ 0) where
  pub all_free : (t : ℕ) → taken_frames (record p { frames = frames; links = links }) t ≡ None
  all_free t = past_buffer (record p { frames = frames; links = links }) t (omega (arith, pool.fits))

  pub IsPool-filled : frames ≤ FRAMES → IsPool (record p { frames = frames; links = links })
  IsPool-filled bound = record {
    bound = bound;
    fits = omega (arith, pool.fits);
    idle = pool.idle;
    counted =
        let now = taken_frames (record p { frames = frames; links = links }) in
        omega (arith, pool.fits, pool.counted, entry_count-empty frames (λ (b : List ℕ). true) now all_free);
  }

-- only tags of frames are taken
pub taken_below : (p : Pool) (t : ℕ) → IsPool p → IsSome (taken_frames p t) → t < p.frames
taken_below p t pool taken = omega (arith, (in_buffer p t taken).below, pool.fits)

-- ---- a frame is taken

-- q is a pool, and taking the frame t with these bytes leads from p to it
pub record HasTaken (p q : Pool) (t : ℕ) (bytes : List ℕ) : Type 0 where
  pub pool : IsPool q
  pub takes : Takes p q t bytes

-- a frame that was never taken, where no frame is idle
module _ (p : Pool) (next : ℕ) (bytes : List ℕ) (pool : IsPool p) (is : next ≡ length p.buffer)
    (room : next ≢ p.frames) where
  abbrev longer : Pool
  longer = record p { buffer = p.buffer ++ bytes ∷ [] }

  taken_frames-longer : taken_frames longer ≡ with_key (taken_frames p) next bytes
  unfolding taken_frames with_key
  taken_frames-longer =
      let free = is_idle-past (length p.buffer) p.idle next pool.idle (omega arith) in
      same_map _ _ (λ u. rw (slice_get-push p.buffer bytes u) (grind (arith, nat_tests)))

  pub pushed : HasTaken p longer next bytes
  pushed =
      let free = past_buffer p next (omega arith) in
      let size = length_push p.buffer bytes in
      let low : next < p.frames = omega (arith, pool.fits) in
      record {
        pool = record {
          bound = pool.bound;
          fits = omega arith;
          idle = distinct_more (length p.buffer) (length longer.buffer) p.idle (omega arith) pool.idle;
          counted = rw taken_frames-longer (omega (arith, pool.counted, one_more p next bytes low free));
        };
        takes = record { below = low; was_free = free; taken = taken_frames-longer };
      }

-- where no frame is idle and all are in the buffer, all are taken
pub all_taken : (p : Pool) → IsPool p → p.idle ≡ [] → length p.buffer ≡ p.frames → taken_count p ≡ p.frames
all_taken p pool empty full =
    let none : length p.idle ≡ 0 = ap length empty in
    omega (arith, pool.counted)

-- one is looked for in vain
pub not_popped : (all tags : List Tag) → all ≡ tags ++ [] → reverse tags ≡ reverse all
not_popped all tags is = sym (ap reverse (is ∙ append-nil tags))

-- the list of idle frames before a push, or after a pop
pub reverse_push : (all tags : List Tag) (tag : Tag) → all ≡ tags ++ tag ∷ [] → reverse all ≡ tag ∷ reverse tags
reverse_push all tags tag is = ap reverse is ∙ reverse-append tags (tag ∷ [])

-- the last frame that was given back
module _ (p : Pool) (all tags : List Tag) (tag : Tag) (pool : IsPool p) (ends : all ≡ tags ++ tag ∷ [])
    (seen : p.idle ≡ reverse all) where
  is : p.idle ≡ tag ∷ reverse tags
  is = seen ∙ reverse_push all tags tag ends

  last : AreDistinctBelow (length p.buffer) (tag ∷ reverse tags)
  last = subst (AreDistinctBelow (length p.buffer)) is pool.idle

  pub idle_below : tag.0 < length p.buffer
  unfolding AreDistinctBelow
  idle_below = last.0

  abbrev popped_pool : List ℕ → Pool
  popped_pool bytes = record p { buffer = set p.buffer tag.0 bytes; idle = reverse tags }

  taken_frames-popped : (bytes : List ℕ) → taken_frames (popped_pool bytes) ≡ with_key (taken_frames p) tag.0 bytes
  unfolding taken_frames with_key is_idle AreDistinctBelow
  taken_frames-popped bytes =
      let new = last.1 in
      same_map _ _ (λ u. rw (is, slice_get-set p.buffer tag.0 bytes u idle_below) (grind (arith, nat_tests)))

  pub popped : (bytes : List ℕ) → HasTaken p (popped_pool bytes) tag.0 bytes
  unfolding AreDistinctBelow taken_frames is_idle
  popped bytes =
      let low : tag.0 < p.frames = omega (arith, idle_below, pool.fits) in
      let same = length-set p.buffer tag.0 bytes in
      let shorter : length p.idle ≡ length (reverse tags) + 1 = ap length is ∙ omega arith in
      record {
        pool = record {
          bound = pool.bound;
          fits = omega (arith, pool.fits);
          idle = rw same last.2;
          counted = rw (taken_frames-popped bytes)
              (omega (arith, pool.counted, one_more p tag.0 bytes low idle_free));
        };
        takes = record { below = low; was_free = idle_free; taken = taken_frames-popped bytes };
      }
    where
      idle_free : taken_frames p tag.0 ≡ None
      idle_free = rw is (grind (arith, nat_tests))

-- ---- a taken frame

-- it is given back
module _ (p : Pool) (tag : Tag) (pool : IsPool p) (taken : IsSome (taken_frames p tag.0)) where
  abbrev returned_pool : Pool
  returned_pool = record p { idle = tag ∷ p.idle }

  pub taken_frames-returned : taken_frames returned_pool ≡ without_key (taken_frames p) tag.0
  unfolding taken_frames without_key is_idle
  taken_frames-returned = same_map _ _ (λ u. grind (arith, nat_tests))

  fewer : count_taken p.frames (without_key (taken_frames p) tag.0) + 1 ≡ taken_count p
  fewer =
      let less = entry_count-without_key p.frames (λ (b : List ℕ). true) (taken_frames p) tag.0
      (taken_below p tag.0 pool taken) in
      omega (arith, less, bit_taken (taken_frames p tag.0) taken)

  pub idle_room : length p.idle < p.frames
  idle_room = omega (arith, pool.counted, pool.fits, fewer)

  pub IsPool-returned : IsPool returned_pool
  unfolding AreDistinctBelow
  IsPool-returned =
      let place = in_buffer p tag.0 taken in
      record {
        bound = pool.bound;
        fits = pool.fits;
        idle = (place.below, place.not_idle, pool.idle);
        counted = rw taken_frames-returned (omega (arith, pool.counted, fewer));
      }

-- it gets other bytes
module _ (p : Pool) (t : ℕ) (bytes : List ℕ) (pool : IsPool p) (taken : IsSome (taken_frames p t)) where
  abbrev written_pool : Pool
  written_pool = record p { buffer = set p.buffer t bytes }

  pub taken_frames-written : taken_frames written_pool ≡ with_key (taken_frames p) t bytes
  unfolding taken_frames with_key
  taken_frames-written =
      let place = in_buffer p t taken in
      same_map _ _ (λ u. rw (slice_get-set p.buffer t bytes u place.below) (grind (arith, nat_tests)))

  -- as many frames are taken
  as_many : count_taken p.frames (with_key (taken_frames p) t bytes) ≡ taken_count p
  as_many =
      let m = taken_frames p in
      let n = with_key m t bytes in
      let change = entry_count-change p.frames (λ (b : List ℕ). true) m n t (taken_below p t pool taken)
      (with_key-other m t bytes) in
      omega (arith, change, bit_taken (m t) taken, bit_taken (n t) (with_key-stays m t bytes t taken))

  pub IsPool-written : IsPool written_pool
  IsPool-written =
      let same = length-set p.buffer t bytes in
      record {
        bound = pool.bound;
        fits = omega (arith, pool.fits);
        idle = rw same pool.idle;
        counted = rw taken_frames-written (omega (arith, pool.counted, as_many));
      }

-- the fields of the pool, of which each frame of the buffer has a mark
module _ (a : Inside) (are : ArePool a) where
  pub as_many_marks : length a.blank.items ≡ length a.buffer.items
  as_many_marks = omega (arith, are.marked, a.blank.ok.0, a.buffer.ok.0)

  pub as_many_shown : length (pool_of a).buffer ≡ vec_len a.buffer
  as_many_shown = length-shown a.buffer.items a.blank.items ∙ sym a.buffer.ok.0

  -- and which are no more than the machine has
  pub few_frames : vec_len a.buffer ≤ a.frames
  few_frames = omega (arith, as_many_shown, are.pool.fits)

-- a taken frame
module _ (a : Inside) (t : ℕ) (are : ArePool a) (taken : IsSome (taken_frames (pool_of a) t)) where
  -- its bytes stand in the buffer
  pub in_range : t < vec_len a.buffer
  in_range = omega (arith, as_many_shown a are, (in_buffer (pool_of a) t taken).below)

  -- and a mark of it in the marks
  pub in_marks : t < vec_len a.blank
  in_marks = omega (arith, are.marked, in_range)

  in_frames : t < length a.buffer.items
  in_frames = omega (arith, a.buffer.ok.0, in_range)

  -- it is read where it is marked
  pub reads_blank : (mark : Bool) → mark ≡ get_or a.blank.items t mark → mark ≡ true →
      frame_bytes (pool_of a) t ≡ zeros
  reads_blank mark read blank = frame_bytes-read (pool_of a) t zeros taken
      (shown_blank a.buffer.items a.blank.items t mark in_frames (as_many_marks a are) read blank)

  -- and where it is not
  pub reads_plain : (frame : List ℕ) (mark : Bool) → mark ≡ get_or a.blank.items t mark → mark ≡ false →
      frame ≡ get_or a.buffer.items t frame → frame_bytes (pool_of a) t ≡ frame
  reads_plain frame mark read plain is = frame_bytes-read (pool_of a) t frame taken
      (shown_plain a.buffer.items a.blank.items t frame mark in_frames (as_many_marks a are) read plain is)

  -- it is marked
  pub ArePool-marked : ArePool (record a { blank = with_item a.blank t true })
  ArePool-marked = record {
    pool = rw (frames_shown-marked a.buffer.items a.blank.items t (as_many_marks a are))
        (IsPool-written (pool_of a) t zeros are.pool taken);
    marked = are.marked;
    buffer_room = are.buffer_room;
    blank_room = are.blank_room;
    idle_room = are.idle_room;
    linked = are.linked;
  }

  pub taken_frames-marked :
      taken_frames (pool_of (record a { blank = with_item a.blank t true })) ≡ with_key (taken_frames (pool_of a)) t zeros
  taken_frames-marked = rw (frames_shown-marked a.buffer.items a.blank.items t (as_many_marks a are))
      (taken_frames-written (pool_of a) t zeros are.pool taken)

  -- it gets other bytes, and no mark
  module _ (bytes : List ℕ) where
    abbrev unmarked : Inside
    unmarked = record a { buffer = with_item a.buffer t bytes; blank = with_item a.blank t false }

    pub ArePool-unmarked : ArePool unmarked
    ArePool-unmarked = record {
      pool = rw (frames_shown-unmarked a.buffer.items a.blank.items t bytes (as_many_marks a are))
          (IsPool-written (pool_of a) t bytes are.pool taken);
      marked = are.marked;
      buffer_room = are.buffer_room;
      blank_room = are.blank_room;
      idle_room = are.idle_room;
      linked = are.linked;
    }

    pub taken_frames-unmarked : taken_frames (pool_of unmarked) ≡ with_key (taken_frames (pool_of a)) t bytes
    taken_frames-unmarked = rw (frames_shown-unmarked a.buffer.items a.blank.items t bytes (as_many_marks a are))
        (taken_frames-written (pool_of a) t bytes are.pool taken)

  -- it has no mark, and gets other bytes
  module _ (bytes : List ℕ) (mark : Bool) (read : mark ≡ get_or a.blank.items t mark) (plain : mark ≡ false) where
    seen : frames_shown (set a.buffer.items t bytes) a.blank.items ≡ set (pool_of a).buffer t bytes
    seen = frames_shown-written a.buffer.items a.blank.items t bytes mark in_frames (as_many_marks a are) read plain

    pub ArePool-plain : ArePool (record a { buffer = with_item a.buffer t bytes })
    ArePool-plain = record {
      pool = rw seen (IsPool-written (pool_of a) t bytes are.pool taken);
      marked = are.marked;
      buffer_room = are.buffer_room;
      blank_room = are.blank_room;
      idle_room = are.idle_room;
      linked = are.linked;
    }

    pub taken_frames-plain : taken_frames (pool_of (record a { buffer = with_item a.buffer t bytes }))
        ≡ with_key (taken_frames (pool_of a)) t bytes
    taken_frames-plain = rw seen (taken_frames-written (pool_of a) t bytes are.pool taken)

-- how many frames are free
pub free_frames : (p : Pool) → IsPool p → p.frames - length p.buffer + length p.idle + taken_count p ≡ p.frames
free_frames p pool = omega (arith, pool.counted, pool.fits)

-- ---- backlinks

-- the frames are the same with other backlinks
module _ (p : Pool) (links : List Backlink) where
  pub taken_frames-linked : taken_frames (record p { links = links }) ≡ taken_frames p
  unfolding taken_frames
  taken_frames-linked = refl

  pub IsPool-linked : IsPool p → IsPool (record p { links = links })
  IsPool-linked pool = record {
    bound = pool.bound;
    fits = pool.fits;
    idle = pool.idle;
    counted = rw taken_frames-linked pool.counted;
  }

-- a taken frame has a backlink
module _ (a : Inside) (t : ℕ) (are : ArePool a) (taken : IsSome (taken_frames (pool_of a) t)) where
  pub has_link : t < vec_len a.links
  has_link = omega (arith, are.linked, taken_below (pool_of a) t are.pool taken)

  pub has_link_at : t < length a.links.items
  has_link_at = omega (arith, a.links.ok.0, has_link)

  pub links_of-noted : (link : Backlink) → links_of (record (pool_of a) { links = set a.links.items t link })
      ≡ (λ u. if u == t then link else links_of (pool_of a) u)
  links_of-noted link = λ i u. noted u (u == t) refl i
    where
      noted : (u : ℕ) (b : Bool) → (u == t) ≡ b →
          get_or (set a.links.items t link) u no_link ≡ (if u == t then link else get_or a.links.items u no_link)
      noted u true same = rw same (get_or-set_at a.links.items t u link no_link (eqb-true u t same) has_link_at)
      noted u false other = rw other (get_or-set_other a.links.items t u link no_link (eqb-false u t other))

-- ---- for callers and for a copy

module _ (old new : Pool) (t : ℕ) (bytes : List ℕ) (takes : Takes old new t bytes) where
  -- the new frame is another than those before
  pub takes_apart : (u : ℕ) → IsSome (taken_frames old u) → u ≢ t
  takes_apart u taken same =
      let free = takes.was_free in
      let some : is_some (taken_frames old t) ≡ true =
      ap (λ (k : ℕ). is_some (taken_frames old k)) (sym same) ∙ taken in
      absurd cc

  -- and those are as they were
  pub takes_kept : (u : ℕ) → IsSome (taken_frames old u) → taken_frames new u ≡ taken_frames old u
  takes_kept u taken =
      ap (λ (m : ℕ → Option (List ℕ)). m u) takes.taken ∙ with_key-other (taken_frames old) t bytes u (takes_apart u taken)

  pub takes_itself : IsSome (taken_frames new t)
  takes_itself = ap (λ (m : ℕ → Option (List ℕ)). is_some (m t)) takes.taken
      ∙ ap is_some (with_key-same (taken_frames old) t bytes)

  -- it gets the bytes of one of those
  pub takes_copied : (after : Pool) (from : ℕ) → IsSome (taken_frames old from) →
      taken_frames after ≡ with_key (taken_frames new) t (frame_bytes new from) →
      Takes old after t (frame_bytes old from)
  unfolding with_key
  takes_copied after from taken copied = record {
    below = takes.below;
    was_free = takes.was_free;
    taken = copied ∙ rw (takes_kept from taken, takes.taken)
        (same_map _ _ (λ u. grind (arith, nat_tests)));
  }
