-- What a note says, under one stamp and another.
use Rattle.std.proofs.Common.{◌≡◌, ℕ, ◌+◌, ◌<◌, ◌≤◌, Bool, true, false, cond, ◌&&◌, Option, None, Some, refl, sym, ap, ◌∙◌, arith}
use Rattle.std.specs.Prelude.{nat_lt, is_some}
use Rattle.std.specs.Option.{option_and_then}
use Rattle.std.proofs.lemmas.Bool.{and_parts, le-ltb, lt-ltb}
use Rattle.std.proofs.lemmas.Bool.Decides.{nat_tests}
use Rattle.vm_base.specs.declared.names.Tag.{Tag}
use Rattle.vm_base.proofs.EntryLaws.{some_same}
use Rattle.vm_model.specs.declared.space.Readiness.TheVariants.{Read}
use Rattle.vm_model.specs.Contents.Content.{Content, pages_of}
use Rattle.vm_model.specs.Space.Readiness.{frame_at, is_same_frame, frame_number}
use Rattle.vm_model.proofs.ContentLaws.{pages_of-at}
use Rattle.vm_model.proofs.ReadinessLaws.{is_same_frame-is}
use Rattle.checker_ready.specs.declared.ready_map.ReadyPage.{ReadyPage}
use Rattle.checker_ready.specs.declared.stamps.Kept.{Kept}
use Rattle.checker_ready.specs.declared.stamps.Stamp.{Stamp}
use Rattle.checker_ready.specs.Notes.{ready_page, stamp_for, lowered, has_frame, is_row_in, row_if_current, row_limited}

-- the row that a note gives
abbrev pub row_of : Kept → Stamp → ReadyPage
row_of k s = record { koid = k.koid; page = k.page; frame = s.frame; readiness = cond (nat_lt k.made s.shared) Read k.readiness }

and_true : (b : Bool) → (b && true) ≡ b
and_true true = refl
and_true false = refl

-- frames with one number are one
pub frame_is : (one other : Option Tag) → is_same_frame (frame_number one) (frame_number other) ≡ true → one ≡ other
frame_is None None same = refl
frame_is None (Some u) same = absurd cc
frame_is (Some t) None same = absurd cc
frame_is (Some t) (Some u) same =
    let number : t.0 ≡ u.0 = some_same (is_same_frame-is (Some t.0) (Some u.0) same) in λ i. Some (record { 0 = number i })

-- ---- what a change of the page of a VMO makes of the row of a note

module _ (change : ReadyPage → Option ReadyPage) (v p : ℕ) (k : Kept) where
  -- if the note is of that page
  pub changed-here : k.koid.0 ≡ v → k.page ≡ p → (s : Option Stamp)
      → option_and_then (λ row. cond (is_row_in v p (p + 1) row) (change row) (Some row)) (ready_page k s) ≡ option_and_then change (ready_page k s)
  changed-here koid page None = refl
  changed-here koid page (Some s) = go (nat_lt k.made s.since) where
    inside : is_row_in v p (p + 1) (row_of k s) ≡ true
    inside = grind (arith, nat_tests)

    go : (past : Bool) → option_and_then (λ row. cond (is_row_in v p (p + 1) row) (change row) (Some row)) (cond past None (Some (row_of k s)))
        ≡ option_and_then change (cond past None (Some (row_of k s)))
    go true = refl
    go false = rw inside refl

  -- if it is not
  pub changed-other : (k.koid.0 ≡ v → k.page ≡ p → ⊥) → (s : Option Stamp)
      → option_and_then (λ row. cond (is_row_in v p (p + 1) row) (change row) (Some row)) (ready_page k s) ≡ ready_page k s
  changed-other apart None = refl
  changed-other apart (Some s) = go (nat_lt k.made s.since) where
    outside : is_row_in v p (p + 1) (row_of k s) ≡ false
    outside = grind (arith, nat_tests)

    go : (past : Bool) → option_and_then (λ row. cond (is_row_in v p (p + 1) row) (change row) (Some row)) (cond past None (Some (row_of k s))) ≡ cond past None (Some (row_of k s))
    go true = refl
    go false = rw outside refl

-- ---- what a change of the stamp makes of the row of a note

-- the stamp has the frame that the page has now, or it has not
pub page-settled : (c : Content) (k : Kept) (s : Stamp) (b : Bool) → has_frame c k.koid.0 k.page s.frame ≡ b → cond b (ready_page k (Some s)) None ≡ option_and_then (row_if_current c) (ready_page k (Some s))
page-settled c k s b has = go b (nat_lt k.made s.since) has where
  go : (b past : Bool) → has_frame c k.koid.0 k.page s.frame ≡ b → cond b (cond past None (Some (row_of k s))) None ≡ option_and_then (row_if_current c) (cond past None (Some (row_of k s)))
  go true true e = refl
  go true false e = rw e refl
  go false true e = refl
  go false false e = rw e refl

-- where the page has this frame, it has another one if the two are the same
pub has_frame-alike : (c : Content) (v p : ℕ) (frame other : Option Tag) → has_frame c v p frame ≡ true → has_frame c v p other ≡ is_same_frame (frame_number other) (frame_number frame)
has_frame-alike c v p frame other has =
    let parts = and_parts (is_same_frame (frame_number frame) (frame_at c v p)) (nat_lt p (pages_of c v)) has in
    (λ i. is_same_frame (frame_number other) (sym (is_same_frame-is (frame_number frame) (frame_at c v p) parts.0) i) && parts.1 i) ∙ and_true (is_same_frame (frame_number other) (frame_number frame))

-- the page gets the stamp of the frame that it has now, and the note is from before
pub page-stamped : (c : Content) (k : Kept) (frame : Option Tag) (time : ℕ) (at : Option Stamp) → k.made < time → has_frame c k.koid.0 k.page frame ≡ true
    → ready_page k (Some (stamp_for at frame time)) ≡ option_and_then (row_if_current c) (ready_page k at)
page-stamped c k frame time None before has = rw (lt-ltb k.made time before) refl
page-stamped c k frame time (Some s) before has = go (is_same_frame (frame_number s.frame) (frame_number frame)) (has_frame-alike c k.koid.0 k.page frame s.frame has) where
  go : (alike : Bool) → has_frame c k.koid.0 k.page s.frame ≡ alike
      → ready_page k (Some (cond alike (record s { notes = s.notes + 1 }) (record { frame = frame; since = time; shared = time; notes = 1 }))) ≡ option_and_then (row_if_current c) (ready_page k (Some s))
  go true same = page-settled c k s true same
  go false other = rw (lt-ltb k.made time before) (page-settled c k s false other)

-- the page is for reading alone from this time on, and the note is from before
pub page-limited : (k : Kept) (time : ℕ) (s : Stamp) → k.made < time
    → ready_page k (Some (record s { shared = time })) ≡ option_and_then (row_limited (λ q. false)) (ready_page k (Some s))
page-limited k time s before = go (nat_lt k.made s.since) where
  go : (past : Bool) → cond past None (Some (row_of k (record s { shared = time }))) ≡ option_and_then (row_limited (λ q. false)) (cond past None (Some (row_of k s)))
  go true = refl
  go false = rw (lt-ltb k.made time before) refl

-- the page stays
pub page-unlimited : (k : Kept) (s : Option Stamp) → ready_page k s ≡ option_and_then (row_limited (λ q. true)) (ready_page k s)
page-unlimited k None = refl
page-unlimited k (Some s) = go (nat_lt k.made s.since) where
  go : (past : Bool) → cond past None (Some (row_of k s)) ≡ option_and_then (row_limited (λ q. true)) (cond past None (Some (row_of k s)))
  go true = refl
  go false = refl

-- a note of this time under such a stamp
pub page-noted : (k : Kept) (frame : Option Tag) (at : Option Stamp) → ((s : Stamp) → at ≡ Some s → (s.since ≤ k.made) × (s.shared ≤ k.made))
    → ready_page k (Some (stamp_for at frame k.made)) ≡ Some (record { koid = k.koid; page = k.page; frame = frame; readiness = k.readiness })
page-noted k frame None low = rw (le-ltb k.made k.made (omega arith)) refl
page-noted k frame (Some s) low = go (is_same_frame (frame_number s.frame) (frame_number frame)) refl where
  go : (alike : Bool) → is_same_frame (frame_number s.frame) (frame_number frame) ≡ alike
      → ready_page k (Some (stamp_for (Some s) frame k.made)) ≡ Some (record { koid = k.koid; page = k.page; frame = frame; readiness = k.readiness })
  go true alike =
      let times = low s refl in
      rw (alike, le-ltb k.made s.since times.0, le-ltb k.made s.shared times.1)
      (λ i. Some (record { koid = k.koid; page = k.page; frame = frame_is s.frame frame alike i; readiness = k.readiness }))
  go false unlike = rw (unlike, le-ltb k.made k.made (omega arith)) refl

-- a note less counts under the stamp, and none if this one does not
pub page-lowered : (k : Kept) (made : ℕ) (o : Option Stamp)
    → ((s : Stamp) → o ≡ Some s → nat_lt made s.since ≡ false → nat_lt 1 s.notes ≡ false → nat_lt k.made s.since ≡ true)
    → ready_page k (lowered made o) ≡ ready_page k o
page-lowered k made None last = refl
page-lowered k made (Some s) last = go (nat_lt made s.since) refl (nat_lt 1 s.notes) refl where
  go : (past : Bool) → nat_lt made s.since ≡ past → (more : Bool) → nat_lt 1 s.notes ≡ more → ready_page k (lowered made (Some s)) ≡ ready_page k (Some s)
  go true old more e = rw old refl
  go false new true many = rw (new, many) refl
  go false new false one = rw (new, one, last s refl new one) refl

-- the note is from before
pub lowered-old : (made : ℕ) (s : Stamp) → made < s.since → lowered made (Some s) ≡ Some s
lowered-old made s old = rw (lt-ltb made s.since old) refl

-- ---- the frame that a page has now

pub has_frame-is : (c : Content) (v p n : ℕ) (frame found : Option Tag) → is_same_frame (frame_number frame) (frame_number found) ≡ true → frame_number found ≡ frame_at c v p
    → c.count v ≡ Some n → nat_lt p n ≡ has_frame c v p frame
has_frame-is c v p n frame found same is count =
    ap (nat_lt p) (sym (pages_of-at c v n count))
    ∙ sym (ap (λ (alike : Bool). alike && nat_lt p (pages_of c v)) (ap (is_same_frame (frame_number frame)) (sym is) ∙ same))

-- nothing was found
pub none_else : {A : Type 0} (o : Option A) → ((x : A) → o ≡ Some x → ⊥) → o ≡ None
none_else None no_value = refl
none_else (Some x) no_value = absurd (no_value x refl)

pub none_is : {A : Type 0} (o : Option A) → is_some o ≡ false → o ≡ None
none_is None e = refl
none_is (Some x) e = absurd cc
