-- What a short read answers, by what was found of the pages that it touches.
use Rattle.std.proofs.Common.{◌≡◌, ℕ, ◌+◌, ◌/◌, ◌%◌, ◌≤◌, List, [], ◌∷◌, ◌++◌, length, take, drop, Option, refl, sym, subst, ap, ◌∙◌, arith}
use Rattle.vm_base.specs.declared.limits.TheConstants.{PAGE}
use Rattle.vm_model.specs.declared.space.Entry.{Entry}
use Rattle.vm_model.specs.Contents.Content.{Content, shown, IsGood}
use Rattle.vm_model.specs.Contents.Writing.{touched}
use Rattle.vm_model.specs.Space.Readiness.{Ready}
use Rattle.vm_model.specs.Space.Rights.{reading}
use Rattle.vm_model.specs.Machine.Access.{access_refusal, bytes_through, page_shown, read_faults, after_reading}
use Rattle.vm_model.proofs.OwningLaws.{length-shown}
use Rattle.fault.specs.declared.checking.TouchedPage.{TouchedPage}
use Rattle.fault.specs.Table.{Places, ready_of}
use Rattle.fault.specs.Access.{ReadsSpace}
use Rattle.fault.specs.inside.Touching.{IsTouched, ReadsPage, missing_in}
use Rattle.fault.proofs.AskedLaws.{AreAsked, AreAsked-one, AreAsked-two, none-refuses_read}
use Rattle.fault.proofs.TouchingLaws.{refusal_at-touched, read_faults-more, read_faults-nil}
use Rattle.vm_model.proofs.ThroughLaws.{bytes_through-page, bytes_through-append}

-- no page
pub ReadsSpace-none : (c : Content) (table : ℕ → ℕ → Option Entry) (root addr : ℕ) (old : Places) (out : List ℕ) → length out ≡ 0
    → ReadsSpace c table root addr (length out) old 0 out old
unfolding touched access_refusal read_faults bytes_through after_reading
ReadsSpace-none c table root addr old [] none = record { free = refl; faults_are = refl; bytes_are = refl; ready = refl }
ReadsSpace-none c table root addr old (b ∷ bs) none = absurd (omega arith)

module _ {c : Content} {table : ℕ → ℕ → Option Entry} {old : Places} {root p : ℕ} {first : TouchedPage} (is : IsTouched c table old reading root p first) where
  -- ---- one page

  pub asked-one : AreAsked c reading (table root) (p ∷ []) (page_shown first.entry ∷ [])
  asked-one = AreAsked-one c reading (table root) p first.entry is.entry (refusal_at-touched c table old reading root p first is)

  pub faults-one : read_faults (ready_of old root) (p ∷ []) ≡ missing_in first
  faults-one = omega (arith, read_faults-more old root p [] first is.translation, read_faults-nil old root)

  -- it was read
  pub ReadsSpace-one : {addr len : ℕ} {mid new : Places} (faults : ℕ) (bytes : List ℕ) → p ≡ addr / PAGE → touched addr len ≡ p ∷ [] → addr % PAGE + len ≤ PAGE
      → IsGood c → mid ≡ old → faults ≡ missing_in first → bytes ≡ take len (drop (addr % PAGE) (shown c first.entry.koid.0 first.entry.page))
      → ReadsPage c root p first mid new → ReadsSpace c table root addr len old faults bytes new
  unfolding after_reading
  ReadsSpace-one {addr} {len} faults bytes start one fits good same count read reads = record {
    free = rw one (none-refuses_read asked-one);
    faults_are = rw one (count ∙ sym faults-one);
    bytes_are =
        read ∙ sym (bytes_through-page c (table root) addr len first.entry (ap (table root) (sym start) ∙ is.entry)
        (length-shown c first.entry.koid.0 first.entry.page good) fits);
    ready = rw (one, ← same) reads.ready;
  }

  -- ---- two pages

  module _ {second : TouchedPage} (next : IsTouched c table old reading root (p + 1) second) where
    pub asked-two : AreAsked c reading (table root) (p ∷ (p + 1) ∷ []) (page_shown first.entry ∷ page_shown second.entry ∷ [])
    asked-two = AreAsked-two c reading (table root) p (p + 1) first.entry second.entry is.entry (refusal_at-touched c table old reading root p first is)
        next.entry (refusal_at-touched c table old reading root (p + 1) second next)

    pub faults-two : read_faults (ready_of old root) (p ∷ (p + 1) ∷ []) ≡ missing_in first + missing_in second
    faults-two = omega (
      arith,
      read_faults-more old root p ((p + 1) ∷ []) first is.translation,
      read_faults-more old root (p + 1) [] second next.translation,
      read_faults-nil old root,
    )

    -- the bytes to the end of the first page, and the others
    bytes-two : (addr n m : ℕ) → p ≡ addr / PAGE → n + m ≤ PAGE → IsGood c → addr % PAGE + n ≡ PAGE
        → bytes_through c (table root) addr (n + m) ≡ take n (drop (addr % PAGE) (shown c first.entry.koid.0 first.entry.page))
        ++ take m (drop 0 (shown c second.entry.koid.0 second.entry.page))
    bytes-two addr n m start few good whole =
        let after : p + 1 ≡ (addr + n) / PAGE = omega arith in
        let at : (addr + n) % PAGE ≡ 0 = omega arith in
        let here = bytes_through-page c (table root) addr n first.entry (ap (table root) (sym start) ∙ is.entry)
        (length-shown c first.entry.koid.0 first.entry.page good) (omega arith) in
        let behind = bytes_through-page c (table root) (addr + n) m second.entry (ap (table root) (sym after) ∙ next.entry)
        (length-shown c second.entry.koid.0 second.entry.page good) (omega arith) in
        bytes_through-append c (table root) addr n m ∙ rw (here, behind, at) refl

    -- they were read
    pub ReadsSpace-two : {addr len : ℕ} {mid between new : Places} (faults : ℕ) (here behind : List ℕ) (n m : ℕ) → p ≡ addr / PAGE
        → touched addr len ≡ p ∷ (p + 1) ∷ [] → len ≤ PAGE → IsGood c → mid ≡ old → addr % PAGE + n ≡ PAGE → n + m ≡ len
        → faults ≡ missing_in first + missing_in second
        → here ≡ take n (drop (addr % PAGE) (shown c first.entry.koid.0 first.entry.page))
        → behind ≡ take m (drop 0 (shown c second.entry.koid.0 second.entry.page))
        → ReadsPage c root p first mid between → ReadsPage c root (p + 1) second between new → ReadsSpace c table root addr len old faults (here ++ behind) new
    unfolding after_reading
    ReadsSpace-two {addr} {new = new} faults here behind n m start two few good same whole both count read next_read reads next_reads = record {
      free = rw two (none-refuses_read asked-two);
      faults_are = rw two (count ∙ sym faults-two);
      bytes_are = rw (read, next_read, ← both) (sym (bytes-two addr n m start (omega (arith, both, few)) good whole));
      ready = rw (two, ← same) (subst (λ (r : Ready). ready_of new ≡ after_reading root ((p + 1) ∷ []) r) reads.ready next_reads.ready);
    }
