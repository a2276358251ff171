-- Held pages that are released, and shown by a snapshot, one after another.
use Rattle.std.proofs.Common.{◌≡◌, ◌≢◌, ℕ, ◌+◌, ◌-◌, ◌<◌, ◌≤◌, Bool, Option, None, Some, IsSome, is_some, refl, sym, ap, subst, ◌∙◌, arith}
use Rattle.std.proofs.lemmas.Bool.Decides.{nat_tests}
use Rattle.vm_base.specs.declared.limits.TheConstants.{VMO_PAGES}
use Rattle.vm_base.specs.Search.{HasNone, IsFirst}
use Rattle.vm_base.specs.Entries.{with_key}
use Rattle.vm_base.proofs.EntryLaws.{none_is}
use Rattle.vm_model.specs.Contents.Content.{Content, Page, is_held, hold, created, IsGood}
use Rattle.vm_model.specs.Contents.Sharing.{page_seen, snapshotted}
use Rattle.vm_model.specs.Contents.Zeroing.{zeroed}
use Rattle.vm_model.proofs.ContentLaws.{same_content}
use Rattle.vm_model.proofs.SharingLaws.{koid_held, page_seen-out, page-snapshotted_new, page-snapshotted_other, IsGood-snapshotted}
use Rattle.vm_model.proofs.ZeroingLaws.{zeroed-none}
use Rattle.page_store.proofs.VmoLaws.{koid_apart}

-- ---- pages that become zero

-- one page of a range, and then the range
pub zeroed-after : (c d : Content) (v first end p : ℕ) → IsFirst (is_held c v) first end p → d ≡ zeroed c v p (p + 1) → zeroed d v first end ≡ zeroed c v first end
unfolding zeroed
zeroed-after c d v first end p next made = ap (λ (s : Content). zeroed s v first end) made ∙ same_content _ _ refl refl (λ w. refl) (λ w q.
    let low = next.order in let high = next.below in grind (arith, nat_tests))

-- none is left
pub zeroed-done : (c : Content) (v first end : ℕ) → HasNone (is_held c v) first end → c ≡ zeroed c v first end
zeroed-done c v first end none = sym (zeroed-none c v first end (λ q low high. none_is _ (none q low high)))

-- ---- pages that a snapshot shows

module _ (c : Content) (of first n : ℕ) (good : IsGood c) where
  -- a new VMO shows none yet
  snapshot-start : (d : Content) → d ≡ created c n → d ≡ snapshotted c of first (first - first) n
  unfolding created snapshotted page_seen with_key
  snapshot-start d made = made ∙ same_content _ _ refl refl (λ w. refl) (λ w q.
      let bare : w ≡ c.next → c.page w q ≡ None = λ same. new_zero w q same in
      let none : first - first ≡ 0 = omega arith in
      grind (arith, nat_tests))
    where
      new_zero : (w q : ℕ) → w ≡ c.next → c.page w q ≡ None
      new_zero w q same = go (c.page w q) refl where
        go : (o : Option Page) → c.page w q ≡ o → o ≡ None
        go None e = refl
        go (Some held) e = let low = koid_held c w q held good e in absurd (omega arith)

  -- d is the content where the snapshot shows the pages up to `from`
  module _ (d : Content) (from end : ℕ) (apart : of ≢ c.next) (is : d ≡ snapshotted c of first (from - first) n) (order : first ≤ from) where
    page-seen : (q : ℕ) → d.page of q ≡ c.page of q
    page-seen q = ap (λ (s : Content). s.page of q) is ∙ page-snapshotted_other c of first (from - first) n of q apart

    next-seen : (p : ℕ) → IsFirst (is_held d of) from end p → IsFirst (is_held c of) from end p
    next-seen p next = subst (λ (held : ℕ → Bool). IsFirst held from end p) (λ i q. is_some (page-seen q i)) next

    snapshot-zero : (p : ℕ) → from ≤ p → d.page c.next (p - first) ≡ None
    snapshot-zero p low = ap (λ (s : Content). s.page c.next (p - first)) is
        ∙ (page-snapshotted_new c of first (from - first) n (p - first) ∙ page_seen-out c of first (from - first) (p - first) (omega arith))

    -- one page more
    snapshot-next : (p : ℕ) (held : Page) → IsFirst (is_held d of) from end p → d.page of p ≡ Some held
        → hold d c.next (p - first) held ≡ snapshotted c of first (p + 1 - first) n
    unfolding snapshotted page_seen hold
    snapshot-next p held next found = ap (λ (s : Content). hold s c.next (p - first) held) is ∙ same_content _ _ refl refl (λ w. refl) (λ w x.
        let low = next.order in
        let there : c.page of p ≡ Some held = sym (page-seen p) ∙ found in
        let place : x ≡ p - first → first + x ≡ p = λ same. omega arith in
        let gap : from ≤ first + x → first + x < p → c.page of (first + x) ≡ None = λ l h. sym (page-seen (first + x)) ∙ none_is _ (next.gap (first + x) l h) in
        grind (arith, nat_tests))

    snapshot-good : (p : ℕ) (held : Page) → IsFirst (is_held d of) from end p → d.page of p ≡ Some held → end - first ≤ n → n ≤ VMO_PAGES
        → IsGood (hold d c.next (p - first) held)
    snapshot-good p held next found few many =
        let high = next.below in
        subst IsGood (sym (snapshot-next p held next found)) (IsGood-snapshotted c of first (p + 1 - first) n good (omega arith) many)

    -- no page more
    snapshot-end : from ≤ end → HasNone (is_held d of) from end → d ≡ snapshotted c of first (end - first) n
    unfolding snapshotted page_seen
    snapshot-end high none = is ∙ same_content _ _ refl refl (λ w. refl) (λ w x.
        let gap : from ≤ first + x → first + x < end → c.page of (first + x) ≡ None = λ l h. sym (page-seen (first + x)) ∙ none_is _ (none (first + x) l h) in
        grind (arith, nat_tests))

-- ---- a snapshot that is made

-- d is the content c with a snapshot of n pages of the VMO `of`, of which those are shown that lie below `from`
pub record IsShowing (c d : Content) (of first from end n koid : ℕ) : Type 0 where
  pub good : IsGood c
  pub apart : of ≢ c.next
  pub new : koid ≡ c.next
  pub is : d ≡ snapshotted c of first (from - first) n
  pub order : first ≤ from
  pub few : end - first ≤ n
  pub many : n ≤ VMO_PAGES

pub showing-start : (c d : Content) (of first end n koid : ℕ) → IsGood c → IsSome (c.count of) → koid ≡ c.next → d ≡ created c n → end - first ≤ n → n ≤ VMO_PAGES
    → IsShowing c d of first first end n koid
showing-start c d of first end n koid good some new made few many = record {
  good = good;
  apart = koid_apart c of good some;
  new = new;
  is = snapshot-start c of first n good d made;
  order = omega arith;
  few = few;
  many = many;
}

module _ (c d : Content) (of first from end n koid : ℕ) (s : IsShowing c d of first from end n koid) where
  pub showing-seen : (p : ℕ) → IsFirst (is_held d of) from end p → IsFirst (is_held c of) from end p
  showing-seen p next = next-seen c of first n s.good d from end s.apart s.is s.order p next

  pub showing-zero : (p : ℕ) → IsFirst (is_held d of) from end p → d.page koid (p - first) ≡ None
  showing-zero p next = ap (λ (k : ℕ). d.page k (p - first)) s.new ∙ snapshot-zero c of first n s.good d from end s.apart s.is s.order p next.order

  pub showing-good : (p : ℕ) (held : Page) → IsFirst (is_held d of) from end p → d.page of p ≡ Some held → IsGood (hold d koid (p - first) held)
  showing-good p held next found =
      subst (λ (k : ℕ). IsGood (hold d k (p - first) held)) (sym s.new) (snapshot-good c of first n s.good d from end s.apart s.is s.order p held next found s.few s.many)

  pub showing-next : (e : Content) (p : ℕ) (held : Page) → IsFirst (is_held d of) from end p → d.page of p ≡ Some held → e ≡ hold d koid (p - first) held
      → IsShowing c e of first (p + 1) end n koid
  showing-next e p held next found made = record {
    good = s.good;
    apart = s.apart;
    new = s.new;
    is = made ∙ (ap (λ (k : ℕ). hold d k (p - first) held) s.new ∙ snapshot-next c of first n s.good d from end s.apart s.is s.order p held next found);
    order = let low = next.order in let begins = s.order in omega arith;
    few = s.few;
    many = s.many;
  }

  pub showing-end : (seen : ℕ) → end ≡ first + seen → from ≤ end → HasNone (is_held d of) from end → d ≡ snapshotted c of first seen n
  showing-end seen far high none =
      let long : end - first ≡ seen = omega arith in
      snapshot-end c of first n s.good d from end s.apart s.is s.order high none ∙ ap (λ (k : ℕ). snapshotted c of first k n) long
