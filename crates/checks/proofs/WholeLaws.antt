-- How many pages of the greatest VMO are held, where it is made and its pages are owned.
use Rattle.std.proofs.Common.{◌≡◌, ℕ, ◌+◌, ◌<◌, ◌≤◌, Bool, unwrap_or, Option, Some, IsSome, arith, ap, subst, ◌∙◌, inl, inr}
use Rattle.std.specs.Prelude.{is_some}
use Rattle.std.proofs.lemmas.Bool.{cases_Bool}
use Rattle.vm_base.specs.declared.limits.TheConstants.{VMO_PAGES}
use Rattle.vm_base.specs.Search.{count_below}
use Rattle.vm_base.proofs.SearchLaws.{bit_le, count_below_none, count_below_change}
use Rattle.vm_base.proofs.EntryLaws.{with_key-same}
use Rattle.vm_model.specs.Contents.Content.{Content, Page, sole, shown, hold, nothing, created, pages_of, is_held}
use Rattle.vm_model.specs.Contents.Owning.{Owns}
use Rattle.vm_model.specs.Contents.Zeroing.{zeroed}
use Rattle.vm_model.proofs.ContentLaws.{page-hold_other}
use Rattle.page_store.specs.Held.{held_from}

-- a VMO of the greatest size has all pages
pub whole_pages : (c : Content) (v : ℕ) → c.count v ≡ Some VMO_PAGES → pages_of c v ≡ VMO_PAGES
unfolding pages_of
whole_pages c v has = ap (λ (n : Option ℕ). unwrap_or n 0) has

-- each is below their number, in a content that is the same
pub below_whole : (old new : Content) (v p : ℕ) → new ≡ old → old.count v ≡ Some VMO_PAGES → p < VMO_PAGES → p < pages_of new v
below_whole old new v p is has less =
    let all = whole_pages new v (ap (λ (c : Content). c.count v) is ∙ has) in omega (arith, all, less)

-- what is known of the VMO once a page of it is owned
pub record IsOwned (old new : Content) (v : ℕ) : Type 0 where
  pub count : new.count v ≡ old.count v
  pub held : held_from new v 0 VMO_PAGES ≤ held_from old v 0 VMO_PAGES + 1

held-one : (c : Content) (v p : ℕ) (held : Page) → p < VMO_PAGES → held_from (hold c v p held) v 0 VMO_PAGES ≤ held_from c v 0 VMO_PAGES + 1
unfolding held_from
held-one c v p held less =
    let was : ℕ → Bool = λ k. is_held c v (0 + k) in
    let is : ℕ → Bool = λ k. is_held (hold c v p held) v (0 + k) in
    let change = count_below_change VMO_PAGES p was is less (λ j below apart.
    ap (λ (page : Option Page). is_some page) (page-hold_other c v p held v (0 + j) (λ same place. apart (omega arith)))) in
    omega (arith, change, bit_le (is p))

pub owned_one : (old mid new : Content) (v p tag : ℕ) → mid ≡ old → Owns mid new v p tag → p < VMO_PAGES → IsOwned old new v
unfolding hold
owned_one old mid new v p tag same owns less = subst (λ (c : Content). IsOwned c new v) same (elim (cases_Bool (sole mid v p)) [
  | inl stays ↦
      let is = (owns.stays stays).0 in
      record {
        count = ap (λ (c : Content). c.count v) is;
        held = let kept = ap (λ (c : Content). held_from c v 0 VMO_PAGES) is in omega (arith, kept);
      }
  | inr goes ↦
      let is = (owns.copies goes).2 in
      record {
        count = ap (λ (c : Content). c.count v) is;
        held =
            let one = held-one mid v p (record { tag = tag; bytes = shown mid v p }) less in
            let now = ap (λ (c : Content). held_from c v 0 VMO_PAGES) is in
            omega (arith, one, now);
      }
])

-- a VMO of the greatest size that was just made, in a store that only got its page frames, and holds no page
pub record IsNew (c : Content) (v : ℕ) : Type 0 where
  pub count : c.count v ≡ Some VMO_PAGES
  pub none : held_from c v 0 VMO_PAGES ≡ 0

pub whole_made : (empty old new : Content) (frames v : ℕ) → empty ≡ nothing → old ≡ record empty { frames = frames } → new ≡ created old VMO_PAGES → v ≡ old.next → IsNew new v
unfolding created nothing held_from
whole_made empty old new frames v none filled is koid = record {
  count = ap (λ (c : Content). c.count v) is ∙ (ap (λ (w : ℕ). (created old VMO_PAGES).count w) koid ∙ with_key-same old.count old.next VMO_PAGES);
  none = count_below_none VMO_PAGES (λ k. is_held new v (0 + k)) (λ k less.
      ap (λ (page : Option Page). is_some page) (ap (λ (c : Content). c.page v (0 + k)) is ∙ (ap (λ (c : Content). c.page v (0 + k)) filled
      ∙ ap (λ (c : Content). c.page v (0 + k)) none)));
}

-- a VMO stays when pages of it become zero
pub still_there : (old new : Content) (v first end n : ℕ) → new ≡ zeroed old v first end → old.count v ≡ Some n → IsSome (new.count v)
unfolding zeroed
still_there old new v first end n is has = ap (λ (c : Content). is_some (c.count v)) is ∙ ap (λ (o : Option ℕ). is_some o) has

-- the first koid is still to come in a store that only got its page frames
pub fresh_next : (old new : Content) (frames : ℕ) → new ≡ record old { frames = frames } → old ≡ nothing → new.next ≡ 1
unfolding nothing
fresh_next old new frames is empty = ap (λ (c : Content). c.next) is ∙ ap (λ (c : Content). c.next) empty
