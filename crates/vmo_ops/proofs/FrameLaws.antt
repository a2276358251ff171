-- Laws of owning pages in a row and answering their frames.
use Rattle.std.proofs.Common.{[], ◌≡◌, ◌≢◌, ℕ, zero, suc, ◌+◌, ◌-◌, ◌<◌, ◌≤◌, List, ◌∷◌, ◌++◌, length}
use Rattle.std.proofs.Common.{map, take, refl, sym, ap, ◌∙◌, arith}
use Rattle.std.specs.List.{range_with_len}
use Rattle.std.proofs.Math.ListN.{set}
use Rattle.std.proofs.lemmas.Grind.{take-set_at}
use Rattle.std.proofs.lemmas.List.FromFn.{map-range_with_len_more}
use Rattle.vm_model.specs.Contents.Content.{Content}
use Rattle.vm_model.specs.Machine.Step.{frame_of}
use Rattle.vm_model.specs.Contents.Content.{IsGood, pages_of}
use Rattle.vm_model.specs.Contents.Owning.{Owns}
use Rattle.vm_model.proofs.OwningLaws.{Owned-from_Owns}

-- the frames of n pages of v from one on
abbrev pub frames_in : Content → ℕ → ℕ → ℕ → List ℕ
frames_in c v first n = map (λ p. frame_of (c.page v p)) (range_with_len first n)

-- of these numbers the first are the frames of the pages from first to below p
pub record AreFrames (c : Content) (v first p : ℕ) (numbers : List ℕ) : Type 0 where
  pub are : take (p - first) numbers ≡ frames_in c v first (p - first)

pub AreFrames-start : (c : Content) (v first : ℕ) (numbers : List ℕ) → AreFrames c v first first numbers
AreFrames-start = grind (arith)

-- pages in a row that stay have the same frames
frames_in-same : (c d : Content) (v first n : ℕ) → ((p : ℕ) → first ≤ p → p < first + n → c.page v p ≡ d.page v p)
    → frames_in c v first n ≡ frames_in d v first n
frames_in-same c d v first zero same = refl
frames_in-same c d v first (suc n) same =
    let head : frame_of (c.page v first) ≡ frame_of (d.page v first) =
    ap frame_of (same first (omega arith) (omega arith)) in
    let tail : frames_in c v (first + 1) n ≡ frames_in d v (first + 1) n =
    frames_in-same c d v (first + 1) n (λ p low high. same p (omega arith) (omega arith)) in
    λ i. head i ∷ tail i

-- the next page is owned, and the frames of those before stay
pub AreFrames-step : {now mid : Content} {v first p tag number : ℕ} {numbers : List ℕ} → first ≤ p
    → p - first < length numbers → IsGood now → p < pages_of now v → Owns now mid v p tag → number ≡ tag
    → AreFrames now v first p numbers → AreFrames mid v first (p + 1) (set numbers (p - first) number)
unfolding frame_of
AreFrames-step {now} {mid} {v} {first} {p} {tag} {number} {numbers} h room good below owns same frames =
    let owned = Owned-from_Owns now mid v p tag good below owns in
    let n : (p + 1) - first ≡ (p - first) + 1 = omega arith in
    let kept : frames_in now v first (p - first) ≡ frames_in mid v first (p - first) =
    frames_in-same now mid v first (p - first) (λ q low high. let apart : q ≢ p = omega arith
    in sym (owned.other_page q apart)) in
    let last : number ≡ frame_of (mid.page v p) = same ∙ sym (ap frame_of owned.held) in
    record {
      are = take-set_at numbers (p - first) ((p + 1) - first) number n room
          ∙ ((λ i. (frames.are ∙ kept) i ++ last i ∷ [])
          ∙ (sym (map-range_with_len_more (λ q. frame_of (mid.page v q)) first (p - first) p (omega arith))
          ∙ sym (ap (frames_in mid v first) n)));
    }
