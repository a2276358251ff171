-- Why an access is refused, by what refuses it on each page.
use Rattle.std.proofs.Common.{◌≡◌, ℕ, ◌<◌, List, [], ◌∷◌, Option, None, Some, refl, arith}
use Rattle.std.proofs.lemmas.Grind.{common_steps}
use Rattle.std.proofs.lemmas.Bool.Decides.{nat_tests}
use Rattle.vm_base.specs.declared.refusal.Refusal.{Refusal}
use Rattle.vm_model.specs.declared.space.Entry.{Entry}
use Rattle.vm_model.specs.Contents.Content.{Content, pages_of}
use Rattle.vm_model.specs.Machine.Access.{refusal_at, access_refusal}

-- where nothing refuses it, the page that the entry shows lies in its VMO
pub below-free : (c : Content) (right : ℕ) (entry : Entry) → refusal_at c right (Some entry) ≡ None → entry.page < pages_of c entry.koid.0
unfolding refusal_at
below-free c right entry free = grind (arith, common_steps, nat_tests)

module _ (c : Content) (right : ℕ) (entries : ℕ → Option Entry) (p : ℕ) (ps : List ℕ) where
  -- the first page that is refused decides
  pub access_refusal-here : (refusal : Refusal) → refusal_at c right (entries p) ≡ Some refusal
      → access_refusal c right entries (p ∷ ps) ≡ Some refusal
  unfolding access_refusal
  access_refusal-here refusal is = rw is refl

  -- and one that is not leaves it to those behind it
  pub access_refusal-behind : refusal_at c right (entries p) ≡ None → access_refusal c right entries (p ∷ ps) ≡ access_refusal c right entries ps
  unfolding access_refusal
  access_refusal-behind free = rw free refl

-- no page is refused
pub access_refusal-nil : (c : Content) (right : ℕ) (entries : ℕ → Option Entry) → access_refusal c right entries [] ≡ None
unfolding access_refusal
access_refusal-nil c right entries = refl
