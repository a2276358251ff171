-- Laws of permutations: a map of some numbers below a bound to others below it, one to one, is part of a permutation of them all.
use Rattle.std.proofs.Common.{◌≡◌, ℕ, zero, suc, ◌<◌, ◌≤◌, Bool, true, refl, sym, ap, ◌∙◌, inl, inr, arith}
use Rattle.std.proofs.lemmas.Bool.{cases_Bool}
use Rattle.vm_base.proofs.SearchLaws.{below_next}
use Rattle.moving_model.specs.Renaming.{Renaming, KeepsFrom}
use Rattle.moving_model.proofs.NumberLaws.{no_renaming, to_once, to_below}
use Rattle.moving_model.proofs.RunLaws.{and_then}
use Rattle.moving_model.proofs.ExchangeLaws.{exchange, exchange_keeps, exchanged-first, exchanged-other}

-- a permutation of the numbers below the bound that does what f does to those below k that pass
record Extends (bound : ℕ) (test : ℕ → Bool) (f : ℕ → ℕ) (k : ℕ) : Type 0 where
  pub by : Renaming
  pub within : KeepsFrom by bound
  pub does : (t : ℕ) → t < k → test t ≡ true → by.to t ≡ f t

module _ (bound : ℕ) (test : ℕ → Bool) (f : ℕ → ℕ) (low : (t : ℕ) → t < bound → test t ≡ true → f t < bound)
    (one : (t u : ℕ) → t < bound → u < bound → test t ≡ true → test u ≡ true → f t ≡ f u → t ≡ u) where
  extends_to : (k : ℕ) → k ≤ bound → Extends bound test f k
  extends_to zero h = record { by = no_renaming; within = λ t h. refl; does = λ t h e. absurd (omega arith) }
  extends_to (suc k) h =
      let before = extends_to k (omega arith) in
      elim (cases_Bool (test k)) [
        | inr off ↦ record {
          by = before.by;
          within = before.within;
          does = λ t l e. elim (below_next t k l) [
            | inl same ↦ absurd (let here = ap test same in cc)
            | inr less ↦ before.does t less e
          ];
        }
        | inl on ↦
            let u = before.by.to k in
            let w = f k in
            record {
              by = and_then before.by (exchange u w);
              within = λ t l. ap (exchange u w).to (before.within t l) ∙ exchange_keeps u w bound (to_below before.by bound k before.within (omega (arith, h))) (low k (omega (arith, h)) on) t l;
              does = λ t l e. elim (below_next t k l) [
                | inl same ↦ ap (λ (j : ℕ). (exchange u w).to (before.by.to j)) same ∙ (exchanged-first u w ∙ ap f (sym same))
                | inr less ↦
                    let is = before.does t less e in
                    exchanged-other u w (before.by.to t) (λ same. let meet = to_once before.by t k same in omega (arith, less, meet))
                    (λ same. let meet = one t k (omega (arith, less, h)) (omega (arith, h)) e on (sym is ∙ same) in omega (arith, less, meet)) ∙ is
              ];
            }
      ]

  pub extends : (by : Renaming) × KeepsFrom by bound × ((t : ℕ) → t < bound → test t ≡ true → by.to t ≡ f t)
  extends = let all = extends_to bound (omega arith) in (all.by, all.within, all.does)
