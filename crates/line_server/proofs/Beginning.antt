-- What a store contains before its first VMO, and how the serving of a script begins.
use Rattle.std.proofs.Common.{◌≡◌, ℕ, ◌≤◌, inl, inr, List, [], Option, refl, sym, ap, subst, ◌∙◌, arith}
use Rattle.std.proofs.KnownBytes.{Consumes-nil}
use Rattle.vm_model.specs.Contents.Content.{Content, nothing}
use Rattle.script_io.specs.Faults.{HasFailed}
use Rattle.script_io.specs.Reader.{Reader}
use Rattle.script_io.specs.Fetching.{IsPending}
use Rattle.line_server.specs.Outcome.{NothingDone}
use Rattle.line_server.specs.Reading.{LineTurns}
use Rattle.line_server.specs.Serving.{IsBeingRead, IsReady, fresh}
use Rattle.line_server.proofs.Served.{AreLines-none}

-- nothing was done to a store that contains nothing
pub NothingDone-yet : (source sink : Option (List ℕ)) (c d : Content) → c ≡ d → d ≡ nothing → NothingDone source source sink sink c
unfolding nothing
NothingDone-yet source sink c d same e = record {
  read = refl;
  written = refl;
  store = record {
    none = λ v. ap (λ (d : Content). d.count v) (same ∙ e);
    no_page = λ v p. ap (λ (d : Content). d.page v p) (same ∙ e);
  };
}

-- what a store with nothing but frames contains
pub filled_is : (frames : ℕ) (new old : Content) → new ≡ record old { frames = frames } → old ≡ nothing → new ≡ record nothing { frames = frames }
filled_is frames new old filled e = filled ∙ ap (λ (c : Content). record c { frames = frames }) e

pub IsPending-fresh : (limit : ℕ) (source : Option (List ℕ)) → IsPending (fresh limit) source []
IsPending-fresh limit source = record { front = []; no_feed = λ k d l. absurd (omega (arith, l)); size = refl; parts = refl; at_end = λ e. absurd cc }

-- no line was read yet
pub IsBeingRead-fresh : {S : Type 0} (t : LineTurns S) (limit : ℕ) (reader : Reader) (source : Option (List ℕ)) (now : S) → reader ≡ fresh limit → IsBeingRead t limit reader source source now now
IsBeingRead-fresh t limit reader source now e = subst (λ (r : Reader). IsBeingRead t limit r source source now now) (sym e) (record {
  front = [];
  pending = [];
  lines = [];
  given = Consumes-nil source;
  still = IsPending-fresh limit source;
  bounded = refl;
  taken = refl;
  within = omega arith;
  split = inl AreLines-none;
  all = refl;
})

pub IsReady-fresh : (limit : ℕ) (reader : Reader) (source : Option (List ℕ)) (count : ℕ) → reader ≡ fresh limit → count ≤ 1 → IsReady reader source count
IsReady-fresh limit reader source count e few = subst (λ (r : Reader). IsReady r source count) (sym e) (record {
  pending = [];
  still = IsPending-fresh limit source;
  koids = omega arith;
})

-- the first koid of a store with nothing but frames
pub first_koid : (frames : ℕ) (c : Content) → c ≡ record nothing { frames = frames } → c.next ≡ 1
unfolding nothing
first_koid frames c e = ap (λ (d : Content). d.next) e

-- a fault that came later came since the start
pub HasFailed-earlier : (old mid new : ℕ) → old ≤ mid → HasFailed mid new → HasFailed old new
HasFailed-earlier old mid new le (inl lt) = inl (omega (arith, le, lt))
HasFailed-earlier old mid new le (inr e) = inr e
