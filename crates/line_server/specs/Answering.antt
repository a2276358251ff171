-- Machines that answer the lines of a script by text.
use Rattle.std.specs.Prelude.{◌≡◌, ℕ, List, [], ◌∷◌, ◌++◌, codes}
use Rattle.vm_model.specs.Contents.Content.{Content}

-- What a machine is to whoever serves a script: its state with this many frames and nothing else, what its store contains in
-- a state, which states are good, and by which text a line may be answered from a state, with the state that follows.
pub record Answering (S : Type 0) : Type 1 where
  pub start : ℕ → S
  pub content : S → Content
  pub IsGood : S → Type 0
  pub Gives : List ℕ → S → List ℕ → S → Type 0

-- from old, the lines may be answered by this text and lead to new
abbrev pub AnsweringRun : {S : Type 0} → Answering S → S → List (List ℕ) → List ℕ → S → Type 0
AnsweringRun m old [] out new = (out ≡ []) × (new ≡ old)
AnsweringRun {S} m old (line ∷ lines) out new =
    (mid : S) × (now later : List ℕ) × m.Gives line old now mid × AnsweringRun m mid lines later new × (out ≡ now ++ later)

-- what a line outside the grammar is answered
abbrev pub syntax_text : List ℕ
syntax_text = codes "SYNTAX" ++ 10 ∷ []
