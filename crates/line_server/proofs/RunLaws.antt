-- Laws of lines and runs.
use Rattle.std.proofs.Common.{◌≡◌, ◌≢◌, ℕ, suc, ◌<◌, cond, List, [], ◌∷◌, ◌++◌, length, get_or, refl, sym, ap, subst, ◌∙◌, append_assoc, append-nil, arith}
use Rattle.vm_model.specs.Scripts.Run.{onto_first, lines_of, before_whole, whole_lines}
use Rattle.line_server.specs.Answering.{Answering, AnsweringRun}
use Rattle.vm_base.proofs.SearchLaws.{eqb_apart}

-- no byte is a line feed
abbrev pub HasNoFeed : List ℕ → Type 0
HasNoFeed line = (k : ℕ) → k < length line → get_or line k 0 ≢ 10

-- a line that a line feed ends, and the lines behind it
pub lines_of-line : (line rest : List ℕ) → HasNoFeed line → lines_of (line ++ 10 ∷ rest) ≡ line ∷ lines_of rest
unfolding lines_of
lines_of-line [] rest h = refl
lines_of-line (b ∷ line) rest h =
    ap (λ t. cond t ([] ∷ lines_of (line ++ 10 ∷ rest)) (onto_first b (lines_of (line ++ 10 ∷ rest)))) (eqb_apart b 10 (h 0 (omega arith)))
    ∙ ap (onto_first b) (lines_of-line line rest (λ k l. h (suc k) (omega arith)))

-- a last piece
pub lines_of-last : (b : ℕ) (line : List ℕ) → HasNoFeed (b ∷ line) → lines_of (b ∷ line) ≡ (b ∷ line) ∷ []
unfolding lines_of
lines_of-last b [] h = ap (λ t. cond t ([] ∷ []) (onto_first b [])) (eqb_apart b 10 (h 0 (omega arith)))
lines_of-last b (c ∷ line) h =
    ap (λ t. cond t ([] ∷ lines_of (c ∷ line)) (onto_first b (lines_of (c ∷ line)))) (eqb_apart b 10 (h 0 (omega arith)))
    ∙ ap (onto_first b) (lines_of-last c line (λ k l. h (suc k) (omega arith)))

pub lines_of-nil : lines_of [] ≡ []
unfolding lines_of
lines_of-nil = refl

-- the same of the lines that a line feed ends
pub whole_lines-line : (line rest : List ℕ) → HasNoFeed line → whole_lines (line ++ 10 ∷ rest) ≡ line ∷ whole_lines rest
unfolding whole_lines
whole_lines-line [] rest h = refl
whole_lines-line (b ∷ line) rest h =
    ap (λ t. cond t ([] ∷ whole_lines (line ++ 10 ∷ rest)) (before_whole b (whole_lines (line ++ 10 ∷ rest)))) (eqb_apart b 10 (h 0 (omega arith)))
    ∙ ap (before_whole b) (whole_lines-line line rest (λ k l. h (suc k) (omega arith)))

pub whole_lines-none : (line : List ℕ) → HasNoFeed line → whole_lines line ≡ []
unfolding whole_lines
whole_lines-none [] h = refl
whole_lines-none (b ∷ line) h =
    ap (λ t. cond t ([] ∷ whole_lines line) (before_whole b (whole_lines line))) (eqb_apart b 10 (h 0 (omega arith)))
    ∙ ap (before_whole b) (whole_lines-none line (λ k l. h (suc k) (omega arith)))

-- a piece that is not empty and has no line feed is one line
pub lines_of-piece : (piece : List ℕ) → 0 < length piece → HasNoFeed piece → lines_of piece ≡ piece ∷ []
lines_of-piece [] some h = absurd (omega arith)
lines_of-piece (b ∷ piece) some h = lines_of-last b piece h

-- a run, and one line more
pub AnsweringRun-more : {S : Type 0} (m : Answering S) (old mid new : S) (lines : List (List ℕ)) (line : List ℕ) (before now : List ℕ) → AnsweringRun m old lines before mid → m.Gives line mid now new → AnsweringRun m old (lines ++ line ∷ []) (before ++ now) new
AnsweringRun-more m old mid new [] line before now run gives =
    let here = subst (λ s. m.Gives line s now new) run.1 gives in
    let all : before ++ now ≡ now ++ [] = ap (λ (rs : List ℕ). rs ++ now) run.0 ∙ sym (append-nil now) in
    (new, now, [], here, (refl, refl), all)
AnsweringRun-more m old mid new (first ∷ lines) line before now run gives =
    let rest = AnsweringRun-more m run.0 mid new lines line run.2 now run.4 gives in
    let all : before ++ now ≡ run.1 ++ (run.2 ++ now) = ap (λ (rs : List ℕ). rs ++ now) run.5 ∙ append_assoc run.1 run.2 now in
    (run.0, run.1, run.2 ++ now, run.3, rest, all)
