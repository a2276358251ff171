-- What the frames show, where some of them are marked blank.
use Rattle.std.proofs.Common.{◌≡◌, ℕ, zero, suc, ◌+◌, ◌-◌, ◌<◌, ◌≤◌, Bool, true, false, cond, List, [], ◌∷◌, ◌++◌, length, get_or, set, take, drop, replicate, refl, sym, ap, ◌∙◌, arith}
use Rattle.std.proofs.lemmas.List.{append-nil, length-replicate, take-replicate, drop-replicate, drop_all}
use Rattle.vm_base.specs.declared.limits.TheConstants.{PAGE}
use Rattle.vm_base.specs.Pages.{zeros, replaced}
use Rattle.frame_pool.specs.inside.PoolFields.{frames_shown}

pub length-shown : (frames : List (List ℕ)) (marks : List Bool) → length (frames_shown frames marks) ≡ length frames
unfolding frames_shown
length-shown [] marks = refl
length-shown (frame ∷ frames) [] = refl
length-shown (frame ∷ frames) (mark ∷ marks) = let rest = length-shown frames marks in omega arith

pub none_shown : (marks : List Bool) → frames_shown [] marks ≡ []
unfolding frames_shown
none_shown marks = refl

-- one frame
pub get_or-shown : (frames : List (List ℕ)) (marks : List Bool) (t : ℕ) (frame : List ℕ) (mark : Bool) →
    t < length frames → length marks ≡ length frames →
    get_or (frames_shown frames marks) t frame ≡ cond (get_or marks t mark) zeros (get_or frames t frame)
unfolding frames_shown
get_or-shown [] marks t frame mark h same = absurd (omega arith)
get_or-shown (x ∷ xs) [] t frame mark h same = absurd (omega arith)
get_or-shown (x ∷ xs) (m ∷ ms) zero frame mark h same = refl
get_or-shown (x ∷ xs) (m ∷ ms) (suc t) frame mark h same =
    get_or-shown xs ms t frame mark (omega arith) (omega arith)

-- a marked frame is read
pub shown_blank : (frames : List (List ℕ)) (marks : List Bool) (t : ℕ) (mark : Bool) →
    t < length frames → length marks ≡ length frames → mark ≡ get_or marks t mark → mark ≡ true →
    zeros ≡ get_or (frames_shown frames marks) t zeros
shown_blank frames marks t mark h same read blank =
    sym (get_or-shown frames marks t zeros mark h same
    ∙ ap (λ (m : Bool). cond m zeros (get_or frames t zeros)) (sym read ∙ blank))

-- a frame without a mark is read
pub shown_plain : (frames : List (List ℕ)) (marks : List Bool) (t : ℕ) (frame : List ℕ) (mark : Bool) →
    t < length frames → length marks ≡ length frames → mark ≡ get_or marks t mark → mark ≡ false →
    frame ≡ get_or frames t frame → frame ≡ get_or (frames_shown frames marks) t frame
shown_plain frames marks t frame mark h same read plain is =
    sym (get_or-shown frames marks t frame mark h same
    ∙ ap (λ (m : Bool). cond m zeros (get_or frames t frame)) (sym read ∙ plain) ∙ sym is)

-- a frame is marked
pub frames_shown-marked : (frames : List (List ℕ)) (marks : List Bool) (t : ℕ) →
    length marks ≡ length frames → frames_shown frames (set marks t true) ≡ set (frames_shown frames marks) t zeros
unfolding frames_shown
frames_shown-marked [] marks t same = refl
frames_shown-marked (x ∷ xs) [] t same = absurd (omega arith)
frames_shown-marked (x ∷ xs) (m ∷ ms) zero same = refl
frames_shown-marked (x ∷ xs) (m ∷ ms) (suc t) same =
    ap (λ (rest : List (List ℕ)). cond m zeros x ∷ rest) (frames_shown-marked xs ms t (omega arith))

-- a frame gets other bytes, and no mark
pub frames_shown-unmarked : (frames : List (List ℕ)) (marks : List Bool) (t : ℕ) (frame : List ℕ) →
    length marks ≡ length frames →
    frames_shown (set frames t frame) (set marks t false) ≡ set (frames_shown frames marks) t frame
unfolding frames_shown
frames_shown-unmarked [] marks t frame same = refl
frames_shown-unmarked (x ∷ xs) [] t frame same = absurd (omega arith)
frames_shown-unmarked (x ∷ xs) (m ∷ ms) zero frame same = refl
frames_shown-unmarked (x ∷ xs) (m ∷ ms) (suc t) frame same =
    ap (λ (rest : List (List ℕ)). cond m zeros x ∷ rest) (frames_shown-unmarked xs ms t frame (omega arith))

-- a frame without a mark gets other bytes
pub frames_shown-written : (frames : List (List ℕ)) (marks : List Bool) (t : ℕ) (frame : List ℕ) (mark : Bool) →
    t < length frames → length marks ≡ length frames → mark ≡ get_or marks t mark → mark ≡ false →
    frames_shown (set frames t frame) marks ≡ set (frames_shown frames marks) t frame
unfolding frames_shown
frames_shown-written [] marks t frame mark h same read plain = absurd (omega arith)
frames_shown-written (x ∷ xs) [] t frame mark h same read plain = absurd (omega arith)
frames_shown-written (x ∷ xs) (m ∷ ms) zero frame mark h same read plain =
    ap (λ (b : Bool). cond b zeros frame ∷ frames_shown xs ms) (sym read ∙ plain)
frames_shown-written (x ∷ xs) (m ∷ ms) (suc t) frame mark h same read plain =
    ap (λ (rest : List (List ℕ)). cond m zeros x ∷ rest)
    (frames_shown-written xs ms t frame mark (omega arith) (omega arith) read plain)

-- one more frame, without a mark
pub frames_shown-pushed : (frames : List (List ℕ)) (marks : List Bool) (frame : List ℕ) →
    length marks ≡ length frames →
    frames_shown (frames ++ frame ∷ []) (marks ++ false ∷ []) ≡ frames_shown frames marks ++ frame ∷ []
unfolding frames_shown
frames_shown-pushed [] [] frame same = refl
frames_shown-pushed [] (m ∷ ms) frame same = absurd (omega arith)
frames_shown-pushed (x ∷ xs) [] frame same = absurd (omega arith)
frames_shown-pushed (x ∷ xs) (m ∷ ms) frame same =
    ap (λ (rest : List (List ℕ)). cond m zeros x ∷ rest) (frames_shown-pushed xs ms frame (omega arith))

-- ---- the bytes of a blank frame

-- a part of it
pub part_of_zeros : (at n : ℕ) → at + n ≤ PAGE → take n (drop at zeros) ≡ replicate n 0
unfolding zeros
part_of_zeros at n h = ap (take n) (drop-replicate at PAGE 0) ∙ take-replicate n (PAGE - at) 0 (omega arith)

-- a whole page is written to it
pub replaced-whole : (at : ℕ) (bytes : List ℕ) → at + length bytes ≤ PAGE → length bytes ≡ PAGE →
    replaced zeros at bytes ≡ bytes
unfolding replaced zeros
replaced-whole at bytes room whole =
    let first : at ≡ 0 = omega arith in
    ap (λ (k : ℕ). take k zeros ++ bytes ++ drop (at + length bytes) zeros) first
    ∙ ap (λ (behind : List ℕ). bytes ++ behind)
    (drop_all (at + length bytes) zeros (omega (arith, length-replicate {A = ℕ} PAGE 0)))
    ∙ append-nil bytes
