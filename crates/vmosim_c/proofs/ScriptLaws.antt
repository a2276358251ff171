-- What the serving of a script over the caller's bytes says of one legal run.
use Rattle.std.proofs.Common.{◌≡◌, ℕ, zero, suc, ◌+◌, ◌≤◌, ◌==◌, ◌⊎◌, inl, inr, Bool, true, false, cond, List, [], ◌∷◌, ◌++◌, length, take, drop, Option, Some, refl, sym, ap, subst, ◌∙◌, append_assoc, append-nil, take_all, take_at, drop_at, arith}
use Rattle.std.specs.Prelude.{slice_get, ◌↔◌}
use Rattle.std.proofs.lemmas.List.{length-append}
use Rattle.vm_base.proofs.EntryLaws.{some_same}
use Rattle.vm_model.specs.Contents.Content.{Content}
use Rattle.vm_model.specs.Machine.Machine.{Machine}
use Rattle.vm_model.specs.Scripts.Run.{onto_first, lines_of, before_whole, whole_lines, Legal}
use Rattle.script_io.specs.Faults.{HasFailed}
use Rattle.script_io.specs.Memory.{Lent, lent_bytes, lent_contents, lent_faults}
use Rattle.script_io.proofs.Lending.{same_name, same_before, is_taken, is_full, lent_full}
use Rattle.script_io.specs.declared.status.Status.{Status}
use Rattle.script_io.specs.declared.status.Status.TheVariants.{Done, Usage, HostMemory, ReadFault, WriteFault, ScriptLimit}
use Rattle.line_server.specs.Answering.{AnsweringRun}
use Rattle.line_server.specs.Outcome.{AnswersPart, BreaksOff, EndsAs}
use Rattle.line_server.proofs.RunLaws.{AnsweringRun-more}
use Rattle.vm_session.specs.Plain.{plain}
use Rattle.vmosim_c.specs.Kept.{IsRun, IsLongRun}

-- ---- the lines of a script

-- the rest of a list behind a place where something stands
item_apart : {X : Type 0} (xs : List X) (k : ℕ) (x : X) → slice_get xs k ≡ Some x → (rest : List X) × (xs ≡ take k xs ++ (x ∷ rest))
item_apart [] k x at = absurd cc
item_apart (y ∷ ys) zero x at = (ys, ap (λ z. z ∷ ys) (some_same at))
item_apart (y ∷ ys) (suc k) x at = let rest = item_apart ys k x at in (rest.0, ap (λ zs. y ∷ zs) rest.1)

-- a byte before the first of some lines, which are the front of others
onto_front : (b : ℕ) (front lines behind : List (List ℕ)) → lines ≡ front ++ behind → (t : Bool)
    → (rest : List (List ℕ)) × (cond t ([] ∷ lines) (onto_first b lines) ≡ cond t ([] ∷ front) (before_whole b front) ++ rest)
onto_front b front lines behind same true = (behind, ap (λ ls. [] ∷ ls) same)
onto_front b [] lines behind same false = (onto_first b lines, refl)
onto_front b (line ∷ front) lines behind same false = (behind, ap (onto_first b) same)

-- the lines that a line feed ends come first, whatever stands behind them
whole_lines-front : (bytes behind : List ℕ) → (rest : List (List ℕ)) × (lines_of (bytes ++ behind) ≡ whole_lines bytes ++ rest)
unfolding lines_of whole_lines
whole_lines-front [] behind = (lines_of behind, refl)
whole_lines-front (b ∷ bytes) behind =
    let rest = whole_lines-front bytes behind in onto_front b (whole_lines bytes) (lines_of (bytes ++ behind)) rest.0 rest.1 (b == 10)

-- ---- how serving ends, over a sink that had taken nothing

-- what `answered_lines_are_a_legal_run` says
abbrev RunsAreLegal : Type 0
RunsAreLegal = (frames : ℕ) (lines : List (List ℕ)) (out : List ℕ) (last : Machine) → AnsweringRun plain (plain.start frames) lines out last ↔ Legal frames lines out last

module _ (legal : RunsAreLegal) (frames limit : ℕ) (script left : List ℕ) (was now : Lent) (none : was.taken ≡ []) (content : Content) where
  long_part : (lines behind : List (List ℕ)) → lines_of script ≡ lines ++ behind
      → AnswersPart plain frames lines (Some (lent_contents was)) (Some (lent_contents now)) content
      → (now.name ≡ was.name) × (now.before ≡ was.before) × IsLongRun frames script now.taken
  long_part lines behind front some =
      let apart = item_apart lines some.answered some.line some.next in
      let done = take some.answered lines in
      let out : now.taken ≡ some.before ++ some.part = is_taken was now (some.before ++ some.part) none some.written in
      let text : some.before ++ some.text ≡ now.taken ++ some.rest = ap (λ xs. some.before ++ xs) some.cut
      ∙ (sym (append_assoc some.before some.part some.rest) ∙ ap (λ xs. xs ++ some.rest) (sym out)) in
      let run = AnsweringRun-more plain (plain.start frames) some.mid some.last done some.line some.before some.text some.run some.gives in (
        same_name was now (some.before ++ some.part) none some.written,
        same_before was now (some.before ++ some.part) none some.written,
        record {
          lines = done ++ some.line ∷ [];
          behind = apart.0 ++ behind;
          first = front ∙ (ap (λ ls. ls ++ behind) apart.1 ∙ (append_assoc done (some.line ∷ apart.0) behind
              ∙ sym (append_assoc done (some.line ∷ []) (apart.0 ++ behind))));
          rest = some.rest;
          left = some.left;
          last = some.last;
          legal = subst (λ xs. Legal frames (done ++ some.line ∷ []) xs some.last) text ((legal frames (done ++ some.line ∷ []) (some.before ++ some.text) some.last).0 run);
        },
      )

  long_run : length script ≤ limit
      → BreaksOff (λ lines. AnswersPart plain frames lines (Some (lent_contents was)) (Some (lent_contents now)) content) limit (Some script) (Some left)
      → (now.name ≡ was.name) × (now.before ≡ was.before) × IsLongRun frames script now.taken
  long_run enough broken = elim broken.answers [
    | inl some ↦
        let parts : length script ≡ length broken.script + length left = ap length broken.given ∙ length-append broken.script left in
        let short : length broken.script ≤ limit = omega (arith, parts, enough) in
        let front = whole_lines-front broken.script left in
        long_part (whole_lines broken.script) front.0 (ap lines_of broken.given ∙ front.1)
        (subst (λ xs. AnswersPart plain frames (whole_lines xs) (Some (lent_contents was)) (Some (lent_contents now)) content) (take_all limit broken.script short) some)
    | inr last ↦
        let whole : script ≡ broken.script = broken.given ∙ (ap (λ xs. broken.script ++ xs) last.1 ∙ append-nil broken.script) in
        long_part (lines_of broken.script) [] (ap lines_of whole ∙ sym (append-nil (lines_of broken.script))) last.0
  ]

-- ---- of a script that was served into a sink over the caller's bytes, which are now what the sink leaves
module _ (legal : RunsAreLegal) (frames limit : ℕ) (script source left before : List ℕ) (name : ℕ) (was now : Lent) (status : Status) (content : Content)
    (given : source ≡ script) (begun : was ≡ record { name = name; before = before; taken = []; faults = 0 })
    (ends : EndsAs plain status frames limit (Some source) (Some left) (Some (lent_contents was)) (Some (lent_contents now)) content) where
  none : was.taken ≡ []
  none = ap (λ (s : Lent). s.taken) begun

  were : was.before ≡ before
  were = ap (λ (s : Lent). s.before) begun

  as_status : (is : Status) → status ≡ is
      → EndsAs plain is frames limit (Some script) (Some left) (Some (lent_contents was)) (Some (lent_contents now)) content
  as_status is same = subst (λ (xs : List ℕ). EndsAs plain is frames limit (Some xs) (Some left) (Some (lent_contents was)) (Some (lent_contents now)) content) given
      (subst (λ (s : Status). EndsAs plain s frames limit (Some source) (Some left) (Some (lent_contents was)) (Some (lent_contents now)) content) same ends)

  -- ---- and of the caller's bytes, which the sink gave back
  module _ (kept : List ℕ) (kept_name : ℕ) (after : List ℕ) (same : kept_name ≡ now.name) (held : kept ≡ lent_bytes now) (ends_as : name ≡ kept_name → after ≡ kept) where
    ended : now.name ≡ was.name → after ≡ lent_bytes now
    ended still = ends_as (sym (still ∙ ap (λ (s : Lent). s.name) begun) ∙ sym same) ∙ held

    -- the text of the whole script stands at the front of the bytes
    pub whole_run : (n : ℕ) → n ≡ length now.taken → status ≡ Done → IsRun n frames script before after
    whole_run n many is =
        let done = as_status Done is in
        let all = done.answers in
        let whole : done.script ≡ script = sym (done.given ∙ (ap (λ xs. done.script ++ xs) done.ended ∙ append-nil done.script)) in
        let out : now.taken ≡ all.out = is_taken was now all.out none all.written in
        let behind = drop n now.before in
        let bytes : after ≡ now.taken ++ behind = ended (same_name was now all.out none all.written) ∙ ap (λ k. now.taken ++ drop k now.before) (sym many) in
        let added : length after ≡ length now.taken + length behind = ap length bytes ∙ length-append now.taken behind in
        let front : take n after ≡ all.out = ap (take n) bytes ∙ (take_at now.taken behind n (sym many) ∙ out) in
        record {
          last = all.last;
          bound = omega (arith, added, many);
          legal = subst (λ xs. Legal frames (lines_of script) xs all.last) (sym front)
              (subst (λ xs. Legal frames (lines_of xs) all.out all.last) whole ((legal frames (lines_of done.script) all.out all.last).0 all.run));
          kept = ap (drop n) bytes ∙ (drop_at now.taken behind n (sym many) ∙ ap (drop n) (same_before was now all.out none all.written ∙ were));
        }

    -- the text of the script is longer than the bytes, which have the front of it
    pub longer_run : status ≡ WriteFault → length script ≤ limit → HasFailed (lent_faults was) (lent_faults now) → length now.taken ≤ length now.before
        → IsLongRun frames script after × (length after ≡ length before)
    longer_run is enough failed bound =
        let long = long_run legal frames limit script left was now none content enough (as_status WriteFault is) in
        let full = is_full was now (ap (λ (s : Lent). s.faults) begun) failed in
        let many : length now.taken ≡ length now.before = omega (arith, full, bound) in
        let whole : after ≡ now.taken = ended long.0 ∙ lent_full now many in
        (subst (IsLongRun frames script) (sym whole) long.2, ap length whole ∙ (many ∙ ap length (long.1 ∙ were)))

    -- nothing was done
    pub nothing_done : status ≡ HostMemory → after ≡ before
    nothing_done is =
        let nothing = as_status HostMemory is in
        let written = some_same nothing.written ∙ sym (append-nil (lent_contents was)) in
        ended (same_name was now [] none written)
        ∙ (ap (λ xs. xs ++ drop (length xs) now.before) (is_taken was now [] none written) ∙ (same_before was now [] none written ∙ were))

-- no script is served otherwise: its source never fails, and it is no longer than the limit
pub ends_otherwise : (frames limit : ℕ) (script left : List ℕ) (sink_old sink_new : Option (List ℕ)) (status : Status) (content : Content)
    → length script ≤ limit → EndsAs plain status frames limit (Some script) (Some left) sink_old sink_new content → (status ≡ ReadFault → HasFailed 0 0)
    → (status ≡ Usage) ⊎ ((status ≡ ReadFault) ⊎ (status ≡ ScriptLimit)) → ⊥
ends_otherwise frames limit script left sink_old sink_new status content enough ends read (inl is) =
    subst (λ (s : Status). EndsAs plain s frames limit (Some script) (Some left) sink_old sink_new content) is ends
ends_otherwise frames limit script left sink_old sink_new status content enough ends read (inr (inl is)) =
    elim (read is) [ inl less ↦ absurd (omega (arith, less)) | inr most ↦ absurd (omega (arith, most)) ]
ends_otherwise frames limit script left sink_old sink_new status content enough ends read (inr (inr is)) =
    let over = subst (λ (s : Status). EndsAs plain s frames limit (Some script) (Some left) sink_old sink_new content) is ends in
    let parts : length script ≡ length over.script + length left = ap length over.given ∙ length-append over.script left in
    omega (arith, parts, over.long, enough)
