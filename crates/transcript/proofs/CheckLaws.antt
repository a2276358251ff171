-- Laws of a checker, by what it waits for.
use Rattle.std.proofs.Common.{◌≡◌, ◌≢◌, ℕ, zero, suc, ◌+◌, ◌<◌, ◌≤◌, ◌^◌, Bool, true, false, List, [], ◌∷◌, ◌++◌, length, map, take, Option, None, Some, Result, Ok, Err, replicate, refl, sym, ap, subst, ◌∙◌, append_assoc, append-nil, arith}
use Rattle.std.specs.Prelude.{slice_get, MatchResult}
use Rattle.std.proofs.lemmas.Bool.{both_ways}
use Rattle.std.proofs.lemmas.List.{length-append, length-replicate}
use Rattle.vm_base.specs.declared.refusal.HostMemory.{HostMemory}
use Rattle.vm_base.proofs.EntryLaws.{some_same}
use Rattle.vm_model.specs.Machine.Words.{Reply}
use Rattle.vm_model.specs.declared.reply.Reply.TheVariants as Reply
use Rattle.vm_model.specs.declared.runs.Run.{Run}
use Rattle.vm_base.specs.declared.limits.TheConstants.{FRAMES, KOIDS}
use Rattle.vm_model.specs.Contents.Content.{nothing}
use Rattle.vm_model.specs.Language.Reading.{reading, Blank}
use Rattle.vm_model.specs.Language.Text.{reply_lines, run_line}
use Rattle.vm_model.specs.Machine.State.{empty_state}
use Rattle.vm_model.specs.Machine.Machine.{Machine, empty_machine}
use Rattle.vm_model.proofs.MachineLaws.{IsGoodMachine-empty}
use Rattle.moving_model.specs.Transcript.{Told, Asked, Answered, told, IsWhole, MayBegin, AllTold, AreWhole}
use Rattle.moving_model.specs.Following.{MayAnswer}
use Rattle.moving_model.proofs.FollowingLaws.{follows_begin, follows_blank, seen_begin, none_due}
use Rattle.checker_machine.specs.Machine.{checker_machine_of}
use Rattle.transcript.specs.declared.answering.Own.{Own}
use Rattle.transcript.specs.declared.answering.Heard.{Heard}
use Rattle.transcript.specs.declared.answering.Heard.TheVariants.{Begins, Never}
use Rattle.transcript.specs.declared.rooms.Rooms.{Rooms}
use Rattle.transcript.specs.declared.checker.Phase.{Phase}
use Rattle.transcript.specs.declared.checker.Phase.TheVariants.{Idle, Due, Listing}
use Rattle.transcript.specs.declared.checker.Checker.{Checker}
use Rattle.transcript.specs.declared.verdict.Verdict.{Verdict}
use Rattle.transcript.specs.declared.verdict.Verdict.TheVariants.{Fine, Illegal, Malformed}
use Rattle.transcript.specs.Checking.{Stands, IsDue, IsListing}
use Rattle.transcript.specs.Seen.{number_seen}
use Rattle.transcript.specs.Hearing.{OwnStands, IsHeard}
use Rattle.transcript.specs.Verdicts.{IsIn, HasTold, IsAt, HasRead, IsJudged, IsVerdict}
use Rattle.transcript.proofs.LineLaws.{all_told-more, all_told-length, possible_from, may_begin, whole_from, is_whole}
use Rattle.transcript.proofs.NumberLaws.{number_seen-empty}
use Rattle.transcript.proofs.TurnLaws.{reply_first, answered_same, due_next, listing_next, listing_may, due_may, stands_may}

-- ---- lists

heads : (a b : List ℕ) (xs ys : List (List ℕ)) → ◌≡◌ {A = List (List ℕ)} (a ∷ xs) (b ∷ ys) → a ≡ b
heads a b xs ys e = cc

tails : (a b : List ℕ) (xs ys : List (List ℕ)) → ◌≡◌ {A = List (List ℕ)} (a ∷ xs) (b ∷ ys) → xs ≡ ys
tails a b xs ys e = cc

-- ---- before the first line

empty_frames : (n : ℕ) → (empty_machine n).state.content.frames ≡ n
unfolding empty_machine empty_state nothing
empty_frames n = refl

empty_next : (n : ℕ) → (empty_machine n).state.content.next ≡ 1
unfolding empty_machine empty_state nothing
empty_next n = refl

pub fresh_stands : (frames : ℕ) (own : Machine) (numbers : ℕ → Option ℕ) → own ≡ empty_machine frames → numbers ≡ (λ t. None) → Stands frames own numbers []
fresh_stands frames own numbers is none = subst (λ (m : Machine). Stands frames m numbers []) (sym is) (subst (λ (f : ℕ → Option ℕ). Stands frames (empty_machine frames) f []) (sym none) (record {
  follows = follows_begin frames (λ t. None);
  good = IsGoodMachine-empty frames;
  seen = seen_begin frames;
  frames_are = frames_same frames;
  next = next_low frames;
})) where
  frames_same : (n : ℕ) → (empty_machine n).state.content.frames ≡ n
  frames_same n = empty_frames n

  next_low : (n : ℕ) → (empty_machine n).state.content.next ≤ length {A = Told} [] + 1
  next_low n = omega (arith, empty_next n)

-- ---- what comes next

get_at : (lines : List (List ℕ)) (count : ℕ) (line : List ℕ) (rest : List (List ℕ)) → count < length lines → lines ≡ take count lines ++ line ∷ rest → slice_get lines count ≡ Some line
get_at [] count line rest h e = absurd (omega (arith, h))
get_at (x ∷ lines) zero line rest h e = ap (λ (a : List ℕ). Some a) (heads x line lines rest e)
get_at (x ∷ lines) (suc count) line rest h e = get_at lines count line rest (omega (arith, h)) (tails x x lines (take count lines ++ line ∷ rest) e)

due_never : (frames : ℕ) (own : Machine) (numbers : ℕ → Option ℕ) (pending : List ℕ) (tells : List Told) (one : Told) → IsDue frames own numbers pending tells → MayBegin frames (tells ++ one ∷ [])
    → (first : List ℕ) × (one ≡ Answered first) × MayAnswer own numbers pending first
due_never frames own numbers pending tells one due begins =
    let shape : (tells ++ one ∷ []) ++ begins.rest ≡ (due.before ++ Asked pending ∷ []) ++ one ∷ begins.rest = append_assoc tells (one ∷ []) begins.rest ∙ ap (λ (ts : List Told). ts ++ one ∷ begins.rest) due.is in
    let next = due_next frames own numbers due.before pending (one ∷ begins.rest) begins.last due.stands.follows due.asks (subst (λ (ts : List Told). IsWhole frames ts begins.last) shape begins.whole) in
    (next.0, head_same one (Answered next.0) begins.rest next.1 next.2, next.3) where
      head_same : (a b : Told) (xs ys : List Told) → ◌≡◌ {A = List Told} (a ∷ xs) (b ∷ ys) → a ≡ b
      head_same a b xs ys e = cc

listing_never : (frames : ℕ) (own : Machine) (numbers : ℕ → Option ℕ) (pending : List ℕ) (reply : Reply) (count : ℕ) (tells : List Told) (one : Told) → IsListing frames own numbers pending reply count tells
    → MayBegin frames (tells ++ one ∷ []) → (line : List ℕ) × (one ≡ Answered line) × (slice_get (reply_lines reply) count ≡ Some line)
listing_never frames own numbers pending reply count tells one listing begins =
    let next = listing_next frames own numbers pending reply count tells listing (one ∷ begins.rest) begins.last
    (subst (λ (ts : List Told). IsWhole frames ts begins.last) (append_assoc tells (one ∷ []) begins.rest) begins.whole) in
    (next.0, head_same one (Answered next.0) begins.rest next.3 next.4, get_at (reply_lines reply) count next.0 next.1 listing.left next.2) where
      head_same : (a b : Told) (xs ys : List Told) → ◌≡◌ {A = List Told} (a ∷ xs) (b ∷ ys) → a ≡ b
      head_same a b xs ys e = cc

-- ---- what was read is possible

in_may : (p : Phase) (frames : ℕ) (checker : Checker) (tells : List Told) → IsIn p frames checker tells → MayBegin frames tells
in_may Idle frames checker tells stands = stands_may frames _ _ tells stands
in_may Due frames checker tells due = subst (λ (ts : List Told). MayBegin frames ts) (sym due.is) (due_may frames _ _ due.before checker.pending.items due.stands)
in_may Listing frames checker tells listing = listing_may frames _ _ checker.pending.items checker.listed checker.count tells listing

told_may : (b : Bool) (frames : ℕ) (checker : Checker) (tells : List Told) → HasTold b frames checker tells → MayBegin frames tells
told_may false frames checker tells h = subst (λ (ts : List Told). MayBegin frames ts) (sym h.0) (record { rest = []; last = empty_machine frames; whole = record { turns = []; run = refl; is = refl } })
told_may true frames checker tells h = in_may checker.phase frames checker tells h.1

pub at_may : (frames : ℕ) (checker : Checker) (tells : List Told) → IsAt frames checker tells → MayBegin frames tells
at_may frames checker tells is = told_may checker.filled frames checker tells is.has_told

-- ---- verdicts

pub judged_verdict : (frames : ℕ) (new : Checker) (lines : List (List ℕ)) (line : List ℕ) (tells : List Told) (one : Told) (v : Verdict) → AllTold lines tells → told line ≡ Some one → IsJudged frames new tells one v
    → IsVerdict frames lines line v × (v ≡ Fine → HasRead frames new (lines ++ line ∷ []))
judged_verdict frames new lines line tells one Fine all e judged =
    let more = all_told-more lines line tells one all e in
    (possible_from frames (lines ++ line ∷ []) (tells ++ one ∷ []) more (at_may frames new (tells ++ one ∷ []) judged), λ f. record { tells = tells ++ one ∷ []; told_are = more; is_at = judged })
judged_verdict frames new lines line tells one Illegal all e judged =
    ((λ f. absurd (let both = sym e ∙ f in cc), λ possible. judged (may_begin frames (lines ++ line ∷ []) (tells ++ one ∷ []) (all_told-more lines line tells one all e) possible)), λ f. absurd cc)
judged_verdict frames new lines line tells one Malformed all e judged = absurd judged

pub judged_result : (frames : ℕ) (new : Checker) (lines : List (List ℕ)) (line : List ℕ) (tells : List Told) (one : Told) (r : Result Verdict HostMemory) → AllTold lines tells → told line ≡ Some one
    → MatchResult r (λ v. IsJudged frames new tells one v) (λ lack. IsAt frames new tells)
    → MatchResult r (λ v. IsVerdict frames lines line v × (v ≡ Fine → HasRead frames new (lines ++ line ∷ []))) (λ lack. HasRead frames new lines)
judged_result frames new lines line tells one (Ok v) all e h = judged_verdict frames new lines line tells one v all e h
judged_result frames new lines line tells one (Err lack) all e h = record { tells = tells; told_are = all; is_at = h }

pub none_told : (line : List ℕ) → ((script : List ℕ) → told line ≢ Some (Asked script)) → ((reply : List ℕ) → told line ≢ Some (Answered reply)) → told line ≡ None
none_told line f g = go (told line) refl where
  go : (o : Option Told) → told line ≡ o → told line ≡ None
  go None e = e
  go (Some (Asked script)) e = absurd (f script e)
  go (Some (Answered reply)) e = absurd (g reply e)

-- ---- by the phase

-- what a checker that has its frames has been told
pub in_phase : (frames : ℕ) (checker : Checker) (tells : List Told) (p : Phase) → IsAt frames checker tells → checker.filled ≡ true → checker.phase ≡ p → (length checker.own.numbers ≡ frames) × IsIn p frames checker tells
in_phase frames checker tells p is filled phase =
    let h : HasTold true frames checker tells = subst (λ (b : Bool). HasTold b frames checker tells) filled is.has_told in
    (h.0, subst (λ (q : Phase). IsIn q frames checker tells) phase h.1)

pub idle_answered : (frames : ℕ) (checker : Checker) (tells : List Told) (line : List ℕ) → IsAt frames checker tells → checker.filled ≡ true → checker.phase ≡ Idle → MayBegin frames (tells ++ Answered line ∷ []) → ⊥
idle_answered frames checker tells line is filled phase begins = none_due frames _ _ tells line [] (in_phase frames checker tells Idle is filled phase).1.follows begins

pub due_asked : (frames : ℕ) (checker : Checker) (tells : List Told) (script : List ℕ) → IsAt frames checker tells → checker.filled ≡ true → checker.phase ≡ Due → MayBegin frames (tells ++ Asked script ∷ []) → ⊥
due_asked frames checker tells script is filled phase begins =
    let next = due_never frames _ _ checker.pending.items tells (Asked script) (in_phase frames checker tells Due is filled phase).1 begins in
    absurd (let e = next.1 in cc)

pub listing_asked : (frames : ℕ) (checker : Checker) (tells : List Told) (script : List ℕ) → IsAt frames checker tells → checker.filled ≡ true → checker.phase ≡ Listing → MayBegin frames (tells ++ Asked script ∷ []) → ⊥
listing_asked frames checker tells script is filled phase begins =
    let next = listing_never frames _ _ checker.pending.items checker.listed checker.count tells (Asked script) (in_phase frames checker tells Listing is filled phase).1 begins in
    absurd (let e = next.1 in cc)

pub blank_stands : (frames : ℕ) (own : Machine) (numbers : ℕ → Option ℕ) (tells : List Told) (line : List ℕ) → Stands frames own numbers tells → reading line ≡ Blank → Stands frames own numbers (tells ++ Asked line ∷ [])
blank_stands frames own numbers tells line stands e = record {
  follows = follows_blank frames own numbers tells line stands.follows e;
  good = stands.good;
  seen = stands.seen;
  frames_are = stands.frames_are;
  next = omega (arith, stands.next, length-append tells (Asked line ∷ []));
}

-- the own machine behind a line that is due
pub due_own : (frames : ℕ) (checker : Checker) (tells : List Told) → IsAt frames checker tells → (h : (length checker.own.numbers ≡ frames) × IsIn Due frames checker tells) → OwnStands frames checker.own h.1.before
due_own frames checker tells is h = record { stands = h.1.stands; size = h.0; few = is.few }

pub due_next_koid : (frames : ℕ) (own : Machine) (numbers : ℕ → Option ℕ) (pending : List ℕ) (tells : List Told) → IsDue frames own numbers pending tells → length tells < 2 ^ 63 → own.state.content.next < KOIDS
due_next_koid frames own numbers pending tells due h = omega (arith, due.stands.next, h, ap (λ (ts : List Told). length ts) due.is, length-append due.before (Asked pending ∷ []))

runs_length : (runs : List Run) → length (reply_lines (Reply.Runs runs)) ≡ suc (length runs)
unfolding reply_lines
runs_length runs = ap suc (length_map runs) where
  length_map : (rs : List Run) → length (map run_line rs) ≡ length rs
  length_map [] = refl
  length_map (r ∷ rs) = ap suc (length_map rs)

-- ---- what a checker is told then

pub at_from : (frames : ℕ) (checker : Checker) (tells : List Told) (p : Phase) → 1 ≤ frames → frames ≤ FRAMES → checker.frames ≡ frames → checker.filled ≡ true → checker.phase ≡ p → length checker.own.numbers ≡ frames
    → IsIn p frames checker tells → IsAt frames checker tells
at_from frames checker tells p some few are filled phase size told_in = record {
  some = some;
  few = few;
  frames_are = are;
  has_told = subst (λ (b : Bool). HasTold b frames checker tells) (sym filled) (size, subst (λ (q : Phase). IsIn q frames checker tells) (sym phase) told_in);
}

-- the frames were taken
pub filled_at : (frames : ℕ) (old : Checker) (tells : List Told) (own : Own) → IsAt frames old tells → old.filled ≡ false → checker_machine_of own.machine ≡ empty_machine old.frames → own.numbers ≡ replicate old.frames None
    → IsAt frames (record old { filled = true; own = own }) tells
filled_at frames old tells own is off machine numbers =
    let h : HasTold false frames old tells = subst (λ (b : Bool). HasTold b frames old tells) off is.has_told in
    let seen : number_seen own.numbers ≡ (λ t. None) = ap number_seen numbers ∙ (λ i t. number_seen-empty old.frames t i) in
    let stands = fresh_stands frames (checker_machine_of own.machine) (number_seen own.numbers) (machine ∙ ap empty_machine is.frames_are) seen in
    at_from frames (record old { filled = true; own = own }) tells Idle is.some is.few is.frames_are refl h.2 (ap (λ (xs : List (Option ℕ)). length xs) numbers ∙ (length-replicate old.frames None ∙ is.frames_are))
    (subst (λ (ts : List Told). Stands frames (checker_machine_of own.machine) (number_seen own.numbers) ts) (sym h.0) stands)

-- a line that says nothing
pub blank_at : (frames : ℕ) (old : Checker) (tells : List Told) (script : List ℕ) → IsAt frames old tells → old.filled ≡ true → old.phase ≡ Idle → reading script ≡ Blank
    → IsAt frames old (tells ++ Asked script ∷ [])
blank_at frames old tells script is filled phase e =
    let h = in_phase frames old tells Idle is filled phase in
    at_from frames old (tells ++ Asked script ∷ []) Idle is.some is.few is.frames_are filled phase h.0
    (blank_stands frames (checker_machine_of old.own.machine) (number_seen old.own.numbers) tells script h.1 e)

-- the first line of runs
pub begins_at : (frames : ℕ) (old : Own) (checker : Checker) (runs : List Run) (tells : List Told) (line : List ℕ) (heard : Heard) → heard ≡ Begins runs → 1 ≤ frames → frames ≤ FRAMES → checker.frames ≡ frames → checker.filled ≡ true
    → (due : IsDue frames (checker_machine_of old.machine) (number_seen old.numbers) checker.pending.items tells) → IsHeard frames old checker.own checker.pending.items due.before line heard
    → IsAt frames (record checker { phase = Listing; listed = Reply.Runs runs; count = 1 }) (tells ++ Answered line ∷ [])
begins_at frames old checker runs tells line heard e some few are filled due heard_so =
    let h : IsHeard frames old checker.own checker.pending.items due.before line (Begins runs) = subst (IsHeard frames old checker.own checker.pending.items due.before line) e heard_so in
    let first = reply_first (Reply.Runs runs) in
    let taken : take 1 (reply_lines (Reply.Runs runs)) ≡ line ∷ [] = ap (λ (ls : List (List ℕ)). take 1 ls) first.1 ∙ ap (λ (l : List ℕ). l ∷ []) h.1 in
    let size : length (reply_lines (Reply.Runs runs)) ≡ suc (length runs) = runs_length runs in
    at_from frames (record checker { phase = Listing; listed = Reply.Runs runs; count = 1 }) (tells ++ Answered line ∷ []) Listing some few are filled refl h.3 (record {
      before = due.before;
      answered = h.0;
      some = omega arith;
      left = omega (arith, size, h.2);
      is = ap (λ (ts : List Told). ts ++ Answered line ∷ []) due.is ∙ (append_assoc due.before (Asked checker.pending.items ∷ []) (Answered line ∷ [])
          ∙ ap (λ (ls : List (List ℕ)). due.before ++ Asked checker.pending.items ∷ map Answered ls) (sym taken));
    })

-- a line that never comes
pub never_at : (frames : ℕ) (old new : Own) (pending : List ℕ) (tells : List Told) (line : List ℕ) (heard : Heard) → heard ≡ Never → (due : IsDue frames (checker_machine_of old.machine) (number_seen old.numbers) pending tells)
    → IsHeard frames old new pending due.before line heard → MayBegin frames (tells ++ Answered line ∷ []) → ⊥
never_at frames old new pending tells line heard e due heard_so begins =
    let h : IsHeard frames old new pending due.before line Never = subst (IsHeard frames old new pending due.before line) e heard_so in
    let next = due_never frames (checker_machine_of old.machine) (number_seen old.numbers) pending tells (Answered line) due begins in
    h (subst (λ (l : List ℕ). MayAnswer (checker_machine_of old.machine) (number_seen old.numbers) pending l) (sym (answered_same next.1)) next.2)

-- ---- a reply of which a part was told

take_next : (lines : List (List ℕ)) (count : ℕ) (line : List ℕ) → slice_get lines count ≡ Some line → take (suc count) lines ≡ take count lines ++ line ∷ []
take_next [] count line e = absurd cc
take_next (x ∷ lines) zero line e = ap (λ (l : List ℕ). l ∷ []) (some_same e)
take_next (x ∷ lines) (suc count) line e = ap (λ (ls : List (List ℕ)). x ∷ ls) (take_next lines count line e)

take_end : (lines : List (List ℕ)) (n : ℕ) → n ≡ length lines → take n lines ≡ lines
take_end [] zero e = refl
take_end [] (suc n) e = absurd (omega (arith, e))
take_end (x ∷ lines) zero e = absurd (omega (arith, e))
take_end (x ∷ lines) (suc n) e = ap (λ (ls : List (List ℕ)). x ∷ ls) (take_end lines n (omega (arith, e)))

map_push : (xs : List (List ℕ)) (y : List ℕ) → map Answered xs ++ Answered y ∷ [] ≡ map Answered (xs ++ y ∷ [])
map_push [] y = refl
map_push (x ∷ xs) y = ap (λ (ts : List Told). Answered x ∷ ts) (map_push xs y)

-- one line more of it
told_next : (before : List Told) (pending : List ℕ) (lines : List (List ℕ)) (count : ℕ) (line : List ℕ) (tells : List Told) → tells ≡ before ++ Asked pending ∷ map Answered (take count lines) → slice_get lines count ≡ Some line
    → tells ++ Answered line ∷ [] ≡ before ++ Asked pending ∷ map Answered (take (count + 1) lines)
told_next before pending lines count line tells e at =
    let next : suc count ≡ count + 1 = omega arith in
    ap (λ (ts : List Told). ts ++ Answered line ∷ []) e ∙ (append_assoc before (Asked pending ∷ map Answered (take count lines)) (Answered line ∷ [])
    ∙ ap (λ (ts : List Told). before ++ Asked pending ∷ ts) (map_push (take count lines) line ∙ ap (map Answered) (sym (take_next lines count line at) ∙ ap (λ (n : ℕ). take n lines) next)))

pub listed_never : (frames : ℕ) (checker : Checker) (tells : List Told) (line : List ℕ) (r : Bool) → IsAt frames checker tells → checker.filled ≡ true → checker.phase ≡ Listing
    → (slice_get (reply_lines checker.listed) checker.count ≡ Some line → r ≡ true) → r ≡ false → MayBegin frames (tells ++ Answered line ∷ []) → ⊥
listed_never frames checker tells line r is filled phase found off begins =
    let next = listing_never frames _ _ checker.pending.items checker.listed checker.count tells (Answered line) (in_phase frames checker tells Listing is filled phase).1 begins in
    both_ways r off (found (next.2 ∙ ap (λ (l : List ℕ). Some l) (sym (answered_same next.1))))

pub listed_ends : (frames : ℕ) (checker : Checker) (rooms : Rooms) (tells : List Told) (line : List ℕ) (lines : ℕ) → IsAt frames checker tells → checker.filled ≡ true → checker.phase ≡ Listing
    → slice_get (reply_lines checker.listed) checker.count ≡ Some line → lines ≡ length (reply_lines checker.listed) → checker.count + 1 ≡ lines
    → IsAt frames (record checker { phase = Idle; count = checker.count + 1; rooms = rooms }) (tells ++ Answered line ∷ [])
listed_ends frames checker rooms tells line lines is filled phase at n last =
    let h = in_phase frames checker tells Listing is filled phase in
    let whole = take_end (reply_lines checker.listed) (checker.count + 1) (last ∙ n) in
    let told_all = told_next h.1.before checker.pending.items (reply_lines checker.listed) checker.count line tells h.1.is at in
    at_from frames (record checker { phase = Idle; count = checker.count + 1; rooms = rooms }) (tells ++ Answered line ∷ []) Idle is.some is.few is.frames_are filled refl h.0
    (subst (λ (ts : List Told). Stands frames (checker_machine_of checker.own.machine) (number_seen checker.own.numbers) ts)
    (sym (told_all ∙ ap (λ (ls : List (List ℕ)). h.1.before ++ Asked checker.pending.items ∷ map Answered ls) whole)) h.1.answered.ends)

pub listed_goes : (frames : ℕ) (checker : Checker) (rooms : Rooms) (tells : List Told) (line : List ℕ) (lines : ℕ) → IsAt frames checker tells → checker.filled ≡ true → checker.phase ≡ Listing
    → slice_get (reply_lines checker.listed) checker.count ≡ Some line → lines ≡ length (reply_lines checker.listed) → checker.count + 1 ≢ lines
    → IsAt frames (record checker { count = checker.count + 1; rooms = rooms }) (tells ++ Answered line ∷ [])
listed_goes frames checker rooms tells line lines is filled phase at n more =
    let h = in_phase frames checker tells Listing is filled phase in
    at_from frames (record checker { count = checker.count + 1; rooms = rooms }) (tells ++ Answered line ∷ []) Listing is.some is.few is.frames_are filled phase h.0 (record {
      before = h.1.before;
      answered = h.1.answered;
      some = omega arith;
      left = omega (arith, h.1.left, n, more);
      is = told_next h.1.before checker.pending.items (reply_lines checker.listed) checker.count line tells h.1.is at;
    })

-- ---- whether the lines are a whole transcript

empty_whole : (frames : ℕ) → IsWhole frames [] (empty_machine frames)
empty_whole frames = record { turns = []; run = refl; is = refl }

pub idle_whole : (frames : ℕ) (checker : Checker) (lines : List (List ℕ)) → HasRead frames checker lines → checker.phase ≡ Idle → AreWhole frames lines
idle_whole frames checker lines read phase = go checker.filled refl read.is_at.has_told where
  go : (b : Bool) → checker.filled ≡ b → HasTold b frames checker read.tells → AreWhole frames lines
  go false e h = whole_from frames lines read.tells read.told_are (empty_machine frames) (subst (λ (ts : List Told). IsWhole frames ts (empty_machine frames)) (sym h.0) (empty_whole frames))
  go true e h =
      let stands : Stands frames (checker_machine_of checker.own.machine) (number_seen checker.own.numbers) read.tells = subst (λ (q : Phase). IsIn q frames checker read.tells) phase h.1 in
      whole_from frames lines read.tells read.told_are stands.follows.some.0 (stands.follows.reach stands.follows.some.0 stands.follows.some.1)

pub due_part : (frames : ℕ) (checker : Checker) (lines : List (List ℕ)) → HasRead frames checker lines → checker.phase ≡ Due → AreWhole frames lines → ⊥
due_part frames checker lines read phase whole = go checker.filled refl read.is_at.has_told where
  go : (b : Bool) → checker.filled ≡ b → HasTold b frames checker read.tells → ⊥
  go false e h = absurd (let both = sym phase ∙ h.2 in cc)
  go true e h =
      let due : IsDue frames (checker_machine_of checker.own.machine) (number_seen checker.own.numbers) checker.pending.items read.tells = subst (λ (q : Phase). IsIn q frames checker read.tells) phase h.1 in
      let all = is_whole frames lines read.tells read.told_are whole in
      let next = due_next frames _ _ due.before checker.pending.items [] all.0 due.stands.follows due.asks
      (subst (λ (ts : List Told). IsWhole frames ts all.0) (due.is ∙ sym (append-nil (due.before ++ Asked checker.pending.items ∷ []))) all.1) in
      absurd (let none = next.2 in cc)

pub listing_part : (frames : ℕ) (checker : Checker) (lines : List (List ℕ)) → HasRead frames checker lines → checker.phase ≡ Listing → AreWhole frames lines → ⊥
listing_part frames checker lines read phase whole = go checker.filled refl read.is_at.has_told where
  go : (b : Bool) → checker.filled ≡ b → HasTold b frames checker read.tells → ⊥
  go false e h = absurd (let both = sym phase ∙ h.2 in cc)
  go true e h =
      let listing : IsListing frames (checker_machine_of checker.own.machine) (number_seen checker.own.numbers) checker.pending.items checker.listed checker.count read.tells = subst (λ (q : Phase). IsIn q frames checker read.tells) phase h.1 in
      let all = is_whole frames lines read.tells read.told_are whole in
      let next = listing_next frames _ _ checker.pending.items checker.listed checker.count read.tells listing [] all.0 (subst (λ (ts : List Told). IsWhole frames ts all.0) (sym (append-nil read.tells)) all.1) in
      absurd (let none = next.4 in cc)

-- lines that were read, once the frames were taken
pub read_length : (lines : List (List ℕ)) (tells : List Told) → AllTold lines tells → length lines < 2 ^ 63 → length tells < 2 ^ 63
read_length lines tells all h = omega (arith, h, all_told-length lines tells all)

pub match_ok : {A E : Type 0} (r : Result A E) (x : A) (P : A → Type 0) (Q : E → Type 0) → r ≡ Ok x → MatchResult r P Q → P x
match_ok (Ok y) x P Q e h = subst P (ok_same e) h where
  ok_same : {A E : Type 0} {a b : A} → ◌≡◌ {A = Result A E} (Ok a) (Ok b) → a ≡ b
  ok_same f = cc
match_ok (Err y) x P Q e h = absurd cc

-- two verdicts are not one
pub malformed_not_fine : {P : Type 0} → ◌≡◌ {A = Verdict} Malformed Fine → P
malformed_not_fine e = absurd cc
