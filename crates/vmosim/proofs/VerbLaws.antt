-- What words ask for goes by the first of them.
use Rattle.std.proofs.Common.{◌≡◌, ◌↔◌, ℕ, Bool, true, false, cond, List, [], ◌∷◌, map, Option, None, Some, Global, refl, ap, ◌∙◌}
use Rattle.std.specs.Prelude.{codes, IsSome}
use Rattle.std.specs.String.{string_bytes}
use Rattle.std.specs.declared.string.String.{String}
use Rattle.std.proofs.lemmas.Slice.Eq.{bytes_eq-Decides}
use Rattle.script_io.specs.declared.status.Status.{Status}
use Rattle.script_io.specs.declared.status.Status.TheVariants.{Usage, HostMemory}
use Rattle.line_server.specs.Words.{is_text, frames_in, frames_behind, frames_asked}
use Rattle.vm_session.specs.Outcome.{task_in, task_asked, AskForWork}
use Rattle.vmosim.specs.Verbs.{is_first, has_verb}

-- with another first word, what a verb asks for
frames-not : (verb : List ℕ) (ws : List (List ℕ)) → is_first verb ws ≡ false → frames_behind verb ws ≡ None
frames-not verb [] e = refl
frames-not verb (first ∷ behind) e = ap (λ t. cond t (frames_in behind) None) e

pub no_frames_not : (verb : List ℕ) (words : List (String Global)) → has_verb verb words ≡ false → frames_asked verb words ≡ None
no_frames_not verb words e = frames-not verb (map string_bytes words) e

-- with this first word, what another verb asks for
frames-apart : (verb other : List ℕ) (ws : List (List ℕ)) → is_text verb other ≡ false → is_first verb ws ≡ true → frames_behind other ws ≡ None
frames-apart verb other [] apart e = refl
frames-apart verb other (first ∷ behind) apart e =
    ap (λ t. cond t (frames_in behind) None) (ap (λ w. is_text w other) ((bytes_eq-Decides first verb).0 e) ∙ apart)

pub no_frames : (verb other : List ℕ) (words : List (String Global)) → is_text verb other ≡ false → has_verb verb words ≡ true
    → frames_asked other words ≡ None
no_frames verb other words apart e = frames-apart verb other (map string_bytes words) apart e

-- with this first word, what `run` and `work` ask for
neither : {A : Type 0} (t u : Bool) (x y : Option A) → t ≡ false → u ≡ false → cond t x (cond u y None) ≡ None
neither true u x y e f = absurd cc
neither false true x y e f = absurd cc
neither false false x y e f = refl

task-apart : (verb : List ℕ) (ws : List (List ℕ)) → is_text verb (codes "run") ≡ false → is_text verb (codes "work") ≡ false → is_first verb ws ≡ true
    → task_in ws ≡ None
task-apart verb [] run work e = refl
task-apart verb (first ∷ behind) run work e =
    let same = (bytes_eq-Decides first verb).0 e in
    neither _ _ _ _ (ap (λ w. is_text w (codes "run")) same ∙ run) (ap (λ w. is_text w (codes "work")) same ∙ work)

pub no_task : (verb : List ℕ) (words : List (String Global)) → is_text verb (codes "run") ≡ false → is_text verb (codes "work") ≡ false
    → has_verb verb words ≡ true → task_asked words ≡ None
no_task verb words run work e = task-apart verb (map string_bytes words) run work e

pub no_work : {P : Type 0} (words : List (String Global)) → task_asked words ≡ None → AskForWork words → P
no_work words none work = let asked = work.asked in absurd cc

pub not_asked : {P : Type 0} (asked : Option ℕ) → asked ≡ None → IsSome asked → P
not_asked (Some frames) none some = absurd cc
not_asked None none some = absurd cc

-- a tree that is there is not gone
pub is_there : {A P : Type 0} (tree : Option A) → IsSome tree → tree ≡ None → P
is_there (Some x) some gone = absurd cc
is_there None some gone = absurd cc

-- what a refusal says of the words
pub not_refused : (asked : Option ℕ) (status : Status) → (status ≡ Usage) ↔ (asked ≡ None) → status ≡ HostMemory → IsSome asked
not_refused (Some frames) status usage e = refl
not_refused None status usage e = let used : status ≡ Usage = usage.1 refl in absurd cc

pub refused : {P : Type 0} (asked : Option ℕ) (status : Status) → (status ≡ Usage) ↔ (asked ≡ None) → status ≡ HostMemory → asked ≡ None → P
refused asked status usage e none = let used : status ≡ Usage = usage.1 none in absurd cc
