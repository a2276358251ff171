-- The tasks of lines.
use Rattle.std.proofs.Common.{◌≡◌, ℕ, ◌+◌, ◌<◌, ◌≤◌, ◌==◌, Bool, true, false, cond, List, [], ◌∷◌, ◌++◌, length, Option, None, Some, Result, refl, sym, ap, subst, ◌∙◌, arith}
use Rattle.std.specs.Prelude.{nat_lt, OnOk}
use Rattle.std.proofs.lemmas.List.{length-append}
use Rattle.std.proofs.lemmas.Bool.Decides.{Decides-ltb, nat_tests}
use Rattle.vm_base.specs.declared.limits.TheConstants.{LINE_BYTES}
use Rattle.vm_model.specs.Language.Reading.{Reading, Blank, Order, Outside, reading, reading_of_words, order_or_outside, command, words, is_comment}
use Rattle.vm_model.specs.Machine.Words.{Command}
use Rattle.shared_vm.specs.declared.task.Task.{Task}
use Rattle.shared_vm.specs.Tasks.{Lists, task_count, with_task, actor_of, with_reading, with_behind, with_words, with_line}
use Rattle.shared_vm.specs.inside.TaskPlaces.{task_of_line, task_of_reading, says_nothing}

-- a line within the limit is read by its words
short_test : (line : List ℕ) → length line ≤ LINE_BYTES → nat_lt LINE_BYTES (length line) ≡ false
short_test line short = grind (arith, nat_tests)

pub reading-short : (line : List ℕ) → length line ≤ LINE_BYTES → reading line ≡ reading_of_words (words line)
unfolding reading
reading-short line short = ap (λ t. cond t Outside (reading_of_words (words line))) (short_test line short)

pub with_line-short : (lists : Lists) (line : List ℕ) → length line ≤ LINE_BYTES → with_line lists line ≡ with_words lists (words line)
unfolding with_line
with_line-short lists line short = ap (λ t. cond t (with_task lists 0 Task.Outside) (with_words lists (words line))) (short_test line short)

pub with_line-long : (lists : Lists) (line : List ℕ) → LINE_BYTES < length line → with_line lists line ≡ with_task lists 0 Task.Outside
unfolding with_line
with_line-long lists line long = ap (λ t. cond t (with_task lists 0 Task.Outside) (with_words lists (words line))) ((Decides-ltb LINE_BYTES (length line)).1 long)

-- one task more
one_more : (tasks : List Task) (task : Task) → length (tasks ++ task ∷ []) ≡ length tasks + 1
one_more tasks task = omega (arith, length-append tasks (task ∷ []))

pub count-task : (lists : Lists) (actor : ℕ) (task : Task) → task_count (with_task lists actor task) ≡ task_count lists + 1
count-task lists actor task =
    elim (actor == 0) as (λ t. task_count (cond t (record lists { a0 = lists.a0 ++ task ∷ [] }) (cond (actor == 1) (record lists { a1 = lists.a1 ++ task ∷ [] }) (cond (actor == 2) (record lists { a2 = lists.a2 ++ task ∷ [] }) (record lists { a3 = lists.a3 ++ task ∷ [] })))) ≡ task_count lists + 1) [
      | true ↦ omega (arith, one_more lists.a0 task)
      | false ↦ elim (actor == 1) as (λ t. task_count (cond t (record lists { a1 = lists.a1 ++ task ∷ [] }) (cond (actor == 2) (record lists { a2 = lists.a2 ++ task ∷ [] }) (record lists { a3 = lists.a3 ++ task ∷ [] }))) ≡ task_count lists + 1) [
        | true ↦ omega (arith, one_more lists.a1 task)
        | false ↦ elim (actor == 2) as (λ t. task_count (cond t (record lists { a2 = lists.a2 ++ task ∷ [] }) (record lists { a3 = lists.a3 ++ task ∷ [] })) ≡ task_count lists + 1) [
          | true ↦ omega (arith, one_more lists.a2 task)
          | false ↦ omega (arith, one_more lists.a3 task)
        ]
      ]
    ]

-- a line has a task at most

by_reading : (lists : Lists) (actor : ℕ) (r : Reading) → task_count (with_reading lists actor r) ≤ task_count lists + 1
by_reading lists actor Blank = omega arith
by_reading lists actor (Order c) = omega (arith, count-task lists actor (Task.Order c))
by_reading lists actor Outside = omega (arith, count-task lists actor Task.Outside)

by_name : (lists : Lists) (word : List ℕ) (behind : List (List ℕ)) (o : Option ℕ) → task_count (with_behind lists word behind o) ≤ task_count lists + 1
by_name lists word behind (Some actor) = by_reading lists actor (reading_of_words behind)
by_name lists word behind None = elim (is_comment word) as (λ t. task_count (cond t lists (with_task lists 0 Task.Outside)) ≤ task_count lists + 1) [
  | true ↦ omega arith
  | false ↦ omega (arith, count-task lists 0 Task.Outside)
]

by_words : (lists : Lists) (ws : List (List ℕ)) → task_count (with_words lists ws) ≤ task_count lists + 1
by_words lists [] = omega arith
by_words lists (word ∷ behind) = by_name lists word behind (actor_of word)

pub count-line : (lists : Lists) (line : List ℕ) → task_count (with_line lists line) ≤ task_count lists + 1
unfolding with_line
count-line lists line = elim (nat_lt LINE_BYTES (length line)) as (λ t. task_count (cond t (with_task lists 0 Task.Outside) (with_words lists (words line))) ≤ task_count lists + 1) [
  | true ↦ omega (arith, count-task lists 0 Task.Outside)
  | false ↦ by_words lists (words line)
]

-- ---- a line that is read

pub line_none : (lists : Lists) (line : List ℕ) → length line ≤ LINE_BYTES → words line ≡ [] → lists ≡ with_line lists line
line_none lists line short e = subst (λ (l : Lists). lists ≡ l) (sym (with_line-short lists line short)) (subst (λ (ws : List (List ℕ)). lists ≡ with_words lists ws) (sym e) refl)

pub line_words : {T E : Type 0} (lists new : Lists) (line word behind : List ℕ) (result : Result T E) → length line ≤ LINE_BYTES → words line ≡ word ∷ words behind
    → OnOk result (new ≡ with_behind lists word (words behind) (actor_of word)) → OnOk result (new ≡ with_line lists line)
line_words lists new line word behind result short e ok =
    subst (λ (l : Lists). OnOk result (new ≡ l)) (sym (with_line-short lists line short))
    (subst (λ (ws : List (List ℕ)). OnOk result (new ≡ with_words lists ws)) (sym e) ok)

-- a line that says nothing gives no task
silent_words : (lists : Lists) (actor : ℕ) (ws : List (List ℕ)) → says_nothing ws ≡ true → lists ≡ with_reading lists actor (reading_of_words ws)
silent_words lists actor [] e = refl
silent_words lists actor (word ∷ ws) e =
    ap (λ t. with_reading lists actor (cond t Blank (order_or_outside (command word ws)))) (sym e)

-- any other line gives a task
loud_order : (lists : Lists) (actor : ℕ) (o : Option Command) → with_task lists actor (task_of_reading (order_or_outside o)) ≡ with_reading lists actor (order_or_outside o)
loud_order lists actor None = refl
loud_order lists actor (Some c) = refl

loud_words : (lists : Lists) (actor : ℕ) (ws : List (List ℕ)) → says_nothing ws ≡ false
    → with_task lists actor (task_of_reading (reading_of_words ws)) ≡ with_reading lists actor (reading_of_words ws)
loud_words lists actor [] e = absurd cc
loud_words lists actor (word ∷ ws) e =
    subst (λ t. with_task lists actor (task_of_reading (cond t Blank (order_or_outside (command word ws)))) ≡ with_reading lists actor (cond t Blank (order_or_outside (command word ws))))
    (sym e) (loud_order lists actor (command word ws))

pub read_silent : (lists : Lists) (actor : ℕ) (behind : List ℕ) (test : Bool) → test ≡ says_nothing (words behind) → test ≡ true
    → lists ≡ with_reading lists actor (reading_of_words (words behind))
read_silent lists actor behind test is e = silent_words lists actor (words behind) (sym is ∙ e)

pub read_loud : {T E : Type 0} (lists new : Lists) (actor : ℕ) (behind : List ℕ) (test : Bool) (result : Result T E) → length behind ≤ LINE_BYTES
    → test ≡ says_nothing (words behind) → test ≡ false → OnOk result (new ≡ with_task lists actor (task_of_line behind))
    → OnOk result (new ≡ with_reading lists actor (reading_of_words (words behind)))
read_loud lists new actor behind test result short is e ok =
    let loud = loud_words lists actor (words behind) (sym is ∙ e) in
    let same : with_task lists actor (task_of_line behind) ≡ with_reading lists actor (reading_of_words (words behind))
    = ap (λ (r : Reading). with_task lists actor (task_of_reading r)) (reading-short behind short) ∙ loud in
    subst (λ (l : Lists). OnOk result (new ≡ l)) same ok

-- a line of no bytes is outside the grammar
pub task_of_line-none : task_of_line [] ≡ Task.Outside
unfolding reading words
task_of_line-none = refl

pub pushed_none : {T E : Type 0} (lists new : Lists) (result : Result T E) → OnOk result (new ≡ with_task lists 0 (task_of_line [])) → OnOk result (new ≡ with_task lists 0 Task.Outside)
pushed_none lists new result ok = subst (λ (t : Task). OnOk result (new ≡ with_task lists 0 t)) task_of_line-none ok

-- what a line says, once it is read
pub task_order : (line : List ℕ) (order : Command) → Order order ≡ reading line → Task.Order order ≡ task_of_line line
task_order line order e = ap task_of_reading e

pub task_blank : (line : List ℕ) → Blank ≡ reading line → Task.Outside ≡ task_of_line line
task_blank line e = ap task_of_reading e

pub task_outside : (line : List ℕ) → Outside ≡ reading line → Task.Outside ≡ task_of_line line
task_outside line e = ap task_of_reading e

pub named : {T E : Type 0} (lists new : Lists) (word : List ℕ) (behind : List (List ℕ)) (actor : ℕ) (o : Option ℕ) (result : Result T E) → Some actor ≡ o
    → OnOk result (new ≡ with_reading lists actor (reading_of_words behind)) → OnOk result (new ≡ with_behind lists word behind o)
named lists new word behind actor o result e ok = subst (λ (p : Option ℕ). OnOk result (new ≡ with_behind lists word behind p)) e ok

pub comment : (lists : Lists) (word : List ℕ) (behind : List (List ℕ)) (o : Option ℕ) → None ≡ o → is_comment word ≡ true → lists ≡ with_behind lists word behind o
comment lists word behind o e is = subst (λ (p : Option ℕ). lists ≡ with_behind lists word behind p) e (ap (λ t. cond t lists (with_task lists 0 Task.Outside)) (sym is))

pub unnamed : {T E : Type 0} (lists new : Lists) (word : List ℕ) (behind : List (List ℕ)) (o : Option ℕ) (result : Result T E) → None ≡ o → is_comment word ≡ false
    → OnOk result (new ≡ with_task lists 0 Task.Outside) → OnOk result (new ≡ with_behind lists word behind o)
unnamed lists new word behind o result e is ok =
    subst (λ (p : Option ℕ). OnOk result (new ≡ with_behind lists word behind p)) e
    (subst (λ t. OnOk result (new ≡ cond t lists (with_task lists 0 Task.Outside))) (sym is) ok)
