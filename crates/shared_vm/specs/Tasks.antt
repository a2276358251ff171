-- The tasks that the lines of an input give to the actors a0 to a3.
use Rattle.std.specs.Prelude.{ℕ, ◌+◌, ◌==◌, nat_lt, List, [], ◌∷◌, ◌++◌, length, codes, if◌then◌else◌, Option, None, Some}
use Rattle.vm_base.specs.declared.limits.TheConstants.{LINE_BYTES}
use Rattle.vm_model.specs.Language.Reading.{Reading, Blank, Order, Outside, reading_of_words, words, is_word, is_comment}
use Rattle.shared_vm.specs.declared.task.Task.{Task}

-- the tasks of each actor, in the order in which the actor does them
pub record Lists : Type 0 where
  pub a0 : List Task
  pub a1 : List Task
  pub a2 : List Task
  pub a3 : List Task

abbrev pub no_tasks : Lists
no_tasks = record { a0 = []; a1 = []; a2 = []; a3 = [] }

-- the tasks of an actor, by its number
abbrev pub tasks_of : Lists → ℕ → List Task
tasks_of lists actor =
    if actor == 0 then lists.a0 else (if actor == 1 then lists.a1 else (if actor == 2 then lists.a2 else lists.a3))

-- how many tasks the actors have together
abbrev pub task_count : Lists → ℕ
task_count lists = length lists.a0 + length lists.a1 + length lists.a2 + length lists.a3

-- one task more for an actor, behind those that it has
abbrev pub with_task : Lists → ℕ → Task → Lists
with_task lists actor task =
    if actor == 0 then record lists { a0 = lists.a0 ++ task ∷ [] }
    else (if actor == 1 then record lists { a1 = lists.a1 ++ task ∷ [] }
    else (if actor == 2 then record lists { a2 = lists.a2 ++ task ∷ [] }
    else record lists { a3 = lists.a3 ++ task ∷ [] }))

-- the actor that a word names
abbrev pub actor_of : List ℕ → Option ℕ
actor_of word =
    if is_word word (codes "a0") then Some 0
    else (if is_word word (codes "a1") then Some 1
    else (if is_word word (codes "a2") then Some 2
    else (if is_word word (codes "a3") then Some 3 else None)))

-- what a line says to an actor: nothing, a command, or what is no command
abbrev pub with_reading : Lists → ℕ → Reading → Lists
with_reading lists actor Blank = lists
with_reading lists actor (Order command) = with_task lists actor (Task.Order command)
with_reading lists actor Outside = with_task lists actor Task.Outside

-- Behind an actor's name the words are read as those of a line of its own. A line with another first word that is no
-- comment is a task for a0, and is refused as one outside the grammar.
abbrev pub with_behind : Lists → List ℕ → List (List ℕ) → Option ℕ → Lists
with_behind lists word behind (Some actor) = with_reading lists actor (reading_of_words behind)
with_behind lists word behind None = if is_comment word then lists else with_task lists 0 Task.Outside

abbrev pub with_words : Lists → List (List ℕ) → Lists
with_words lists [] = lists
with_words lists (word ∷ behind) = with_behind lists word behind (actor_of word)

-- the tasks with that of one line more. A line over the limit is outside the grammar, whatever it holds
unfoldable pub with_line : Lists → List ℕ → Lists
with_line lists line = if nat_lt LINE_BYTES (length line) then with_task lists 0 Task.Outside else with_words lists (words line)

-- the tasks with those of more lines
abbrev pub with_lines : Lists → List (List ℕ) → Lists
with_lines lists [] = lists
with_lines lists (line ∷ lines) = with_lines (with_line lists line) lines

-- the tasks of the lines of an input
abbrev pub lists_of : List (List ℕ) → Lists
lists_of lines = with_lines no_tasks lines
