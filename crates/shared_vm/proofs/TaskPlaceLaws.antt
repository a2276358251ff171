-- The tasks of lines that stand one behind another.
use Rattle.std.proofs.Common.{◌≡◌, ℕ, List, [], ◌∷◌, ◌++◌, length, refl, ap, ◌∙◌}
use Rattle.std.proofs.lemmas.List.{map_push}
use Rattle.std.proofs.lemmas.List.Elements.{All-head, All-tail}
use Rattle.shared_vm.specs.declared.task.Task.{Task}
use Rattle.shared_vm.specs.declared.place.Place.{Place}
use Rattle.shared_vm.specs.inside.Places.{LiesWithin}
use Rattle.shared_vm.specs.inside.TaskPlaces.{AreWithin, task_at, tasks_at, task_of_line}
use Rattle.shared_vm.proofs.PlaceLaws.{part-more, part-added}

-- the tasks stay, whatever is added behind their lines
tasks-more : (bytes more : List ℕ) (places : List Place) → AreWithin bytes places → tasks_at (bytes ++ more) places ≡ tasks_at bytes places
tasks-more bytes more [] within = refl
tasks-more bytes more (place ∷ places) within =
    let first : task_at (bytes ++ more) place ≡ task_at bytes place
    = ap task_of_line (part-more bytes more place (All-head (LiesWithin (length bytes)) place places within)) in
    ap (λ (t : Task). t ∷ tasks_at (bytes ++ more) places) first
    ∙ ap (λ (ts : List Task). task_at bytes place ∷ ts) (tasks-more bytes more places (All-tail (LiesWithin (length bytes)) place places within))

-- a line whose place could not be kept
module _ (old new line : List ℕ) (places after : List Place) (within : AreWithin old places) (is_new : new ≡ old ++ line) (same : after ≡ places) where
  pub tasks_kept : tasks_at new after ≡ tasks_at old places
  tasks_kept =
      ap (λ (bytes : List ℕ). tasks_at bytes after) is_new ∙ ap (λ (ps : List Place). tasks_at (old ++ line) ps) same ∙ tasks-more old line places within

-- one line more
module _ (old new line : List ℕ) (places after : List Place) (place : Place) (within : AreWithin old places) (is_new : new ≡ old ++ line)
    (start : place.start ≡ length old) (end : place.end ≡ length new) (is_after : after ≡ places ++ place ∷ []) where
  ends : place.end ≡ length (old ++ line)
  ends = end ∙ ap length is_new

  pub tasks_added : tasks_at new after ≡ tasks_at old places ++ task_of_line line ∷ []
  tasks_added =
      ap (λ (bytes : List ℕ). tasks_at bytes after) is_new
      ∙ ap (λ (ps : List Place). tasks_at (old ++ line) ps) is_after
      ∙ map_push (task_at (old ++ line)) places place
      ∙ ap (λ (t : Task). tasks_at (old ++ line) places ++ t ∷ []) (ap task_of_line (part-added old line place start ends))
      ∙ ap (λ (ts : List Task). ts ++ task_of_line line ∷ []) (tasks-more old line places within)
