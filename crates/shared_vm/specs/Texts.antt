-- How a journal is spelled.
use Rattle.std.specs.Prelude.{ℕ, ◌==◌, List, ◌++◌, map, codes, if◌then◌else◌}
use Rattle.std.specs.List.{flat_map, concat}
use Rattle.vm_model.specs.Language.Text.{reply_lines}
use Rattle.shared_vm.specs.declared.task.Deed.{Deed}

-- an actor's name and a space
abbrev pub actor_text : ℕ → List ℕ
actor_text actor =
    if actor == 0 then codes "a0 " else (if actor == 1 then codes "a1 " else (if actor == 2 then codes "a2 " else codes "a3 "))

-- the lines of the deed's reply, each behind the actor's name
abbrev pub deed_lines : Deed → List (List ℕ)
deed_lines deed = map (λ line. actor_text deed.actor ++ line) (reply_lines deed.reply)

abbrev pub deed_text : Deed → List ℕ
deed_text deed = concat (deed_lines deed)

-- the deeds, one after another
abbrev pub journal_text : List Deed → List ℕ
journal_text deeds = flat_map deed_text deeds
