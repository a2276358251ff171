-- Lines of more words than any command has.
use Rattle.std.proofs.Common.{◌≡◌, ℕ, ◌<◌, Bool, true, false, cond, List, [], ◌∷◌, length, Option, None, refl, arith}
use Rattle.std.specs.Prelude.{codes}
use Rattle.vm_model.specs.Language.Reading.{is_word}
use Rattle.source_model.specs.Words.{SourceCommand}
use Rattle.source_vm.specs.Reading.{source_order_in, source_command}

none_either : (bit : Bool) (o : Option SourceCommand) → o ≡ None → cond bit None o ≡ None
none_either true o e = refl
none_either false o e = e

-- a command word and more than five arguments
command_of_six : (word a b c d e f : List ℕ) (ws : List (List ℕ)) → source_command word (a ∷ b ∷ c ∷ d ∷ e ∷ f ∷ ws) ≡ None
unfolding source_command
command_of_six word a b c d e f ws =
    none_either (is_word word (codes "vmo_read")) _
    (none_either (is_word word (codes "vmo_write")) _
    (none_either (is_word word (codes "supply")) _
    (none_either (is_word word (codes "evict")) _
    (none_either (is_word word (codes "source_create")) _
    (none_either (is_word word (codes "vmo_create_child")) _
    (none_either (is_word word (codes "vmo_close")) _
    (none_either (is_word word (codes "stat")) _ refl)))))))

-- a command has six words at most
pub order_of_many : (ws : List (List ℕ)) → 6 < length ws → source_order_in ws ≡ None
order_of_many [] h = absurd (omega arith)
order_of_many (word ∷ []) h = absurd (omega arith)
order_of_many (word ∷ a ∷ []) h = absurd (omega arith)
order_of_many (word ∷ a ∷ b ∷ []) h = absurd (omega arith)
order_of_many (word ∷ a ∷ b ∷ c ∷ []) h = absurd (omega arith)
order_of_many (word ∷ a ∷ b ∷ c ∷ d ∷ []) h = absurd (omega arith)
order_of_many (word ∷ a ∷ b ∷ c ∷ d ∷ e ∷ []) h = absurd (omega arith)
order_of_many (word ∷ a ∷ b ∷ c ∷ d ∷ e ∷ f ∷ ws) h = command_of_six word a b c d e f ws
