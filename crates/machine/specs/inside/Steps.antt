-- What the handlers of commands ask and promise of the pages and the tables that they are given.
use Rattle.std.specs.Prelude.{◌≡◌, ℕ, Option}
use Rattle.vm_model.specs.Machine.Words.{Command, Reply}
use Rattle.vm_model.specs.Contents.Content.{Content}
use Rattle.vm_model.specs.Machine.State.{IsGoodState}
use Rattle.vm_model.specs.Machine.Given.{GivesName}
use Rattle.vm_model.specs.Machine.Step.{Step}
use Rattle.ready_pages.specs.declared.change.Change.{Change}
use Rattle.machine.specs.Machine.{MissesPlace}
use Rattle.machine.specs.declared.tables.Tables.{Tables}
use Rattle.machine.specs.inside.Changes.{change_after}
use Rattle.machine.specs.inside.Fields.{state_in, IsCounted}

-- Pages and the tables are a good state, and what the tables count and note of it is right.
pub record IsSoundState (c : Content) (t : Tables) : Type 0 where
  pub good : IsGoodState (state_in c t)
  pub counted : IsCounted t

-- Pages and the tables do a command. It is a step of their state, this may have changed of the ready pages, what the
-- tables count and note is right afterwards, and the name that it gives is one that there is.
pub record Handles (old : Content) (before : Tables) (command : Command) (reply : Reply) (change : Change) (new : Content) (after : Tables) : Type 0 where
  pub step : Step (state_in old before) command reply (state_in new after)
  pub changes : change ≡ change_after (state_in old before) command reply
  pub counted : IsCounted after
  pub name : GivesName command

-- The command can't be at the address that is told, and nothing changes.
pub record Misses (old : Content) (before : Tables) (command : Command) (told : Option ℕ) (new : Content) (after : Tables) : Type 0 where
  pub place : MissesPlace (state_in old before) command told
  pub pages : new ≡ old
  pub tables : after ≡ before
