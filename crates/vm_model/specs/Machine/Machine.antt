-- The whole machine: its state, and which pages of its address spaces are ready for an access.
use Rattle.std.specs.Prelude.{◌≡◌, ℕ, ◌<◌, true, None, Some}
use Rattle.vm_model.specs.declared.space.Entry.{Entry}
use Rattle.vm_model.specs.declared.space.Readiness.{Readiness}
use Rattle.vm_model.specs.declared.space.Readiness.TheVariants.{Write}
use Rattle.vm_model.specs.Contents.Content.{sole, pages_of}
use Rattle.vm_model.specs.Space.Readiness.{Ready}
use Rattle.vm_model.specs.Machine.State.{State, empty_state, IsGoodState}
use Rattle.vm_model.specs.Machine.Access.{Memory}

pub record Machine : Type 0 where
  pub state : State
  pub ready : Ready

-- a machine with this many frames and nothing else
unfoldable pub empty_machine : ℕ → Machine
empty_machine frames = record { state = empty_state frames; ready = λ root p. None }

-- what accesses through mappings change of a machine
abbrev pub memory_of : Machine → Memory
memory_of m = record { content = m.state.content; ready = m.ready }

-- What holds of every page that is ready: it shows a page that lies in its VMO. If it is ready for writing, that page
-- is sole.
pub record IsGoodReady (s : State) (root p : ℕ) (readiness : Readiness) : Type 0 where
  pub entry : Entry
  pub is : s.spaces.table root p ≡ Some entry
  pub below : entry.page < pages_of s.content entry.koid.0
  pub alone : readiness ≡ Write → sole s.content entry.koid.0 entry.page ≡ true

-- What holds of every machine that the commands can lead to.
pub record IsGoodMachine (m : Machine) : Type 0 where
  pub state : IsGoodState m.state
  pub ready : (root p : ℕ) (readiness : Readiness) → m.ready root p ≡ Some readiness → IsGoodReady m.state root p readiness
