-- How a run ends that draws the clone tree.
use Rattle.std.specs.Prelude.{◌≡◌, ◌⊎◌, ℕ, Bool, true, false, List, Option, None}
use Rattle.std.specs.Io.KnownBytes.{Appends}
use Rattle.vm_base.specs.declared.limits.TheConstants.{SCRIPT_BYTES}
use Rattle.script_io.specs.declared.status.Status.{Status}
use Rattle.script_io.specs.declared.status.Status.TheVariants.{Done, Usage, HostMemory, ReadFault, WriteFault, ScriptLimit}
use Rattle.script_io.specs.Faults.{IsCutOff}
use Rattle.cow_forest.specs.Store.{Forest, forest_content}
use Rattle.line_server.specs.Outcome.{EndsAs}
use Rattle.tree_text.specs.Text.{forest_text}
use Rattle.vm_session.specs.Plain.{plain}
use Rattle.vmotree.specs.declared.request.Request.{Request}

-- The script was run as `run` does, ended so, and left this tree. The sink took the replies if they are asked for, and otherwise
-- nothing.
abbrev pub Runs : (replies : Bool) → (frames : ℕ) → Status → (source_old source_new sink_old sink_new : Option (List ℕ)) → Forest → Type 0
Runs true frames status source_old source_new sink_old sink_new f =
    EndsAs plain status frames SCRIPT_BYTES source_old source_new sink_old sink_new (forest_content f)
Runs false frames status source_old source_new sink_old sink_new f =
    EndsAs plain status frames SCRIPT_BYTES source_old source_new None None (forest_content f) × (sink_new ≡ sink_old)

-- The script ended so, and behind its replies the sink took this of the text of the tree.
pub record Draws (r : Request) (status : Status) (source_old source_new sink_old sink_new : Option (List ℕ)) (f : Forest)
    (Takes : Option (List ℕ) → Option (List ℕ) → List ℕ → Type 0) : Type 0 where
  pub sink_mid : Option (List ℕ)
  pub script : Runs r.replies r.frames status source_old source_new sink_old sink_mid f
  pub tree : Takes sink_mid sink_new (forest_text r.form f)

-- a script that ended so is followed by the tree
abbrev pub IsFollowed : Status → Type 0
IsFollowed Done = Unit {0}
IsFollowed ReadFault = Unit {0}
IsFollowed ScriptLimit = Unit {0}
IsFollowed WriteFault = ⊥
IsFollowed HostMemory = ⊥
IsFollowed Usage = ⊥

-- What each status says. After `Done`, `ReadFault` and `ScriptLimit` the text of the tree was written whole. `WriteFault` cut off a
-- reply or this text.
abbrev pub DrawsAs : Request → Status → Option (List ℕ) → Option (List ℕ) → Option (List ℕ) → Option (List ℕ) → Forest → Type 0
DrawsAs r Done source_old source_new sink_old sink_new f = Draws r Done source_old source_new sink_old sink_new f Appends
DrawsAs r ReadFault source_old source_new sink_old sink_new f = Draws r ReadFault source_old source_new sink_old sink_new f Appends
DrawsAs r ScriptLimit source_old source_new sink_old sink_new f = Draws r ScriptLimit source_old source_new sink_old sink_new f Appends
DrawsAs r WriteFault source_old source_new sink_old sink_new f =
    Runs r.replies r.frames WriteFault source_old source_new sink_old sink_new f
    ⊎ ((status : Status) × IsFollowed status × Draws r status source_old source_new sink_old sink_new f IsCutOff)
DrawsAs r HostMemory source_old source_new sink_old sink_new f = Runs r.replies r.frames HostMemory source_old source_new sink_old sink_new f
DrawsAs r Usage source_old source_new sink_old sink_new f = ⊥
