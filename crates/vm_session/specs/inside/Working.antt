-- How far a workload was done, and what became of its commands.
use Rattle.std.specs.Prelude.{◌≡◌, ℕ, ◌+◌, ◌++◌, Bool, cond, List, codes}
use Rattle.vm_model.specs.Machine.Words.{Reply}
use Rattle.vm_model.specs.Language.Text.{field}
use Rattle.vm_model.specs.Machine.Machine.{Machine}
use Rattle.vm_model.specs.Scripts.Workload.{workload, StepsThrough, is_success, is_refusal, is_lack, reply_count}
use Rattle.vm_session.specs.declared.tally.Tally.{Tally}

-- one more, if the bit is set
abbrev pub more : Bool → ℕ → ℕ
more bit n = cond bit (n + 1) n

-- one reply more was counted
abbrev pub with_reply : Tally → Reply → Tally
with_reply tally reply = record {
  ok = more (is_success reply) tally.ok;
  refused = more (is_refusal reply) tally.refused;
  host = more (is_lack reply) tally.host;
}

-- the replies are those that were counted, and these later ones
pub record Counts (tally : Tally) (later replies : List Reply) : Type 0 where
  pub ok : reply_count is_success replies ≡ tally.ok + reply_count is_success later
  pub refused : reply_count is_refusal replies ≡ tally.refused + reply_count is_refusal later
  pub host : reply_count is_lack replies ≡ tally.host + reply_count is_lack later

-- From start, so many commands of a workload may have these later replies, which lead to last, behind the replies that
-- were counted.
pub record StepsOn (start : Machine) (number count : ℕ) (tally : Tally) (later : List Reply) (last : Machine) : Type 0 where
  pub replies : List Reply
  pub steps : StepsThrough start (workload number count) replies last
  pub counts : Counts tally later replies

-- So many commands of a workload are left to do, from a number. Whatever they lead to is what the whole workload leads
-- to.
pub record IsUnderWay (start : Machine) (number count : ℕ) (tally : Tally) (now : Machine) (from left : ℕ) : Type 0 where
  pub each : (later : List Reply) (last : Machine) → StepsThrough now (workload from left) later last
      → StepsOn start number count tally later last

-- what the line tells
abbrev pub tally_text : Tally → (used vmos : ℕ) → List ℕ
tally_text tally used vmos =
    field (codes "ok") tally.ok ++ field (codes "refused") tally.refused ++ field (codes "host") tally.host
    ++ field (codes "used") used ++ field (codes "vmos") vmos
