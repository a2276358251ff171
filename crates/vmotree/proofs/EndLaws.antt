-- When a sink has failed.
use Rattle.std.proofs.Common.{ℕ, ◌<◌, inl, inr, arith}
use Rattle.script_io.specs.Faults.{HasFailed}

-- what has failed since has a fault
pub failed-some : (old new : ℕ) → HasFailed old new → 0 < new
failed-some old new (inl less) = omega arith
failed-some old new (inr last) = omega arith
