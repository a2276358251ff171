-- What a region has on a range of pages whose permissions are to be changed.
use Rattle.std.specs.Prelude.{◌≡◌, ℕ, Bool, false, not, Option}
use Rattle.vm_model.specs.declared.space.Entry.{Entry}
use Rattle.vm_model.specs.Space.Mappings.{has_hole, forbids}

-- Each page from `first` to below `end` has an entry that belongs to the region, and `allowed` says whether each may be
-- changed to these permissions.
pub record IsCovered (entries : ℕ → Option Entry) (region perm first end : ℕ) (allowed : Bool) : Type 0 where
  pub whole : has_hole entries region first end ≡ false
  pub free : allowed ≡ not (forbids entries perm first end)
