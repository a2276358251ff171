-- Sets of permissions and of mapping options, by their bits. From the kernel's ZX_VM_PERM_READ, ZX_VM_SPECIFIC and so
-- on.
use Rattle.std.specs.Prelude.{ℕ, ◌+◌, Bool, ◌==◌, bit_and}
use Rattle.vm_base.specs.declared.flags.TheConstants.Perm.{READ, WRITE, EXECUTE}
use Rattle.vm_base.specs.declared.flags.TheConstants.MapFlags.{SPECIFIC, OVERWRITE, UPPER_LIMIT, ALLOW_FAULTS}

-- a set of bits has all of these
abbrev pub has : ℕ → ℕ → Bool
has bits some = bit_and bits some == some

-- the permissions, each by its bit, and all of them
abbrev pub reading : ℕ
reading = READ.0

abbrev pub writing : ℕ
writing = WRITE.0

abbrev pub executing : ℕ
executing = EXECUTE.0

abbrev pub all_rights : ℕ
all_rights = reading + writing + executing

-- the options of where a region or a mapping is placed, and of a mapping that goes past its VMO's end, and all of them
abbrev pub specific : ℕ
specific = SPECIFIC.0

abbrev pub overwrite : ℕ
overwrite = OVERWRITE.0

abbrev pub upper_limit : ℕ
upper_limit = UPPER_LIMIT.0

abbrev pub allow_faults : ℕ
allow_faults = ALLOW_FAULTS.0

abbrev pub all_options : ℕ
all_options = specific + overwrite + upper_limit + allow_faults
