-- Pages: whole pages of bytes, the bytes of a page of zeros, and bytes that are replaced.
use Rattle.std.specs.Prelude.{ℕ, ◌+◌, ◌-◌, ◌*◌, ◌/◌, List, ◌++◌, length, take, drop, replicate}
use Rattle.vm_base.specs.declared.limits.TheConstants.{PAGE}

-- n bytes rounded up to whole pages, in bytes
abbrev pub rounded : ℕ → ℕ
rounded n = (n + (PAGE - 1)) / PAGE * PAGE

-- the bytes of a page that was never written
unfoldable pub zeros : List ℕ
zeros = replicate PAGE 0

-- old with these bytes from this place on
unfoldable pub replaced : List ℕ → ℕ → List ℕ → List ℕ
replaced old at bytes = take at old ++ bytes ++ drop (at + length bytes) old
