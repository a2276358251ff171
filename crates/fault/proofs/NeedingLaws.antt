-- How many frames have to be free for a write to one page, and what follows if they are not.
use Rattle.std.proofs.Common.{◌≡◌, ℕ, ◌<◌, ◌≤◌, Bool, true, false, cond, [], ◌∷◌, inl, inr, arith}
use Rattle.vm_base.specs.declared.refusal.Refusal.{Refusal}
use Rattle.vm_model.specs.Contents.Content.{Content, used, sole}
use Rattle.vm_model.specs.Contents.Owning.{need_from, need_each}
use Rattle.fault.specs.inside.Needing.{FitsAs, LacksRoomToWrite}

-- a count that is the need fits in as it does
pub FitsAs-same : (c : Content) (count need : ℕ) → count ≡ need → FitsAs c count need
FitsAs-same c count need same = record { enough = λ fits. omega (arith, fits, same); lack = λ few. omega (arith, few, same) }

-- where a frame is free, one fits in, and so does the need of a page
pub FitsAs-free : (c : Content) (v p : ℕ) → used c < c.frames → FitsAs c 1 (need_each c (record { koid = v; page = p } ∷ []))
unfolding need_from
FitsAs-free c v p free = record {
  enough = λ fits. let most = at-most-one in omega (arith, fits, most);
  lack = λ few. absurd (omega (arith, few, free));
}
  where
    bit : (alone : Bool) → cond alone 0 1 ≤ 1
    bit true = omega arith
    bit false = omega arith

    at-most-one : need_each c (record { koid = v; page = p } ∷ []) ≤ 1
    at-most-one = bit (sole c v p)

-- why there is no room for the count is why there is none for the need
pub LacksRoomToWrite-as : (c : Content) (count need faults : ℕ) (refusal : Refusal) → FitsAs c count need → LacksRoomToWrite c count faults refusal → LacksRoomToWrite c need faults refusal
LacksRoomToWrite-as c count need faults refusal fits lacks = elim lacks [
  | inl frames ↦ inl (fits.lack frames.0, frames.1)
  | inr host ↦ inr (fits.enough host.0, host.1, host.2)
]
