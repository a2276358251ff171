-- Two pages that a write finds, once there is room for it.
use Rattle.std.proofs.Common.{◌≡◌, ℕ, ◌+◌, [], ◌∷◌, Option}
use Rattle.vm_model.specs.declared.space.Entry.{Entry}
use Rattle.vm_model.specs.Contents.Content.{Content, IsGood}
use Rattle.vm_model.specs.Contents.Owning.{need_each}
use Rattle.vm_model.specs.Machine.Access.{page_shown}
use Rattle.fault.specs.declared.writable.WritablePage.{WritablePage}
use Rattle.fault.specs.inside.Both.{AreFound, FindsWritable}
use Rattle.fault.specs.inside.Needing.{HasRoomToWrite}
use Rattle.fault.specs.Table.{Places, AreTrue}

pub AreFound-ready : (c d : Content) (table : ℕ → ℕ → Option Entry) (places now : Places) (root p : ℕ) (first second : WritablePage) (need faults rows room : ℕ)
    → IsGood c → AreTrue c table places → FindsWritable c table places root p first → FindsWritable c table places root (p + 1) second
    → need ≡ need_each c (page_shown first.entry ∷ page_shown second.entry ∷ []) → d ≡ c → now ≡ places → HasRoomToWrite c need faults rows room
    → AreFound d table now root p first second
AreFound-ready c d table places now root p first second need faults rows room good are is then_is needs same still ready = rw (same, still) (record {
  good = good;
  are = are;
  first_is = is.0;
  first_may = is.1;
  second_is = then_is.0;
  second_may = then_is.1;
  frames = rw needs at ready.free;
})
