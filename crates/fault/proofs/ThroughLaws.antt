-- What writing through one page of an address space, or through two, gives.
use Rattle.std.proofs.Common.{◌≡◌, ℕ, ◌+◌, ◌≤◌, List, [], ◌∷◌, length, Option, refl, arith}
use Rattle.vm_base.specs.declared.limits.TheConstants.{PAGE}
use Rattle.vm_model.specs.declared.space.Entry.{Entry}
use Rattle.vm_model.specs.Contents.Content.{Content, in_use, used, IsGood}
use Rattle.vm_model.specs.Contents.Owning.{need_from, need_each}
use Rattle.vm_model.specs.Contents.Writing.{touched, part_at, part_bytes}
use Rattle.vm_model.specs.Space.Rights.{writing}
use Rattle.vm_model.specs.Machine.Access.{Memory, WritesPage, WritesThrough, page_shown, write_fault}
use Rattle.fault.specs.declared.writable.WritablePage.{WritablePage}
use Rattle.fault.specs.Table.{Places, AreTrue, IsOfEntry}
use Rattle.fault.specs.Access.{WritesSpace}
use Rattle.fault.specs.inside.Writable.{IsWritable, WritesTo, fault_of}
use Rattle.page_store.specs.Needs.{MayOwn}
use Rattle.vm_base.proofs.SearchLaws.{count_below_le}
use Rattle.vm_model.proofs.RangeLaws.{touched-nil}
use Rattle.fault.proofs.AskedLaws.{AreAsked, AreAsked-none, none-refuses, fault-found}
use Rattle.page_store.proofs.NeedLaws.{second-free}
use Rattle.fault.proofs.WritableLaws.{entry-found}
use Rattle.fault.proofs.WrittenLaws.{writes, written-here, AreTrue-written, WritesPage-written, IsWritable-other}

module _ (table : ℕ → ℕ → Option Entry) (root addr : ℕ) (bytes : List ℕ) where
  -- one page
  WritesThrough-one : (p : ℕ) (old new : Memory) (faults : ℕ) → WritesPage table root addr bytes p old new → faults ≡ write_fault (old.ready root p)
      → WritesThrough table root addr bytes (p ∷ []) old faults new
  WritesThrough-one p old new faults done same = (new, 0, done, (refl, refl), omega (arith, same))

  -- two pages
  WritesThrough-two : (p q : ℕ) (old mid new : Memory) (first second : ℕ) → WritesPage table root addr bytes p old mid → WritesPage table root addr bytes q mid new
      → first ≡ write_fault (old.ready root p) → second ≡ write_fault (mid.ready root q)
      → WritesThrough table root addr bytes (p ∷ q ∷ []) old (first + second) new
  WritesThrough-two p q old mid new first second done then_done same then_same =
      (mid, second, done, WritesThrough-one q mid new second then_done then_same, omega (arith, same))

-- Between two pages that are written: the content is good, the translations are true, and the page that follows may be written and
-- has the frame that it needs.
pub record IsBetween (c : Content) (table : ℕ → ℕ → Option Entry) (places : Places) (root p : ℕ) (page : WritablePage) : Type 0 where
  pub good : IsGood c
  pub are : AreTrue c table places
  pub found : IsWritable c table places root p page
  pub same : IsOfEntry places root p page.entry
  pub free : MayOwn c page.entry.koid.0 page.entry.page

-- the first page, or the only one
module _ (c : Content) (table : ℕ → ℕ → Option Entry) (old : Places) (root p : ℕ) (first : WritablePage) (at : ℕ) (part : List ℕ) (mid : Content) (between : Places)
    (good : IsGood c) (are : AreTrue c table old) (is : IsWritable c table old root p first) (fits : at + length part ≤ PAGE)
    (w : WritesTo root p first at part c old mid between) where
  -- it was the only one
  pub WritesSpace-one : (addr : ℕ) (bytes : List ℕ) → touched addr (length bytes) ≡ p ∷ [] → AreAsked c writing (table root) (p ∷ []) (page_shown first.entry ∷ [])
      → used c + need_each c (page_shown first.entry ∷ []) ≤ c.frames → at ≡ part_at addr p → part ≡ part_bytes addr bytes p
      → WritesSpace c table root addr bytes old (fault_of first) mid between
  WritesSpace-one addr bytes one asked free place same = record {
    free = rw one (none-refuses c (table root) (p ∷ []) _ asked free);
    writes = rw one (WritesThrough-one table root addr bytes p _ _ (fault_of first)
        (WritesPage-written c table old root p first at part mid between good are is fits w addr bytes place same) (fault-found c table old root p first is));
  }

  -- the next one follows, and the frames are free that both need
  module _ (second : WritablePage) (then_is : IsWritable c table old root (p + 1) second)
      (free : used c + need_each c (page_shown first.entry ∷ page_shown second.entry ∷ []) ≤ c.frames) where
    -- then the second page is as it has to be to be written
    pub IsBetween-written : IsBetween mid table between root (p + 1) second
    IsBetween-written =
        let still = AreTrue-written c table old root p first at part mid between good are is fits w in
        let found = IsWritable-other c table old root p first at part mid between good are is fits w (p + 1) second (omega arith) then_is in
        record {
          good = (written-here c table old root p first at part mid between good are is fits w).kept.good;
          are = still;
          found = found;
          same = entry-found mid table between root (p + 1) still second.entry between found.entry refl;
          free = second-free c first.entry.koid.0 first.entry.page second.entry.koid.0 second.entry.page good is.store.below at part mid fits
              (writes c table old root p first at part mid between good are is fits w) free;
        }

    -- and it was written
    module _ (then_at : ℕ) (then_part : List ℕ) (d : Content) (new : Places) (then_fits : then_at + length then_part ≤ PAGE)
        (then_w : WritesTo root (p + 1) second then_at then_part mid between d new) where
      -- both parts were written, and the translations are true
      pub WritesSpace-two : (addr : ℕ) (bytes : List ℕ) → touched addr (length bytes) ≡ p ∷ (p + 1) ∷ []
          → AreAsked c writing (table root) (p ∷ (p + 1) ∷ []) (page_shown first.entry ∷ page_shown second.entry ∷ [])
          → at ≡ part_at addr p → part ≡ part_bytes addr bytes p → then_at ≡ part_at addr (p + 1) → then_part ≡ part_bytes addr bytes (p + 1)
          → WritesSpace c table root addr bytes old (fault_of first + fault_of second) d new × AreTrue d table new
      WritesSpace-two addr bytes two asked place same then_place then_same =
          let now = IsBetween-written in (
            record {
              free = rw two (none-refuses c (table root) (p ∷ (p + 1) ∷ []) _ asked free);
              writes = rw two (WritesThrough-two table root addr bytes p (p + 1) _ _ _ (fault_of first) (fault_of second)
                  (WritesPage-written c table old root p first at part mid between good are is fits w addr bytes place same)
                  (WritesPage-written mid table between root (p + 1) second then_at then_part d new now.good now.are now.found then_fits then_w addr bytes then_place then_same)
                  (fault-found c table old root p first is) (fault-found mid table between root (p + 1) second now.found));
            },
            AreTrue-written mid table between root (p + 1) second then_at then_part d new now.good now.are now.found then_fits then_w,
          )

-- no bytes
pub WritesSpace-none : (c : Content) (table : ℕ → ℕ → Option Entry) (old : Places) (root addr : ℕ) (bytes : List ℕ) → length bytes ≡ 0 → WritesSpace c table root addr bytes old 0 c old
unfolding used need_from
WritesSpace-none c table old root addr bytes empty =
    let none : touched addr (length bytes) ≡ [] = rw empty (touched-nil addr) in
    record {
      free = rw none (none-refuses c (table root) [] [] (AreAsked-none c writing (table root)) (omega (arith, count_below_le c.frames (in_use c))));
      writes = rw none (refl, refl);
    }
