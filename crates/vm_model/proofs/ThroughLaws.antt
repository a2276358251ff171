-- Laws of what an access through mappings finds: how many pages a VMO has, and the bytes of a short read.
use Rattle.std.proofs.Common.{◌≡◌, ℕ, ◌+◌, ◌/◌, ◌%◌, ◌≤◌, List, ◌++◌, length, map, take, drop, get_or, Option, Some, refl, sym, ap, ◌∙◌, arith}
use Rattle.std.specs.List.{range_with_len}
use Rattle.std.proofs.lemmas.Grind.{same_number_lists}
use Rattle.std.proofs.lemmas.List.{get_or-drop, get_or-take, length-drop, length-take, take-append-drop}
use Rattle.std.proofs.lemmas.List.FromFn.{get_or-map-range_with_len, length-map-range_with_len, take-map-range_with_len}
use Rattle.vm_base.specs.declared.limits.TheConstants.{PAGE}
use Rattle.vm_model.specs.declared.space.Entry.{Entry}
use Rattle.vm_model.specs.Contents.Content.{Content, shown}
use Rattle.vm_model.proofs.ContentLaws.{pages_of-at}
use Rattle.vm_model.specs.Machine.Access.{entry_at, byte_through, bytes_through}

module _ (c : Content) (entries : ℕ → Option Entry) where
  -- a range without its first bytes
  bytes_through-behind : (addr n m : ℕ) → drop n (bytes_through c entries addr (n + m)) ≡ bytes_through c entries (addr + n) m
  unfolding bytes_through
  bytes_through-behind = grind (arith, same_number_lists, length-drop, length-map-range_with_len, get_or-drop, get_or-map-range_with_len)

  -- two ranges, one behind the other
  pub bytes_through-append : (addr n m : ℕ) → bytes_through c entries addr (n + m) ≡ bytes_through c entries addr n ++ bytes_through c entries (addr + n) m
  unfolding bytes_through
  bytes_through-append addr n m =
      let whole = bytes_through c entries addr (n + m) in
      let front = take-map-range_with_len (byte_through c entries) addr (n + m) n (omega arith) in
      sym (take-append-drop n whole) ∙ ap (λ (bytes : List ℕ). bytes ++ drop n whole) front
      ∙ ap (λ (bytes : List ℕ). map (byte_through c entries) (range_with_len addr n) ++ bytes) (bytes_through-behind addr n m)

  -- the byte at an address of a page with this entry
  byte_through-page : (addr page at : ℕ) (entry : Entry) → entries page ≡ Some entry → addr / PAGE ≡ page → addr % PAGE ≡ at
      → byte_through c entries addr ≡ get_or (shown c entry.koid.0 entry.page) at 0
  unfolding entry_at
  byte_through-page addr page at entry is here place = rw (here, is, place) refl

  -- a range inside one page
  pub bytes_through-page : (addr n : ℕ) (entry : Entry) → entries (addr / PAGE) ≡ Some entry → length (shown c entry.koid.0 entry.page) ≡ PAGE
      → addr % PAGE + n ≤ PAGE → bytes_through c entries addr n ≡ take n (drop (addr % PAGE) (shown c entry.koid.0 entry.page))
  unfolding bytes_through
  bytes_through-page addr n entry is size fits =
      grind (arith, same_number_lists, length-map-range_with_len, length-take, length-drop, get_or-map-range_with_len, get_or-take, get_or-drop, byte_through-page)

-- what a check of an access finds
pub ruleset check_laws = (pages_of-at)
