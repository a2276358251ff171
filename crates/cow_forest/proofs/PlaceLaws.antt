-- The nodes of a table and the places of its array, after each change.
use Rattle.cow_forest.proofs.Words.{◌≡◌, ◌≢◌, ℕ, zero, suc, ◌%◌, ◌<◌, List, [], length, get_or, set, replicate, Option, None, Some, refl}
use Rattle.cow_forest.proofs.Words.{sym, ap, ◌∙◌, inl, inr, arith, slice_index_or, slice_set, get_or-set_same, get_or-set_other, IsSome}
use Rattle.cow_forest.proofs.Words.{is_some, option_or, cases_eq, common_steps, with_key, without_key, some_same, with_key-here}
use Rattle.cow_forest.proofs.Words.{with_key-other, without_key-same, without_key-other, NodeId, NodeEntries, own_node, unless_own}
use Rattle.cow_forest.proofs.Words.{displaced_in, node_in, IsPlacedByNumber}
use Rattle.cow_forest.specs.declared.node_table.TheConstants.{PLACES}

abbrev Entry : Type 0
Entry = ℕ × NodeId

-- the entry at a place of the array
abbrev entry_at : List (Option Entry) → ℕ → Option Entry
entry_at recent i = slice_index_or recent i None

-- ---- one entry

-- an entry is the own one of its number
own-here : (n : ℕ) (node : NodeId) (k : ℕ) → k ≡ n → own_node (Some (n, node)) k ≡ Some node
own-here n node k same = grind (arith, common_steps, same)

-- and of no other
own-other : (o : Option Entry) (k : ℕ) → ((n : ℕ) (node : NodeId) → o ≡ Some (n, node) → k ≢ n) → own_node o k ≡ None
own-other None k apart = refl
own-other (Some e) k apart = let away = apart e.0 e.1 refl in grind (arith, common_steps, away)

-- an entry that was taken away if it was the own one of n is that of the other numbers as before
unless-same : (o : Option Entry) (n : ℕ) → own_node (unless_own o n) n ≡ None
unless-same None n = refl
unless-same (Some e) n = grind (arith, common_steps)

unless-other : (o : Option Entry) (n k : ℕ) → k ≢ n → own_node (unless_own o n) k ≡ own_node o k
unless-other None n k apart = refl
unless-other (Some e) n k apart = grind (arith, common_steps, apart)

unless-was : (o : Option Entry) (n k : ℕ) (node : NodeId) → unless_own o n ≡ Some (k, node) → o ≡ Some (k, node)
unless-was None n k node is = absurd cc
unless-was (Some e) n k node is = grind (arith, common_steps, is)

-- an entry counts before what the map has
own-put : (map : ℕ → Option NodeId) (k : ℕ) (node : NodeId) (n : ℕ) → with_key map k node n ≡ option_or (own_node (Some (k, node)) n) (map n)
unfolding with_key
own-put map k node n = grind (arith, common_steps)

-- the entry that stood at the place of a number went into the map, if it was another's
module _ (o : Option Entry) (number : ℕ) (map : ℕ → Option NodeId) where
  pub displaced-other : (new : ℕ → Option NodeId) (k : ℕ) (node : NodeId) → unless_own o number ≡ Some (k, node) → new ≡ with_key map k node →
      (n : ℕ) → n ≢ number → new n ≡ option_or (own_node o n) (map n)
  displaced-other new k node is put n away = ap (λ (f : ℕ → Option NodeId). f n) put
      ∙ (own-put map k node n ∙ ap (λ (e : Option Entry). option_or (own_node e n) (map n)) (sym (unless-was o number k node is)))

  pub displaced-none : unless_own o number ≡ None → (n : ℕ) → n ≢ number → map n ≡ option_or (own_node o n) (map n)
  displaced-none is n away =
      ap (λ (e : Option NodeId). option_or e (map n)) (sym (ap (λ (e : Option Entry). own_node e n) is) ∙ unless-other o number n away)

-- ---- the array

-- nothing stands in an array of nothing
nothing-at : {A : Type 0} (n i : ℕ) → ◌≡◌ {A = Option A} (get_or (replicate n None) i None) None
nothing-at zero i = refl
nothing-at (suc n) zero = refl
nothing-at (suc n) (suc i) = nothing-at n i

pub none-placed : IsPlacedByNumber (replicate PLACES None)
none-placed = record { place = λ i n node h. absurd (let bad : None ≡ Some (n, node) = sym (nothing-at PLACES i) ∙ h in cc) }

pub none-in : (e : NodeEntries) → e.recent ≡ replicate PLACES None → e.displaced ≡ [] → (n : ℕ) → node_in e n ≡ None
unfolding node_in displaced_in
none-in e recent displaced n =
    ap (λ (r : List (Option Entry)). option_or (own_node (entry_at r (n % PLACES)) n) (displaced_in e.displaced n)) recent
    ∙ (ap (λ (o : Option Entry). option_or (own_node o n) (displaced_in e.displaced n)) (nothing-at PLACES (n % PLACES))
    ∙ ap (λ (d : List Entry). displaced_in d n) displaced)

-- the map changed, and says the same
pub still-in : (old new : NodeEntries) → new.recent ≡ old.recent → displaced_in new.displaced ≡ displaced_in old.displaced → node_in new ≡ node_in old
unfolding node_in
still-in old new recent displaced = λ i n. option_or (own_node (entry_at (recent i) (n % PLACES)) n) (displaced i n)

still-at : (old new : NodeEntries) → new.recent ≡ old.recent → (n : ℕ) → displaced_in new.displaced n ≡ displaced_in old.displaced n → node_in new n ≡ node_in old n
unfolding node_in
still-at old new recent n same = λ i. option_or (own_node (entry_at (recent i) (n % PLACES)) n) (same i)

-- where a number is found
pub found-own : (e : NodeEntries) (n : ℕ) (node : NodeId) → own_node (entry_at e.recent (n % PLACES)) n ≡ Some node → node_in e n ≡ Some node
unfolding node_in
found-own e n node is = ap (λ (o : Option NodeId). option_or o (displaced_in e.displaced n)) is

pub found-displaced : (e : NodeEntries) (n : ℕ) → own_node (entry_at e.recent (n % PLACES)) n ≡ None → node_in e n ≡ displaced_in e.displaced n
unfolding node_in
found-displaced e n is = ap (λ (o : Option NodeId). option_or o (displaced_in e.displaced n)) is

-- One place of the array has another entry, and the map changed.
module _ (old : NodeEntries) (r : IsPlacedByNumber old.recent) (number p : ℕ) (there : p ≡ number % PLACES) (inside : p < length old.recent) where
  set-here : (entry : Option Entry) (i : ℕ) → i ≡ p → entry_at (slice_set old.recent p entry) i ≡ entry
  set-here entry i same = ap (λ (k : ℕ). get_or (set old.recent p entry) k None) same ∙ get_or-set_same old.recent p entry None inside

  set-there : (entry : Option Entry) (i : ℕ) → i ≢ p → entry_at (slice_set old.recent p entry) i ≡ entry_at old.recent i
  set-there entry i apart = get_or-set_other old.recent p i entry None apart

  -- each number that is entered at the place has this place
  pub set-placed : (entry : Option Entry) → ((n : ℕ) (node : NodeId) → entry ≡ Some (n, node) → n % PLACES ≡ p) → IsPlacedByNumber (slice_set old.recent p entry)
  set-placed entry own = record {
    place = λ i n node h. elim (cases_eq i p) [
      | inl same ↦ own n node (sym (set-here entry i same) ∙ h) ∙ sym same
      | inr apart ↦ r.place i n node (sym (set-there entry i apart) ∙ h)
    ];
  }

  -- the table with another entry at the place, and another map
  abbrev changed : Option Entry → List Entry → (spare : ℕ) → NodeEntries
  changed entry displaced spare = record { recent = slice_set old.recent p entry; displaced = displaced; spare = spare }

  module _ (entry : Option Entry) (displaced : List Entry) (spare : ℕ) where
    -- the node of a number of the place, and of another
    node-here : (n : ℕ) → n % PLACES ≡ p → node_in (changed entry displaced spare) n ≡ option_or (own_node entry n) (displaced_in displaced n)
    unfolding node_in
    node-here n at = ap (λ (o : Option Entry). option_or (own_node o n) (displaced_in displaced n)) (set-here entry (n % PLACES) at)

    node-there : (n : ℕ) → n % PLACES ≢ p → displaced_in displaced n ≡ displaced_in old.displaced n → node_in (changed entry displaced spare) n ≡ node_in old n
    unfolding node_in
    node-there n apart same =
        ap (λ (o : Option Entry). option_or (own_node o n) (displaced_in displaced n)) (set-there entry (n % PLACES) apart)
        ∙ ap (option_or (own_node (entry_at old.recent (n % PLACES)) n)) same

  node-was : (n : ℕ) → n % PLACES ≡ p → node_in old n ≡ option_or (own_node (entry_at old.recent p) n) (displaced_in old.displaced n)
  unfolding node_in
  node-was n at = ap (λ (i : ℕ). option_or (own_node (entry_at old.recent i) n) (displaced_in old.displaced n)) at

  -- the entry that stands at the place is of no number of another place
  not-here : (n : ℕ) → n % PLACES ≢ p → own_node (entry_at old.recent p) n ≡ None
  not-here n apart = own-other (entry_at old.recent p) n (λ k node is same. apart (ap (λ (m : ℕ). m % PLACES) same ∙ r.place p k node is))

  -- a number was entered, and the entry of another that stood at its place went into the map
  pub entered-placed : (node : NodeId) → IsPlacedByNumber (slice_set old.recent p (Some (number, node)))
  entered-placed node = set-placed (Some (number, node)) (λ n at is.
      let same : ◌≡◌ {A = Entry} (number, node) (n, at) = some_same is in
      ap (λ (e : Entry). e.0 % PLACES) (sym same) ∙ sym there)

  module _ (node : NodeId) (displaced : List Entry) (spare : ℕ)
      (moved : (n : ℕ) → n ≢ number → displaced_in displaced n ≡ option_or (own_node (entry_at old.recent p) n) (displaced_in old.displaced n)) where
    entered-at : (n : ℕ) → node_in (changed (Some (number, node)) displaced spare) n ≡ with_key (node_in old) number node n
    entered-at n = elim (cases_eq n number) [
      | inl same ↦
          node-here (Some (number, node)) displaced spare n (ap (λ (m : ℕ). m % PLACES) same ∙ sym there)
          ∙ (ap (λ (o : Option NodeId). option_or o (displaced_in displaced n)) (own-here number node n same)
          ∙ sym (with_key-here (node_in old) number node n same))
      | inr away ↦ elim (cases_eq (n % PLACES) p) [
        | inl at ↦
            node-here (Some (number, node)) displaced spare n at
            ∙ (ap (λ (o : Option NodeId). option_or o (displaced_in displaced n))
            (own-other (Some (number, node)) n (λ k w is same. away (same ∙ sym (ap (λ (e : Entry). e.0) (some_same is)))))
            ∙ (moved n away ∙ (sym (node-was n at) ∙ sym (with_key-other (node_in old) number node n away))))
        | inr apart ↦
            node-there (Some (number, node)) displaced spare n apart
            (moved n away ∙ ap (λ (o : Option NodeId). option_or o (displaced_in old.displaced n)) (not-here n apart))
            ∙ sym (with_key-other (node_in old) number node n away)
      ]
    ]

    pub entered-in : node_in (changed (Some (number, node)) displaced spare) ≡ with_key (node_in old) number node
    entered-in = λ i n. entered-at n i

  -- a number left the array and the map
  pub left-placed : (n : ℕ) → IsPlacedByNumber (slice_set old.recent p (unless_own (entry_at old.recent p) n))
  left-placed n = set-placed (unless_own (entry_at old.recent p) n) (λ k node is. r.place p k node (unless-was (entry_at old.recent p) n k node is))

  module _ (displaced : List Entry) (spare : ℕ) (gone : displaced_in displaced ≡ without_key (displaced_in old.displaced) number) where
    -- the entry of the place, unless it is the number's own
    abbrev left-entry : Option Entry
    left-entry = unless_own (entry_at old.recent p) number

    kept-displaced : (n : ℕ) → n ≢ number → displaced_in displaced n ≡ displaced_in old.displaced n
    kept-displaced n away = ap (λ (map : ℕ → Option NodeId). map n) gone ∙ without_key-other (displaced_in old.displaced) number n away

    left-at : (n : ℕ) → node_in (changed left-entry displaced spare) n ≡ without_key (node_in old) number n
    left-at n = elim (cases_eq n number) [
      | inl same ↦
          ap (node_in (changed left-entry displaced spare)) same
          ∙ (node-here left-entry displaced spare number (sym there)
          ∙ (ap (λ (o : Option NodeId). option_or o (displaced_in displaced number)) (unless-same (entry_at old.recent p) number)
          ∙ (ap (λ (map : ℕ → Option NodeId). map number) gone ∙ without_key-same (displaced_in old.displaced) number)))
          ∙ sym (ap (without_key (node_in old) number) same ∙ without_key-same (node_in old) number)
      | inr away ↦ elim (cases_eq (n % PLACES) p) [
        | inl at ↦
            node-here left-entry displaced spare n at
            ∙ (ap (λ (o : Option NodeId). option_or o (displaced_in displaced n)) (unless-other (entry_at old.recent p) number n away)
            ∙ (ap (option_or (own_node (entry_at old.recent p) n)) (kept-displaced n away)
            ∙ (sym (node-was n at) ∙ sym (without_key-other (node_in old) number n away))))
        | inr apart ↦ node-there left-entry displaced spare n apart (kept-displaced n away) ∙ sym (without_key-other (node_in old) number n away)
      ]
    ]

    pub left-in : node_in (changed left-entry displaced spare) ≡ without_key (node_in old) number
    left-in = λ i n. left-at n i

-- ---- another node for a number that has one

-- the entry of the array is the number's own, so that no other number has it
pub own-alone : (e : NodeEntries) (map : ℕ → Option NodeId) (p number : ℕ) → IsSome (own_node (entry_at e.recent p) number) → (n : ℕ) → n ≢ number →
    map n ≡ option_or (own_node (entry_at e.recent p) n) (map n)
own-alone e map p number some n away = by_entry (entry_at e.recent p) some
  where
    is-own : (it : Entry) (k : ℕ) → IsSome (own_node (Some it) k) → k ≡ it.0
    is-own it k some = elim (cases_eq k it.0) [
      | inl same ↦ same
      | inr apart ↦ absurd (let none = ap is_some (own-other (Some it) k (λ n node is same.
          apart (same ∙ sym (ap (λ (x : Entry). x.0) (some_same is))))) in cc)
    ]

    by_entry : (o : Option Entry) → IsSome (own_node o number) → map n ≡ option_or (own_node o n) (map n)
    by_entry None some = refl
    by_entry (Some it) some =
        let own : number ≡ it.0 = is-own it number some in
        ap (λ (o : Option NodeId). option_or o (map n)) (sym (own-other (Some it) n (λ k node is same.
        away (same ∙ (sym (ap (λ (x : Entry). x.0) (some_same is)) ∙ sym own)))))

-- it is in the map, where another node stands for it then
pub changed-in : (old new : NodeEntries) (number : ℕ) (node : NodeId) → new.recent ≡ old.recent →
    own_node (entry_at old.recent (number % PLACES)) number ≡ None → displaced_in new.displaced ≡ with_key (displaced_in old.displaced) number node →
    node_in new ≡ with_key (node_in old) number node
changed-in old new number node recent none put = λ i n. each n i
  where
    each : (n : ℕ) → node_in new n ≡ with_key (node_in old) number node n
    each n = elim (cases_eq n number) [
      | inl same ↦
          ap (node_in new) same
          ∙ (found-displaced new number (ap (λ (r : List (Option Entry)). own_node (entry_at r (number % PLACES)) number) recent ∙ none)
          ∙ (ap (λ (f : ℕ → Option NodeId). f number) put ∙ with_key-here (displaced_in old.displaced) number node number refl))
          ∙ sym (with_key-here (node_in old) number node n same)
      | inr away ↦
          still-at old new recent n (ap (λ (f : ℕ → Option NodeId). f n) put ∙ with_key-other (displaced_in old.displaced) number node n away)
          ∙ sym (with_key-other (node_in old) number node n away)
    ]
