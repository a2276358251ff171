-- Laws of what keeps a VMO live: a name that stands for it, a pin of it, or an entry that shows a page of it. Nothing else opens
-- the word.
use Rattle.std.proofs.Common.{◌≡◌, ℕ, Bool, true, false, ◌||◌, ◌⊎◌, inl, inr, ap, ◌∙◌}
use Rattle.std.proofs.lemmas.Bool.{or_cases, or_parts, or_left, or_right}
use Rattle.vm_model.specs.Naming.Names.{is_named}
use Rattle.vm_model.specs.Naming.Pins.{has_pin}
use Rattle.vm_model.specs.Space.AddressSpaces.{is_mapped}
use Rattle.vm_model.specs.Machine.State.{State, is_live}

module _ (s : State) (v : ℕ) where
  -- a name keeps it
  pub is_live-named : is_named s.names v ≡ true → is_live s v ≡ true
  unfolding is_live
  is_live-named named = or_left (is_named s.names v) (has_pin s.pins v || is_mapped s.spaces v) named

  -- and so does a pin
  pub is_live-pinned : has_pin s.pins v ≡ true → is_live s v ≡ true
  unfolding is_live
  is_live-pinned pinned =
      or_right (is_named s.names v) (has_pin s.pins v || is_mapped s.spaces v) (or_left (has_pin s.pins v) (is_mapped s.spaces v) pinned)

  -- and so does an entry
  pub is_live-mapped : is_mapped s.spaces v ≡ true → is_live s v ≡ true
  unfolding is_live
  is_live-mapped mapped =
      or_right (is_named s.names v) (has_pin s.pins v || is_mapped s.spaces v) (or_right (has_pin s.pins v) (is_mapped s.spaces v) mapped)

  -- what is live is kept by one of them
  pub is_live_cases : is_live s v ≡ true → (is_named s.names v ≡ true) ⊎ (has_pin s.pins v ≡ true) ⊎ (is_mapped s.spaces v ≡ true)
  unfolding is_live
  is_live_cases live = elim (or_cases (is_named s.names v) (has_pin s.pins v || is_mapped s.spaces v) live) [
    | inl named ↦ inl named
    | inr other ↦ inr (or_cases (has_pin s.pins v) (is_mapped s.spaces v) other)
  ]

  -- what is not live is kept by none
  pub is_live_none : is_live s v ≡ false → (is_named s.names v ≡ false) × (has_pin s.pins v ≡ false) × (is_mapped s.spaces v ≡ false)
  unfolding is_live
  is_live_none off =
      let parts = or_parts (is_named s.names v) (has_pin s.pins v || is_mapped s.spaces v) off in
      let rest = or_parts (has_pin s.pins v) (is_mapped s.spaces v) parts.1 in
      (parts.0, rest.0, rest.1)

-- what keeps it alike
pub is_live-same : (s t : State) (v : ℕ) → is_named t.names v ≡ is_named s.names v → has_pin t.pins v ≡ has_pin s.pins v
    → is_mapped t.spaces v ≡ is_mapped s.spaces v → is_live t v ≡ is_live s v
unfolding is_live
is_live-same s t v names pins spaces =
    ap (λ (b : Bool). b || (has_pin t.pins v || is_mapped t.spaces v)) names
    ∙ (ap (λ (b : Bool). is_named s.names v || (b || is_mapped t.spaces v)) pins ∙ ap (λ (b : Bool). is_named s.names v || (has_pin s.pins v || b)) spaces)
