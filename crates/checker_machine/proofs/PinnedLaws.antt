-- The frames of pinned pages.
use Rattle.std.proofs.Common.{◌≡◌, ℕ, ◌+◌, ◌<◌, ◌≤◌, Bool, false, Option, None, Some, refl, sym, ap, ◌∙◌, arith}
use Rattle.std.specs.Prelude.{nat_lt, IsTrue, ◌↔◌}
use Rattle.std.specs.Option.{option_map}
use Rattle.std.proofs.lemmas.Bool.{cond-true, cond-false, lt-ltb, le-ltb}
use Rattle.vm_base.proofs.EntryLaws.{some_same}
use Rattle.vm_model.specs.Contents.Content.{Content, Page}
use Rattle.vm_model.specs.Naming.Pins.{Pin, is_pinned, any_pinned}
use Rattle.vm_model.specs.Space.Readiness.{frame_at}
use Rattle.vm_model.specs.Machine.State.{State, IsGoodState}
use Rattle.vm_model.specs.Machine.Machine.{Machine, IsGoodMachine}
use Rattle.vm_model.proofs.ContentLaws.{sole_alone}
use Rattle.moving_model.proofs.PinnedLaws.{pinned_alone}
use Rattle.vmo_ops.proofs.ZeroLaws.{any_pinned_one}
use Rattle.vm_model.proofs.ContentLaws.{pages_of_le}
use Rattle.checker_machine.specs.Machine.{HasPinnedFrame, pinned_frame}

-- ---- a page of a pin

pub frame_none : (s : State) (o : Option Pin) (at : ℕ) → None ≡ o → None ≡ pinned_frame s o at
frame_none s o at e = ap (λ (x : Option Pin). pinned_frame s x at) e

pub frame_past : (s : State) (o : Option Pin) (pin : Pin) (at : ℕ) → Some pin ≡ o → pin.count ≤ at → None ≡ pinned_frame s o at
frame_past s o pin at e past =
    sym (cond-false (nat_lt at pin.count) (frame_at s.content pin.koid (pin.first + at)) None (le-ltb at pin.count past)) ∙ ap (λ (x : Option Pin). pinned_frame s x at) e

pub frame_there : (s : State) (o : Option Pin) (pin : Pin) (at : ℕ) (frame : Option ℕ) → Some pin ≡ o → at < pin.count → frame ≡ frame_at s.content pin.koid (pin.first + at)
    → frame ≡ pinned_frame s o at
frame_there s o pin at frame e low is =
    is ∙ (sym (cond-true (nat_lt at pin.count) (frame_at s.content pin.koid (pin.first + at)) None (lt-ltb at pin.count low)) ∙ ap (λ (x : Option Pin). pinned_frame s x at) e)

-- a pin ends at the greatest size of a VMO or before
pub pin_fits : (s : State) (n : ℕ) (pin : Pin) (at : ℕ) → IsGoodState s → Some pin ≡ s.pins n → at < pin.count → pin.first + at < 68719476736
pin_fits s n pin at good e low =
    let fine = (good.pins n pin (sym e)).1 in omega (arith, fine.inside, low, pages_of_le s.content pin.koid good.content)

-- ---- a frame

-- the page that has a frame is held
frame_held : (c : Content) (v p tag : ℕ) → frame_at c v p ≡ Some tag → (held : Page) × (c.page v p ≡ Some held) × (held.tag ≡ tag)
frame_held c v p tag e = go (c.page v p) refl e where
  go : (o : Option Page) → c.page v p ≡ o → option_map (λ (held : Page). held.tag) o ≡ Some tag → (held : Page) × (c.page v p ≡ Some held) × (held.tag ≡ tag)
  go None is f = absurd cc
  go (Some held) is f = (held, is, some_same f)

-- a page that has a frame is pinned exactly where a pinned page has it: pinned pages share no frames
pub pinned_found : (m : Machine) (tag v p : ℕ) (b : Bool) → IsGoodMachine m → frame_at m.state.content v p ≡ Some tag → b ≡ any_pinned m.state.pins v p (p + 1)
    → IsTrue b ↔ HasPinnedFrame m tag
pinned_found m tag v p b good frame e = (there, back) where
  is : b ≡ is_pinned m.state.pins v p
  is = e ∙ any_pinned_one m.state.pins v p

  there : IsTrue b → HasPinnedFrame m tag
  there on = let held = frame_held m.state.content v p tag frame in (v, p, held.0, sym is ∙ on, held.1, held.2)

  back : HasPinnedFrame m tag → IsTrue b
  back has =
      let held = frame_held m.state.content v p tag frame in
      let alone = pinned_alone m.state has.0 has.1 good.state has.3 in
      let same = sole_alone m.state.content has.0 has.1 v p has.2 held.0 good.state.content alone has.4 held.1 (held.2 ∙ sym has.5) in
      is ∙ ((λ i. is_pinned m.state.pins (same.0 i) (same.1 i)) ∙ has.3)

-- nor is one where no page has it
pub pinned_nowhere : (m : Machine) (tag : ℕ) → ((v p : ℕ) → frame_at m.state.content v p ≡ Some tag → ⊥) → IsTrue false ↔ HasPinnedFrame m tag
pinned_nowhere m tag none = (λ on. absurd cc, back) where
  back : HasPinnedFrame m tag → IsTrue false
  back has =
      let frame : frame_at m.state.content has.0 has.1 ≡ Some tag = ap (option_map (λ (held : Page). held.tag)) has.4 ∙ ap (λ (t : ℕ). Some t) has.5 in
      absurd (none has.0 has.1 frame)
