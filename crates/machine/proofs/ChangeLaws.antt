-- What a command may change of what is ready, and where its pages lie.
use Rattle.std.proofs.Common.{◌≡◌, ◌≢◌, ℕ, ◌+◌, ◌-◌, ◌*◌, ◌/◌, ◌≤◌, length, Option, None, Some, refl, sym, ap, subst, ◌∙◌, inl, inr, arith}
use Rattle.std.specs.Prelude.{Result, IfOk, MatchResult}
use Rattle.std.specs.declared.result.Result.TheVariants.{Ok, Err}
use Rattle.std.proofs.lemmas.Bool.{ltb-false}
use Rattle.std.proofs.lemmas.List.FromFn.{length-range_with_len}
use Rattle.vm_base.specs.Pages.{rounded}
use Rattle.vm_base.specs.declared.limits.TheConstants.{PAGE, VMO_PAGES}
use Rattle.vm_base.specs.declared.names.PinName.{PinName}
use Rattle.vm_base.specs.declared.names.VmoName.{VmoName}
use Rattle.vm_base.specs.declared.refusal.Refusal.{Refusal}
use Rattle.vm_model.specs.Machine.Words.{Command, Reply}
use Rattle.vm_model.specs.declared.command.Command.TheVariants.{VmoPin}
use Rattle.vm_model.specs.declared.names.Target.{Target}
use Rattle.vm_model.specs.declared.reply.Reply.TheVariants.{Done, Refused}
use Rattle.vm_model.specs.declared.space.Region.{Region}
use Rattle.vm_model.specs.Contents.Content.{Content, pages_of}
use Rattle.vm_model.specs.Contents.Writing.{touched}
use Rattle.vm_model.specs.Space.Regions.{region_of, end_of}
use Rattle.vm_model.specs.Machine.Given.{GivesName}
use Rattle.vm_model.specs.Machine.State.{State, target_of, size_of, IsGoodState}
use Rattle.vm_model.specs.Machine.Refusals.{refusals, first_of}
use Rattle.vm_model.specs.Machine.Step.{StepAfter, Step, reply_of}
use Rattle.vm_model.proofs.ContentLaws.{pages_of_le}
use Rattle.vm_model.proofs.NamesLaws.{target_of-at}
use Rattle.vm_model.proofs.RegionLaws.{region_of-at}
use Rattle.vm_model.proofs.StepLaws.{AllOff-from_none, place_inside}
use Rattle.vmo_table.specs.Table.{names_of}
use Rattle.vmo_ops.specs.declared.ranges.TouchedPages.{TouchedPages}
use Rattle.vmo_ops.specs.Ranges.{AreTouched}
use Rattle.ready_pages.specs.declared.change.Change.{Change}
use Rattle.machine.specs.declared.tables.Tables.{Tables}
use Rattle.machine.specs.inside.Changes.{range_part, region_part, change_made}
use Rattle.machine.specs.inside.Fields.{state_in, IsCounted}
use Rattle.machine.specs.inside.Steps.{Handles}

-- ---- ranges of bytes

-- the pages that a range touches end behind as many as there are
touched_ends : (at len : ℕ) (pages : TouchedPages) → AreTouched at len pages → pages.end ≡ at / PAGE + length (touched at len)
touched_ends at len pages is =
    let count : length (touched at len) ≡ pages.end - pages.first = ap length is.row ∙ length-range_with_len pages.first (pages.end - pages.first) in
    omega (arith, count, is.first, is.order)

-- so a change of their frames is that of the range
pub touched_part : (target : Target) (offset len : ℕ) (pages : TouchedPages) → AreTouched (target.first * PAGE + offset) len pages
    → Change.Frames target.koid pages.first pages.end ≡ range_part target offset len
touched_part target offset len pages is =
    let ends = touched_ends (target.first * PAGE + offset) len pages is in λ i. Change.Frames target.koid (is.first i) (ends i)

-- ---- names

-- what is changed by the name of a target
pub changed_named : (s : State) (name : ℕ) {target : Target} {change : Change} (of : Target → Change) → Some target ≡ s.names name → change ≡ of target
    → change ≡ of (target_of s name)
changed_named s name {target} of named e = e ∙ ap of (sym (target_of-at s name target (sym named)))

-- a command that changes pages of a range of a name
pub handles_range : {c d : Content} {t : Tables} (name : VmoName) {target : Target} (command : Command) (offset len : ℕ) {change : Change}
    → ((s : State) (reply : Reply) → change_made s command reply ≡ range_part (target_of s name.0) offset len) → GivesName command → IsCounted t
    → Some target ≡ names_of t.vmos name.0 → (outcome : Result TouchedPages Refusal) → Step (state_in c t) command (reply_of (λ _. Done) outcome) (state_in d t)
    → IfOk outcome (AreTouched (target.first * PAGE + offset) len)
    → MatchResult outcome (λ pages. change ≡ Change.Frames target.koid pages.first pages.end) (λ _. change ≡ Change.None)
    → Handles c t command (reply_of (λ _. Done) outcome) change d t
handles_range {c} {t = t} name {target} command offset len range gives counted named (Ok pages) step are is =
    let s = state_in c t in record {
      step = step;
      changes = changed_named s name.0 (λ (v : Target). range_part v offset len) named (is ∙ touched_part target offset len pages are) ∙ sym (range s Done);
      counted = counted;
      name = gives;
    }
handles_range name command offset len range gives counted named (Err refusal) step are is = record { step = step; changes = is; counted = counted; name = gives }

-- a pinned range lies in its VMO
pub pinned_inside : (s new : State) (pin : PinName) (name : VmoName) {target : Target} (offset len : ℕ) {reply : Reply} → IsGoodState s
    → Step s (VmoPin pin name offset len) reply new → ((refusal : Refusal) → reply ≢ Refused refusal) → Some target ≡ s.names name.0
    → target.first * PAGE + offset + len ≤ VMO_PAGES * PAGE
pinned_inside s new pin name {target} offset len {reply} good step done named = go (first_of (refusals s (VmoPin pin name offset len))) refl step.outcome where
  few : first_of (refusals s (VmoPin pin name offset len)) ≡ None → target.first * PAGE + offset + len ≤ VMO_PAGES * PAGE
  few none =
      let off = AllOff-from_none (refusals s (VmoPin pin name offset len)) none in
      let inside = subst (λ (t : Target). t.first * PAGE + offset + len ≤ pages_of s.content t.koid.0 * PAGE) (target_of-at s name.0 target (sym named))
      (place_inside s name.0 target offset len good (sym named) (ltb-false (size_of s name.0) (offset + len) off.1.1.1.0)) in
      omega (arith, inside, pages_of_le s.content target.koid.0 good.content)

  go : (o : Option Refusal) → first_of (refusals s (VmoPin pin name offset len)) ≡ o → StepAfter o s (VmoPin pin name offset len) reply new
      → target.first * PAGE + offset + len ≤ VMO_PAGES * PAGE
  go (Some refusal) e refused = absurd (done refusal refused.answer)
  go None e (inl effect) = few e
  go None e (inr lacked) = absurd (done _ lacked.0.answer)

-- ---- commands on regions

-- the pages of a range of a region
pub part_changed : (regions : ℕ → Option Region) (name : ℕ) {region : Region} → regions name ≡ Some region → (addr len first count : ℕ) → first ≡ addr / PAGE → count ≡ rounded len / PAGE
    → Change.Mapped region.root first (first + count) ≡ region_part (region_of regions name) addr len
part_changed regions name {region} given addr len first count begins counts =
    (λ i. Change.Mapped region.root (begins i) (begins i + counts i)) ∙ ap (λ (r : Region). region_part r addr len) (sym (region_of-at regions name region given))

-- those of a whole region
pub whole_changed : (regions : ℕ → Option Region) (name : ℕ) {region : Region} → regions name ≡ Some region
    → let is = region_of regions name in Change.Mapped region.root region.first (region.first + region.count) ≡ Change.Mapped is.root is.first (end_of is)
whole_changed regions name {region} given = ap (λ (r : Region). Change.Mapped r.root r.first (end_of r)) (sym (region_of-at regions name region given))
