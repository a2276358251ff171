-- Whether a call may want memory of the host.
use Rattle.std.proofs.Common.{◌≡◌, ℕ, zero, suc, ◌+◌, ◌-◌, ◌*◌, ◌<◌, ◌≤◌, Bool, true, false, not, ◌&&◌, ◌||◌, Option, None, Some, Result, Ok, Err, refl, sym, ap, ◌∙◌, inl, inr, arith}
use Rattle.std.specs.Prelude.{is_some, is_ok, nat_lt}
use Rattle.std.specs.List.{list_any, range_with_len}
use Rattle.std.specs.Option.{option_map}
use Rattle.std.proofs.lemmas.Bool.{cases_eq, cases_lt, lt-ltb, le-ltb, or_parts, ltb-false}
use Rattle.vm_base.specs.declared.limits.TheConstants.{DATA_BYTES, PAGE}
use Rattle.vm_base.specs.declared.names.Koid.{Koid}
use Rattle.vm_base.specs.declared.names.RegionName.{RegionName}
use Rattle.vm_base.specs.declared.names.VmoName.{VmoName}
use Rattle.vm_base.specs.declared.refusal.Refusal.{Refusal}
use Rattle.vm_base.specs.declared.refusal.Refusal.TheVariants.{BadHandle}
use Rattle.vm_model.specs.Machine.Words.{Command}
use Rattle.vm_model.specs.declared.command.Command.TheVariants as Command
use Rattle.vm_model.specs.declared.command.Command.TheVariants.{VmoChild, MemRead}
use Rattle.vm_model.specs.declared.command.ChildKind.{ChildKind}
use Rattle.vm_model.specs.declared.command.ChildKind.TheVariants.{Snapshot, Slice, Reference}
use Rattle.vm_model.specs.declared.names.Target.{Target}
use Rattle.vm_model.specs.declared.space.Entry.{Entry}
use Rattle.vm_model.specs.declared.space.Region.{Region}
use Rattle.vm_model.specs.Contents.Content.{Content}
use Rattle.vm_model.specs.Contents.Writing.{touched}
use Rattle.vm_model.specs.Space.Mappings.{is_mapped_in}
use Rattle.vm_model.specs.Space.Regions.{region_of}
use Rattle.vm_model.specs.Machine.State.{State, koid_of}
use Rattle.vm_model.specs.Machine.Refusals.{refusals, first_of}
use Rattle.vm_model.specs.Machine.Step.{may_lack_memory, touches_any}
use Rattle.vm_model.specs.Machine.Machine.{Machine}
use Rattle.vm_model.specs.Machine.MachineStep.{may_want_memory}
use Rattle.vm_model.proofs.NamesLaws.{target_of-at}
use Rattle.vm_model.proofs.RegionLaws.{region_of-at}
use Rattle.vm_model.proofs.StepLaws.{AllOff-from_none}
use Rattle.vmo_table.specs.Table.{Vmos, AreParts}
use Rattle.pin_table.specs.Table.{Pins, pin_of, pins_of}
use Rattle.vmo_ops.specs.declared.ranges.TouchedPages.{TouchedPages}
use Rattle.vmo_ops.specs.Ranges.{touched_row}
use Rattle.vmo_ops.specs.Targets.{with_tables, AreTogether}
use Rattle.machine.specs.declared.groups.Group.{Group}
use Rattle.machine.specs.Groups.{group_of}
use Rattle.checker_machine.specs.inside.Wanting.{may_lack, may_want}

-- ---- whether a command may want memory

-- a command that is refused wants none
pub lack_refused : (s : State) (command : Command) {refusal : Refusal} → Some refusal ≡ first_of (refusals s command) → false ≡ may_lack s command
lack_refused s command e = ap (λ (o : Option Refusal). not (is_some o) && may_lack_memory s command) e

-- an access that is refused wants none
pub want_refused : (m : Machine) (command : Command) {refusal : Refusal} → Some refusal ≡ first_of (refusals m.state command) → false ≡ may_want m command
want_refused m command e = ap (λ (o : Option Refusal). not (is_some o) && may_want_memory m command) e

-- one that nothing refuses wants it if it may
pub lack_free : (s : State) (command : Command) {may result : Bool} → None ≡ first_of (refusals s command) → result ≡ may
    → result ≡ (not (is_some (first_of (refusals s command))) && may)
lack_free s command {may} e is = is ∙ ap (λ (o : Option Refusal). not (is_some o) && may) e

-- what always wants memory wants it if nothing refuses it
pub lack_asked : (s : State) (command : Command) {A : Type 0} (asked : Result A Refusal) {result : Bool} → result ≡ is_ok asked → may_lack_memory s command ≡ true
    → ((a : A) → asked ≡ Ok a → None ≡ first_of (refusals s command)) → ((refusal : Refusal) → asked ≡ Err refusal → Some refusal ≡ first_of (refusals s command))
    → result ≡ may_lack s command
lack_asked s command (Ok a) is may free refused = is ∙ lack_free s command (free a refl) (sym may)
lack_asked s command (Err refusal) is may free refused = is ∙ lack_refused s command (refused refusal refl)

-- what is no access may want memory of the machine where the state may lack it
lack_want : (m : Machine) (call : Command) → (group_of call ≡ Group.Memory → ⊥) → may_want_memory m call ≡ may_lack_memory m.state call
lack_want m (Command.MemRead region addr len) other = absurd (other refl)
lack_want m (Command.MemWrite region addr bytes) other = absurd (other refl)
lack_want m _ other = refl

pub lack_wants : (m : Machine) (call : Command) {result : Bool} (group : Group) → group_of call ≡ group → (group ≡ Group.Memory → ⊥) → result ≡ may_lack m.state call → result ≡ may_want m call
lack_wants m call group e other is =
    is ∙ ap (λ (b : Bool). not (is_some (first_of (refusals m.state call))) && b) (sym (lack_want m call (λ memory. other (sym e ∙ memory))))

-- a question about the whole machine wants none
pub none_lacks : (s : State) (call : Command) → group_of call ≡ Group.Machine → false ≡ may_lack s call
none_lacks s Command.Stat e = refl
none_lacks s _ e = absurd cc

-- a read that nothing refuses is of few bytes
pub read_few : (s : State) (region : RegionName) (addr len : ℕ) → None ≡ first_of (refusals s (MemRead region addr len)) → len ≤ DATA_BYTES
read_few s region addr len none =
    let off = AllOff-from_none (refusals s (MemRead region addr len)) (sym none) in
    ltb-false DATA_BYTES len (or_parts (is_some (region_of s.spaces.regions region.0).parent) (nat_lt DATA_BYTES len) off.1.1.0).1

-- ---- names and pins

-- a table of pins is not asked for what a name stands for
pub parts_of : {c : Content} {vmos : Vmos} {pins : Pins} → AreTogether c vmos pins → AreParts c vmos
parts_of {c} {vmos} {pins} parts = record { rest = with_tables parts.rest c vmos pins; good = parts.good }

-- a pin that is not there
pub pin_free : (pins : Pins) (pin : ℕ) (held : Option (Koid × ℕ × ℕ)) → option_map pin_of held ≡ pins_of pins pin → is_some held ≡ false → pins_of pins pin ≡ None
pin_free pins pin None e off = sym e
pin_free pins pin (Some held) e off = absurd cc

-- a child of a name that is not open
pub child_unnamed : (s : State) (name parent : VmoName) (kind : ChildKind) (offset size : ℕ) (resizable no_write : Bool) → s.names parent.0 ≡ None
    → Some BadHandle ≡ first_of (refusals s (VmoChild name parent kind offset size resizable no_write))
child_unnamed s name parent Snapshot offset size resizable no_write e = rw e refl
child_unnamed s name parent Slice offset size resizable no_write e = rw e refl
child_unnamed s name parent Reference offset size resizable no_write e = rw e refl

-- ---- whether one of some pages passes

pub none_passes : (test : ℕ → Bool) (first n : ℕ) → ((q : ℕ) → first ≤ q → q < first + n → test q ≡ false) → list_any test (range_with_len first n) ≡ false
none_passes test first zero none = refl
none_passes test first (suc n) none =
    rw (none first (omega arith) (omega arith)) (none_passes test (first + 1) n (λ q low high. none q (omega (arith, low)) (omega (arith, high))))

pub one_passes : (test : ℕ → Bool) (first n q : ℕ) → first ≤ q → q < first + n → test q ≡ true → list_any test (range_with_len first n) ≡ true
one_passes test first zero q low high e = absurd (omega (arith, low, high))
one_passes test first (suc n) q low high e = elim (cases_eq q first) [
  | inl same ↦ ap (λ (b : Bool). b || list_any test (range_with_len (first + 1) n)) (ap test (sym same) ∙ e)
  | inr apart ↦ or_true (test first) (one_passes test (first + 1) n q (omega (arith, low, apart)) (omega (arith, high)) e)
] where
  or_true : (a : Bool) {b : Bool} → b ≡ true → (a || b) ≡ true
  or_true true e = refl
  or_true false e = e

-- by the first one that does
pub first_passes : (test : ℕ → Bool) (first end page : ℕ) → first ≤ end → first ≤ page → test page ≡ true → ((q : ℕ) → first ≤ q → q < page → test q ≡ false)
    → nat_lt page end ≡ list_any test (range_with_len first (end - first))
first_passes test first end page order low passes none = elim (cases_lt page end) [
  | inl inside ↦ lt-ltb page end inside ∙ sym (one_passes test first (end - first) page low (omega (arith, inside, order)) passes)
  | inr past ↦ le-ltb page end past ∙ sym (none_passes test first (end - first) (λ q from below. none q from (omega (arith, below, past, order))))
]

-- one of the pages that a range of a name touches, by what the name stands for
pub touches_named : (s : State) (name offset len at : ℕ) {t : Target} (pages : TouchedPages) (test : ℕ → ℕ → Bool) {result : Bool} → Some t ≡ s.names name → at ≡ t.first * PAGE + offset
    → touched at len ≡ touched_row pages → result ≡ list_any (test t.koid.0) (touched_row pages) → result ≡ touches_any s name offset len (test (koid_of s name))
touches_named s name offset len at {t} pages test named place row is =
    is ∙ (ap (list_any (test t.koid.0)) (sym row) ∙ (ap (λ (n : ℕ). list_any (test t.koid.0) (touched n len)) place
    ∙ ap (λ (x : Target). list_any (test x.koid.0) (touched (x.first * PAGE + offset) len)) (sym (target_of-at s name t (sym named)))))

-- whether pages of a region are mapped, by the region
pub mapped_any : (regions : ℕ → Option Region) (table : ℕ → ℕ → Option Entry) (name : ℕ) {region : Region} → regions name ≡ Some region → (first end : ℕ)
    → is_mapped_in (table region.root.0) first end ≡ is_mapped_in (table (region_of regions name).root.0) first end
mapped_any regions table name {region} given first end = ap (λ (r : Region). is_mapped_in (table r.root.0) first end) (sym (region_of-at regions name region given))
