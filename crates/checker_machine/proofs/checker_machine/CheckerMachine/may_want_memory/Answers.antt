use Rattle.std.proofs.Common.{sym, ◌∙◌}
use Rattle.mapping_set.specs.Backed.{AreBacked}
use Rattle.mapping_set.specs.Tables.{table_of}
use Rattle.vmo_ops.specs.Targets.{AreTogether}
use Rattle.page_store.specs.Flat.{flat_content}
use Rattle.machine.specs.declared.groups.Group.{Group}
use Rattle.machine.specs.Machine.{state_of}
use Rattle.checker_machine.specs.Machine.{CheckerParts, checker_machine_of}
use Rattle.checker_machine.specs.inside.Fields.{checker_parts_of, AreSound}
use Rattle.checker_machine.proofs.WantLaws.{lack_wants, none_lacks, parts_of}
use Rattle.checker_machine.proofs.checker_machine.CheckerMachine.may_want_memory.Goals as goal

-- what the questions require
together : (m : CheckerParts) → AreSound m → AreTogether (flat_content m.pages) m.machine.vmos m.machine.pins
together m sound = record { rest = state_of (flat_content m.pages) m.machine; good = sound.good.state }

backed : (m : CheckerParts) → AreSound m → AreBacked (flat_content m.pages) (table_of m.machine.maps)
backed m sound = record { good = sound.good.state.content; vmos = sound.good.state.spaces.vmos }

pub vmo_wants-requires-clause-parts : goal.vmo_wants-requires-clause-parts
vmo_wants-requires-clause-parts c = rw (c.vmos-vmos.ensures, c.pins-pins.ensures) (together (checker_parts_of c.self.inside) c.self.invariant)

pub pages_want-requires-clause-parts : goal.pages_want-requires-clause-parts
pages_want-requires-clause-parts c = rw (c.vmos-vmos.ensures, c.pins-pins.ensures) (together (checker_parts_of c.self.inside) c.self.invariant)

pub pin_wants-requires-clause-parts : goal.pin_wants-requires-clause-parts
pin_wants-requires-clause-parts c = rw (c.vmos-vmos.ensures, c.pins-pins.ensures) (together (checker_parts_of c.self.inside) c.self.invariant)

pub region_wants-requires-clause-parts : goal.region_wants-requires-clause-parts
region_wants-requires-clause-parts c = rw c.vmos-vmos.ensures (parts_of (together (checker_parts_of c.self.inside) c.self.invariant))

pub region_wants-requires-clause-noted : goal.region_wants-requires-clause-noted
region_wants-requires-clause-noted c = rw (c.regions-regions.ensures, c.maps-maps.ensures.maps) c.maps-maps.ensures.noted

pub memory_wants-requires-clause-backed : goal.memory_wants-requires-clause-backed
memory_wants-requires-clause-backed c = rw c.maps-maps.ensures.maps (backed (checker_parts_of c.self.inside) c.self.invariant)

pub returns-in-Vmo : goal.returns-in-Vmo
unfolding checker_machine_of
returns-in-Vmo c =
    let m = checker_machine_of (checker_parts_of c.self.inside) in
    rw (← c.self.view_is) (lack_wants m c.args.call.now Group.Vmo (sym c.group_of.ensures ∙ c.in-Vmo.is) (λ e. absurd cc) ((rw (c.vmos-vmos.ensures, c.pins-pins.ensures) at c.vmo_wants.ensures) m.state))

pub returns-in-Pages : goal.returns-in-Pages
unfolding checker_machine_of
returns-in-Pages c =
    let m = checker_machine_of (checker_parts_of c.self.inside) in
    rw (← c.self.view_is) (lack_wants m c.args.call.now Group.Pages (sym c.group_of.ensures ∙ c.in-Pages.is) (λ e. absurd cc) ((rw (c.vmos-vmos.ensures, c.pins-pins.ensures) at c.pages_want.ensures) m.state))

pub returns-in-Pin : goal.returns-in-Pin
unfolding checker_machine_of
returns-in-Pin c =
    let m = checker_machine_of (checker_parts_of c.self.inside) in
    rw (← c.self.view_is) (lack_wants m c.args.call.now Group.Pin (sym c.group_of.ensures ∙ c.in-Pin.is) (λ e. absurd cc) ((rw (c.vmos-vmos.ensures, c.pins-pins.ensures) at c.pin_wants.ensures) m.state))

pub returns-in-Region : goal.returns-in-Region
unfolding checker_machine_of
returns-in-Region c =
    let m = checker_machine_of (checker_parts_of c.self.inside) in
    rw (← c.self.view_is) (lack_wants m c.args.call.now Group.Region (sym c.group_of.ensures ∙ c.in-Region.is) (λ e. absurd cc) ((rw (c.vmos-vmos.ensures, c.regions-regions.ensures, c.maps-maps.ensures.maps) at c.region_wants.ensures) m.state))

pub returns-in-Memory : goal.returns-in-Memory
unfolding checker_machine_of
returns-in-Memory c =
    rw (← c.self.view_is) ((rw (c.regions-regions.ensures, c.maps-maps.ensures.maps, c.ready.ensures) at c.memory_wants.ensures) (checker_machine_of (checker_parts_of c.self.inside)).state)

pub returns-in-Machine : goal.returns-in-Machine
unfolding checker_machine_of
returns-in-Machine c =
    let m = checker_machine_of (checker_parts_of c.self.inside) in
    let is = sym c.group_of.ensures ∙ c.in-Machine.is in
    rw (← c.self.view_is) (lack_wants m c.args.call.now Group.Machine is (λ e. absurd cc) (none_lacks m.state c.args.call.now is))
