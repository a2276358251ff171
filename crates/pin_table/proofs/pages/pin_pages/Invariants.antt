use Rattle.std.proofs.Common.{◌+◌, ◌≤◌}
use Rattle.pair_map.specs.Maps.{values_of, spare_of}
use Rattle.pin_table.specs.inside.Pages.{AllHavePins, AddsPin}
use Rattle.pin_table.proofs.pages.pin_pages.Given as goal

-- the pages up to here have a pin more, and no more room was taken than pages were passed
abbrev pub invariant-loop-page : goal.invariant-loop-page
invariant-loop-page l = record {
  kept : AllHavePins (values_of l.pages);
  pin : AddsPin (values_of l.initial.pages) (values_of l.pages) l.koid.0 l.first l.page;
  spare : spare_of l.initial.pages + l.first ≤ spare_of l.pages + l.page;
}
