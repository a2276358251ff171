use Rattle.pair_map.specs.Maps.{values_of}
use Rattle.pin_table.specs.inside.Pages.{AllHavePins, AddsPin}
use Rattle.pin_table.proofs.pages.unpin_pages.Given as goal

-- the pages up to here have a pin less
abbrev pub invariant-loop-page : goal.invariant-loop-page
invariant-loop-page l = record {
  kept : AllHavePins (values_of l.pages);
  pin : AddsPin (values_of l.pages) (values_of l.initial.pages) l.koid.0 l.first l.page;
}
