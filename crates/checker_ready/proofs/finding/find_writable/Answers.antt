use Rattle.std.proofs.Common.{◌/◌, arith}
use Rattle.vm_base.specs.declared.limits.TheConstants.{PAGE}
use Rattle.mapping_set.specs.Tables.{table_of}
use Rattle.page_store.specs.Flat.{flat_content}
use Rattle.checker_ready.specs.inside.Pages.{IsMappedInside, LiesInVmo, list_of}
use Rattle.checker_ready.proofs.AskLaws.{each_from, found_two, found_free, found_short}
use Rattle.checker_ready.proofs.finding.find_writable.Goals as goal

pub frames_to_own-requires-clause-inside : goal.frames_to_own-requires-clause-inside
frames_to_own-requires-clause-inside c =
    each_from (IsMappedInside (flat_content c.args.pages.now) (table_of c.args.maps.now) c.args.region.0) (λ p. LiesInVmo (flat_content c.args.pages.now)) (λ p q entry shows. shows.below)
    (c.args.addr / PAGE) 0 (list_of c.in-Ok.found) c.in-Ok.ensures.1.each

pub returns-then-free-ge2 : goal.returns-then-free-ge2
returns-then-free-ge2 c = (
  found_two (flat_content c.args.pages.now) (table_of c.args.maps.now) c.args.region.0 c.args.addr c.args.len (list_of c.in-Ok.found) c.in-Ok.ensures.1 c.in-Ok.ensures.0
      c.requires.len c.free-free.result c.if-free-ge2.true c.free-free.ensures,
  c.in-Ok.ensures.1,
)

pub returns-then-frames_to_own-free : goal.returns-then-frames_to_own-free
returns-then-frames_to_own-free c =
    found_short (flat_content c.args.pages.now) (table_of c.args.maps.now) c.args.region.0 c.args.addr c.args.len (list_of c.in-Ok.found) c.in-Ok.ensures.1 c.in-Ok.ensures.0
    (omega (arith, c.if-frames_to_own-free.true, c.free-free.ensures, c.frames_to_own.ensures))

pub returns : goal.returns
returns c = (
  found_free (flat_content c.args.pages.now) (table_of c.args.maps.now) c.args.region.0 c.args.addr c.args.len (list_of c.in-Ok.found) c.in-Ok.ensures.1 c.in-Ok.ensures.0
      (omega (arith, c.if-frames_to_own-free.false, c.free-free.ensures, c.frames_to_own.ensures)),
  c.in-Ok.ensures.1,
)
