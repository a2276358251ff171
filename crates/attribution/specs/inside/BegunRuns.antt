-- Runs of mappings that are put together piece by piece.
use Rattle.std.specs.Prelude.{◌*◌, List, Option, None, Some}
use Rattle.vm_base.specs.declared.limits.TheConstants.{PAGE}
use Rattle.vm_model.specs.declared.runs.Run.{Run}
use Rattle.vm_model.specs.Space.Mappings.{run_before}
use Rattle.mapping_set.specs.declared.piece.Piece.{Piece}

-- the run of a piece
abbrev pub run_of : Piece → Run
run_of piece = record {
  addr = piece.first * PAGE;
  len = piece.count * PAGE;
  perm = piece.entry.perm;
  koid = piece.entry.koid;
  offset = piece.entry.page * PAGE;
  region = piece.entry.region;
}

-- the run that was begun, if there is one, before runs
abbrev pub begun_before : Option Run → List Run → List Run
begun_before None runs = runs
begun_before (Some run) runs = run_before run runs
