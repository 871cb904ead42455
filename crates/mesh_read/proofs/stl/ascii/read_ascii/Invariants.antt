use Rattle.std.proofs.Common.{◌≡◌, ◌≤◌, ◌<◌, ◌+◌, length, Ok}
use Rattle.mesh_read.specs.Scan.Parts.{lines_in}
use Rattle.mesh_read.specs.Surface.Surfaces.{IsSurface}
use Rattle.mesh_read.specs.Stl.Ascii.{state_of, numbered, after_lines, ended, ascii_of}
use Rattle.mesh_read.proofs.stl.ascii.read_ascii.Given as goal

abbrev pub invariant-loop-line : goal.invariant-loop-line
invariant-loop-line l = record {
  same : ascii_of l.bytes ≡ ended (after_lines (Ok (state_of l.reader)) (numbered l.number (lines_in l.rest)));
  numbered : l.number ≤ l.rest.start + 1;
  count : length l.reader.surface.vertices.items + length l.reader.corners.items < l.number;
  surface : IsSurface l.reader.surface;
}

abbrev pub decreases-loop-line : goal.decreases-loop-line
decreases-loop-line l = length l.rest.bytes.now
