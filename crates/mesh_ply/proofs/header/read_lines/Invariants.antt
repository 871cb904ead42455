use Rattle.std.proofs.Common.{◌≡◌, ◌+◌, ◌≤◌, length}
use Rattle.mesh_read.specs.Scan.Parts.{lines_in, after_lines}
use Rattle.mesh_ply.specs.Header.{header_from, nothing_declared}
use Rattle.mesh_ply.specs.HeaderViews.{header_of}
use Rattle.mesh_ply.proofs.header.read_lines.Given as goal

abbrev pub invariant-loop-line : goal.invariant-loop-line
invariant-loop-line l = record {
  same : header_from 1 nothing_declared (lines_in l.file) ≡ header_from (l.number + 1) (header_of l.header) (lines_in l.rest);
  behind : l.rest.bytes.now ≡ after_lines l.number l.file.bytes.now;
  numbered : l.number ≤ l.rest.start;
  shorter : length l.rest.bytes.now ≤ length l.file.bytes.now;
}

abbrev pub decreases-loop-line : goal.decreases-loop-line
decreases-loop-line l = length l.rest.bytes.now
