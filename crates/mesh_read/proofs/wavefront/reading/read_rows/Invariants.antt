use Rattle.std.proofs.Common.{◌≡◌, ◌+◌, ◌≤◌, length, Ok}
use Rattle.mesh_read.specs.Surface.Surfaces.{content_of}
use Rattle.mesh_read.specs.Wavefront.Rows.{rows_of}
use Rattle.mesh_read.specs.Wavefront.RowViews.{rows_in}
use Rattle.mesh_read.specs.Wavefront.ReadWavefront.{after_rows, content_in}
use Rattle.mesh_read.proofs.wavefront.reading.read_rows.Given as goal

abbrev pub invariant-loop-rows : goal.invariant-loop-rows
invariant-loop-rows l = record {
  same : content_in (rows_of l.bytes) ≡ after_rows (Ok (content_of l.surface)) (rows_in l.rows);
  numbered : l.rows.number ≤ l.rows.rest.start + 1;
  few : length l.surface.vertices.items + length l.rows.rest.bytes.now ≤ 268435456;
}

abbrev pub decreases-loop-rows : goal.decreases-loop-rows
decreases-loop-rows l = length l.rows.rest.bytes.now
