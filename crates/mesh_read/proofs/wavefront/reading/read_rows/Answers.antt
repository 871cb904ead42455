use Rattle.std.proofs.Common.{rules, ◌≡◌, ◌⊎◌, Err, map, arith}
use Rattle.mesh_read.specs.Scan.Parts.{piece_of}
use Rattle.mesh_read.specs.Surface.Surfaces.{content_of}
use Rattle.mesh_read.specs.declared.wavefront.fault.WavefrontFault.TheVariants.{OutOfMemory}
use Rattle.mesh_read.specs.Wavefront.Faults.{fault_of}
use Rattle.mesh_read.specs.Wavefront.Rows.{rows_of}
use Rattle.mesh_read.specs.Wavefront.RowViews.{rows_in}
use Rattle.mesh_read.specs.Wavefront.ReadWavefront.{content_in}
use Rattle.mesh_read.proofs.RowsInOrder.{row_fault}
use Rattle.mesh_read.proofs.wavefront.reading.read_rows.Goals as goal

pub returns-in_err-add_row-clause-fault : goal.returns-in_err-add_row-clause-fault
returns-in_err-add_row-clause-fault c =
    let same : map piece_of c.deref.result.now ≡ map piece_of c.next_row.new.words.items = grind arith in
    let fault : (c.in_err-add_row.field-0.0 ≡ OutOfMemory) ⊎
    (content_in (rows_of c.args.bytes.now) ≡ Err (fault_of c.in_err-add_row.field-0.0)) =
    row_fault (content_in (rows_of c.args.bytes.now)) (content_of c.loop-rows.surface) c.in_err-add_row.field-0.0
    c.loop-rows.rows.number (map piece_of c.next_row.new.words.items) (map piece_of c.deref.result.now)
    (rows_in c.loop-rows.rows) (rows_in c.in-Ok.after) c.loop-rows.invariant.same c.in-Ok.ensures.row same
    c.in_err-add_row.ensures.fault in
    search rules
