use Rattle.std.proofs.Common.{rules, ◌≡◌, ◌⊎◌, Err, arith}
use Rattle.mesh_read.specs.Surface.Surfaces.{content_of}
use Rattle.mesh_ply.specs.declared.fault.PlyFault.TheVariants.{OutOfMemory}
use Rattle.mesh_ply.specs.CursorViews.{cursor_of}
use Rattle.mesh_ply.specs.RowViews.{row_of}
use Rattle.mesh_ply.specs.ReadPly.{rows_from}
use Rattle.mesh_ply.proofs.RowSteps.{rows_more, rows_short, rows_fault}
use Rattle.mesh_ply.proofs.elements.read_rows.Goals as goal

pub loop-left-preserved : goal.loop-left-preserved
loop-left-preserved c = record {
  same = rows_more (rows_from c.args.element c.args.declarations.now 1 c.args.element.count
      (content_of c.args.surface.now) (cursor_of c.args.cursor)) c.args.element c.args.declarations.now c.loop-left.number
      c.loop-left.left (content_of c.loop-left.surface) (content_of c.add_row.new.surface) (cursor_of c.loop-left.rest)
      (cursor_of c.in_ok-after.after) c.row_place-place.result (row_of c.read_row.new.row) (grind arith)
      c.loop-left.invariant.same c.row_place-place.ensures c.in_ok-after.ensures.ok c.in_ok-add_row.ensures.ok;
  few = omega (arith, c.in_ok-add_row.ensures.count, c.in_ok-after.ensures.shorter c.requires.property, c.loop-left.invariant.few);
  numbered = omega (arith, c.in_ok-after.ensures.shorter c.requires.property, c.loop-left.invariant.numbered);
}

pub returns-in_err-after-clause-fault : goal.returns-in_err-after-clause-fault
returns-in_err-after-clause-fault c =
    let fault : (c.in_err-after.field-0.0 ≡ OutOfMemory) ⊎
    (rows_from c.args.element c.args.declarations.now 1 c.args.element.count (content_of c.args.surface.now)
    (cursor_of c.args.cursor) ≡ Err c.in_err-after.field-0.0) =
    rows_short (rows_from c.args.element c.args.declarations.now 1 c.args.element.count
    (content_of c.args.surface.now) (cursor_of c.args.cursor)) c.args.element c.args.declarations.now
    c.loop-left.number c.loop-left.left (content_of c.loop-left.surface) (cursor_of c.loop-left.rest)
    c.row_place-place.result c.in_err-after.field-0.0 (grind arith) c.loop-left.invariant.same
    c.row_place-place.ensures c.in_err-after.ensures.fault in
    search rules

pub returns-in_err-add_row-clause-fault : goal.returns-in_err-add_row-clause-fault
returns-in_err-add_row-clause-fault c =
    let fault : (c.in_err-add_row.field-0.0 ≡ OutOfMemory) ⊎
    (rows_from c.args.element c.args.declarations.now 1 c.args.element.count (content_of c.args.surface.now)
    (cursor_of c.args.cursor) ≡ Err c.in_err-add_row.field-0.0) =
    rows_fault (rows_from c.args.element c.args.declarations.now 1 c.args.element.count
    (content_of c.args.surface.now) (cursor_of c.args.cursor)) c.args.element c.args.declarations.now
    c.loop-left.number c.loop-left.left (content_of c.loop-left.surface) (cursor_of c.loop-left.rest)
    (cursor_of c.in_ok-after.after) c.row_place-place.result (row_of c.read_row.new.row) c.in_err-add_row.field-0.0
    (grind arith) c.loop-left.invariant.same c.row_place-place.ensures c.in_ok-after.ensures.ok
    c.in_err-add_row.ensures.fault in
    search rules
