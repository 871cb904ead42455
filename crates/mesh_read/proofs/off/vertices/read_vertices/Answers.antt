use Rattle.std.proofs.Common.{rules, ◌≡◌, ◌⊎◌, Err, ap, length, take, map, arith}
use Rattle.mesh_read.specs.Surface.Surfaces.{point_of}
use Rattle.mesh_read.specs.declared.off.fault.OffFault.TheVariants.{OutOfMemory}
use Rattle.mesh_read.specs.Off.RowViews.{words_of_row, rows_in}
use Rattle.mesh_read.specs.Off.ReadOff.{points_of}
use Rattle.mesh_read.proofs.Joins.{points_more, points_fault, drop_more}
use Rattle.mesh_read.proofs.off.vertices.read_vertices.Goals as goal

pub loop-left-preserved : goal.loop-left-preserved
loop-left-preserved c = record {
  numbered = c.in-Some.ensures.numbered;
  enough = omega (arith, c.loop-left.invariant.enough, ap length c.in-Some.ensures.rows);
  same = points_more (points_of (take c.args.count (rows_in c.args.rows))) (map point_of c.loop-left.vertices.items)
      (map point_of c.add_vertex.new.vertices.items) c.loop-left.left (rows_in c.loop-left.rest) (rows_in c.in-Some.after)
      (words_of_row c.in-Some.row) (grind arith) c.loop-left.invariant.same c.in-Some.ensures.rows
      c.in_ok-add_vertex.ensures.ok;
  behind = drop_more c.args.count c.loop-left.left (rows_in c.args.rows) (rows_in c.loop-left.rest)
      (rows_in c.in-Some.after) (words_of_row c.in-Some.row) (grind arith) c.loop-left.invariant.behind
      c.in-Some.ensures.rows;
}

pub returns-in_err-add_vertex-clause-fault : goal.returns-in_err-add_vertex-clause-fault
returns-in_err-add_vertex-clause-fault c =
    let fault : (c.in_err-add_vertex.field-0.0 ≡ OutOfMemory) ⊎
    (points_of (take c.args.count (rows_in c.args.rows)) ≡ Err c.in_err-add_vertex.field-0.0) =
    points_fault (points_of (take c.args.count (rows_in c.args.rows))) (map point_of c.loop-left.vertices.items)
    c.in_err-add_vertex.field-0.0 c.loop-left.left (rows_in c.loop-left.rest) (rows_in c.in-Some.after)
    (words_of_row c.in-Some.row) (grind arith) c.loop-left.invariant.same c.in-Some.ensures.rows
    c.in_err-add_vertex.ensures.fault in
    search rules
