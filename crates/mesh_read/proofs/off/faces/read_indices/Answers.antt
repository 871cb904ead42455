use Rattle.std.proofs.Common.{sym, arith}
use Rattle.mesh_read.specs.Scan.Parts.{piece_of, words_in}
use Rattle.mesh_read.specs.Off.ReadOff.{indices}
use Rattle.mesh_read.proofs.Corners.{indices_more}
use Rattle.mesh_read.proofs.off.faces.read_indices.Goals as goal

pub loop-left-preserved : goal.loop-left-preserved
loop-left-preserved c = indices_more (indices c.args.vertices c.args.size (words_in c.args.words)) c.args.vertices
    c.loop-left.corners.items c.add_corner.new.corners.items c.in-Some-number_below.corner c.loop-left.left
    (words_in c.loop-left.rest) (words_in c.in-Some.after) (piece_of c.in-Some.word) (grind arith) c.loop-left.invariant
    c.in-Some.ensures.words (sym c.in-Some-number_below.ensures) c.in-Ok.ensures
