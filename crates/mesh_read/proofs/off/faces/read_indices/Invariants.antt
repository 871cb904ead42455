use Rattle.std.proofs.Common.{◌≡◌}
use Rattle.mesh_read.specs.Scan.Parts.{words_in}
use Rattle.mesh_read.specs.Off.ReadOff.{indices}
use Rattle.mesh_read.proofs.Corners.{corners_front}
use Rattle.mesh_read.proofs.off.faces.read_indices.Given as goal

abbrev pub invariant-loop-left : goal.invariant-loop-left
invariant-loop-left l =
    indices l.vertices l.size (words_in l.words) ≡ corners_front l.corners.items (indices l.vertices l.left (words_in l.rest))

abbrev pub decreases-loop-left : goal.decreases-loop-left
decreases-loop-left l = l.left
