use Rattle.std.proofs.Common.{◌≡◌, ◌-◌, length, map, drop}
use Rattle.mesh_read.specs.Scan.Parts.{piece_of}
use Rattle.mesh_read.specs.Wavefront.ReadWavefront.{corners_of, in_front}
use Rattle.mesh_read.proofs.wavefront.faces.read_corners.Given as goal

abbrev pub invariant-loop-next : goal.invariant-loop-next
invariant-loop-next l =
    corners_of l.line l.vertices (map piece_of l.references) ≡ in_front l.corners.items (corners_of l.line l.vertices (map piece_of (drop l.next l.references)))

abbrev pub decreases-loop-next : goal.decreases-loop-next
decreases-loop-next l = length l.references - l.next
