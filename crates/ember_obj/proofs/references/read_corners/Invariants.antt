use Rattle.std.proofs.Common.{◌≡◌, length}
use Rattle.ember_obj.specs.Scan.{fields_of}
use Rattle.ember_obj.specs.References.{corners_of, in_front}
use Rattle.ember_obj.proofs.references.read_corners.Given as goal

abbrev pub invariant-loop-reference : goal.invariant-loop-reference
invariant-loop-reference l = corners_of l.line l.vertices (fields_of l.fields) ≡ in_front l.corners.items (corners_of l.line l.vertices (fields_of l.rest))

abbrev pub decreases-loop-reference : goal.decreases-loop-reference
decreases-loop-reference l = length l.rest
