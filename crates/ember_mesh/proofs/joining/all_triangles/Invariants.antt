use Rattle.std.proofs.Common.{◌≡◌, take}
use Rattle.ember_mesh.specs.Joined.{triangles_of}
use Rattle.ember_mesh.proofs.joining.all_triangles.Given as goal

abbrev pub invariant-loop-part : goal.invariant-loop-part
invariant-loop-part l = l.tris.items ≡ triangles_of (take l.part-index l.parts)
