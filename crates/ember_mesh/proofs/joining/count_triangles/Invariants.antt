use Rattle.std.proofs.Common.{◌≡◌, ◌≤◌, ◌*◌, length, take}
use Rattle.ember_mesh.specs.Joined.{triangles_of}
use Rattle.ember_mesh.proofs.joining.count_triangles.Given as goal

abbrev pub invariant-loop-part : goal.invariant-loop-part
invariant-loop-part l =
    (l.count ≡ length (triangles_of (take l.part-index l.parts))) × (l.count ≤ 262144 * l.part-index)
