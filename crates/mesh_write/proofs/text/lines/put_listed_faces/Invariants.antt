use Rattle.std.proofs.Common.{◌≡◌, ◌++◌, flat_map, take}
use Rattle.mesh_write.specs.Text.Lines.{listed_face}
use Rattle.mesh_write.proofs.text.lines.put_listed_faces.Given as goal

abbrev pub invariant-loop-triangle : goal.invariant-loop-triangle
invariant-loop-triangle l = l.out.items ≡ l.fn.out.items ++ flat_map listed_face (take l.triangle-index l.triangles)
