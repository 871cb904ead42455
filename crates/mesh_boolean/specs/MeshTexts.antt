-- The text of a mesh before it is put into a file
use Rattle.std.specs.Prelude.{ℕ, List}
use Rattle.mesh_write.specs.declared.text.format.TextFormat.{TextFormat}
use Rattle.mesh_write.specs.declared.vertices.point.DecimalTriangle.{DecimalTriangle}
use Rattle.mesh_boolean.specs.declared.text.MeshText.{MeshText}
use Rattle.mesh_boolean.specs.Outputs.{IsTextOver}

-- it is the text of these triangles, with the number of its triangles and whether each of its edges has two
abbrev pub IsMeshTextOver : TextFormat → ℕ → List DecimalTriangle → MeshText → Type 0
IsMeshTextOver format places ts text = IsTextOver format places ts text.bytes.items text.triangles text.is_manifold
