-- Statuses that stand for want of memory
use Rattle.std.specs.Prelude.{Bool, true, false}
use Rattle.ember_expr.specs.declared.fault.ExprFault.TheVariants as expr
use Rattle.mesh_solid.specs.declared.mesh.fault.DocumentFault.TheVariants as document
use Rattle.mesh_solid.specs.declared.mesh.fault.SolidFault.TheVariants as solid
use Rattle.mesh_solid.specs.declared.tables.fault.TableFault.TheVariants as table
use Rattle.mesh_triangles.specs.declared.fault.TrianglesFault.TheVariants as mesh
use Rattle.mesh_refusal.specs.declared.status.Status.{Status}
use Rattle.mesh_refusal.specs.declared.status.Status.TheVariants.{DocumentRefused, ExprRefused, Uncertified}

-- whether out-of-memory is hidden in another status
abbrev pub hides_memory : Status → Bool
hides_memory (ExprRefused expr.OutOfMemory) = true
hides_memory (Uncertified solid.OutOfMemory) = true
hides_memory (Uncertified (solid.NoTables table.OutOfMemory)) = true
hides_memory (Uncertified (solid.NotCut mesh.OutOfMemory)) = true
hides_memory (DocumentRefused document.OutOfMemory) = true
hides_memory (DocumentRefused (document.NoTables table.OutOfMemory)) = true
hides_memory (DocumentRefused (document.NotCut mesh.OutOfMemory)) = true
hides_memory _ = false
