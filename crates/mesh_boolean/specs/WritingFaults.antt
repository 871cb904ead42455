-- Why a mesh isn't written
use Rattle.std.specs.Prelude.{⊤, ◌⊎◌, ◌^◌, ◌≤◌, ◌<◌, List, [], length}
use Rattle.std.specs.List.{Any}
use Rattle.mesh_write.specs.declared.glb.fault.GlbWriteFault.{GlbWriteFault}
use Rattle.mesh_write.specs.declared.glb.fault.GlbWriteFault.TheVariants as glb_fault
use Rattle.mesh_write.specs.Glb.Written.{IsTooLong}
use Rattle.mesh_grid.specs.declared.grid.grid.Grid.{Grid}
use Rattle.mesh_solid.specs.declared.mesh.mesh.SolidMesh.{SolidMesh}
use Rattle.mesh_write.specs.declared.stl.fault.StlWriteFault.{StlWriteFault}
use Rattle.mesh_write.specs.declared.stl.fault.StlWriteFault.TheVariants as stl_fault
use Rattle.mesh_write.specs.declared.stl.triangle.FloatTriangle.{FloatTriangle}
use Rattle.mesh_written.specs.declared.fault.PlaceFault.{PlaceFault}
use Rattle.mesh_written.specs.declared.fault.PlaceFault.TheVariants as place_fault
use Rattle.mesh_written.specs.Decimals.{IsFarPoint}
use Rattle.mesh_written.specs.Floats.{IsTooFar}
use Rattle.mesh_boolean.specs.declared.wanted.FloatFormat.{FloatFormat}
use Rattle.mesh_boolean.specs.declared.wanted.FloatFormat.TheVariants.{Stl, Glb}
use Rattle.mesh_boolean.specs.declared.wanted.MeshFormat.{MeshFormat}
use Rattle.mesh_boolean.specs.declared.wanted.MeshFormat.TheVariants.{Floats, Text}
use Rattle.mesh_boolean.specs.declared.writing_fault.WritingFault.{WritingFault}
use Rattle.mesh_boolean.specs.declared.writing_fault.WritingFault.TheVariants.{TooFar, TooManyTriangles, OutOfMemory}
use Rattle.mesh_boolean.specs.Outputs.{AreRounded}

-- ---- the faults of the steps, where want of memory is one
abbrev pub of_place_fault : PlaceFault → WritingFault
of_place_fault place_fault.TooFar = TooFar
of_place_fault place_fault.OutOfMemory = OutOfMemory

abbrev pub of_stl_fault : StlWriteFault → WritingFault
of_stl_fault stl_fault.TooManyTriangles = TooManyTriangles
of_stl_fault stl_fault.OutOfMemory = OutOfMemory

abbrev pub of_glb_fault : GlbWriteFault → WritingFault
of_glb_fault glb_fault.TooManyTriangles = TooManyTriangles
of_glb_fault glb_fault.OutOfMemory = OutOfMemory

-- ---- the file
-- the mesh lies where floats are so far apart that each of its triangles vanishes when it is rounded, though it has
-- some
pub record IsRoundedAway (grid : Grid) (mesh : SolidMesh) : Type 0 where
  pub some : 0 < length mesh.triangles.items
  pub none_left : AreRounded grid mesh []

-- a corner rounds to infinity, or the whole mesh to nothing; or a corner is too far out for a decimal
abbrev pub LiesTooFar : MeshFormat → Grid → SolidMesh → Type 0
LiesTooFar (Floats format) grid mesh =
    Any (IsTooFar grid.step grid.offset) mesh.corners.items ⊎ IsRoundedAway grid mesh
LiesTooFar (Text format digits) grid mesh = Any (IsFarPoint grid.step grid.offset) mesh.corners.items

-- there are too many triangles for an STL, or their GLB is too long
abbrev pub AreTooMany : FloatFormat → List FloatTriangle → Type 0
AreTooMany Stl written = 2 ^ 32 ≤ length written
AreTooMany Glb written = IsTooLong written

-- why triangles have no file
abbrev pub IsFloatFileFault : FloatFormat → List FloatTriangle → WritingFault → Type 0
IsFloatFileFault format written TooFar = ⊥
IsFloatFileFault format written TooManyTriangles = AreTooMany format written
IsFloatFileFault format written OutOfMemory = ⊤

-- too many triangles are left
pub record HasTooManyFor (format : FloatFormat) (grid : Grid) (mesh : SolidMesh) : Type 0 where
  pub written : List FloatTriangle
  pub rounded : AreRounded grid mesh written
  pub many : AreTooMany format written

abbrev pub HasTooMany : MeshFormat → Grid → SolidMesh → Type 0
HasTooMany (Floats format) grid mesh = HasTooManyFor format grid mesh
HasTooMany (Text format digits) grid mesh = ⊥

-- why a mesh isn't written
abbrev pub IsWritingFault : MeshFormat → Grid → SolidMesh → WritingFault → Type 0
IsWritingFault format grid mesh TooFar = LiesTooFar format grid mesh
IsWritingFault format grid mesh TooManyTriangles = HasTooMany format grid mesh
IsWritingFault format grid mesh OutOfMemory = ⊤
