-- The faults of the steps from a mesh to its file are those of the file
use Rattle.std.proofs.Common.{◌≡◌, ℕ, List, Option, Result, Err, inl, arith}
use Rattle.mesh_point.specs.declared.space_point.SpacePoint.{SpacePoint}
use Rattle.mesh_write.specs.declared.glb.fault.GlbWriteFault.{GlbWriteFault}
use Rattle.mesh_write.specs.declared.glb.fault.GlbWriteFault.TheVariants as glb_fault
use Rattle.mesh_write.specs.Glb.Written.{IsTooLong}
use Rattle.mesh_grid.specs.declared.grid.grid.Grid.{Grid}
use Rattle.mesh_write.specs.declared.text.format.TextFormat.{TextFormat}
use Rattle.mesh_grid.specs.declared.snap.offsets.Offset.{Offset}
use Rattle.mesh_grid.specs.declared.snap.steps.GridStep.{GridStep}
use Rattle.mesh_solid.specs.declared.mesh.mesh.SolidMesh.{SolidMesh}
use Rattle.mesh_write.specs.declared.stl.triangle.FloatTriangle.{FloatTriangle}
use Rattle.mesh_written.specs.declared.fault.PlaceFault.{PlaceFault}
use Rattle.mesh_written.specs.declared.fault.PlaceFault.TheVariants as place_fault
use Rattle.mesh_written.specs.Decimals.{IsFarPoint, IsDecimalFault}
use Rattle.mesh_written.specs.Floats.{IsTooFar, IsFloatFault}
use Rattle.mesh_boolean.specs.declared.wanted.FloatFormat.{FloatFormat}
use Rattle.mesh_boolean.specs.declared.wanted.FloatFormat.TheVariants.{Glb}
use Rattle.mesh_boolean.specs.declared.wanted.MeshFormat.{MeshFormat}
use Rattle.mesh_boolean.specs.declared.wanted.MeshFormat.TheVariants.{Floats, Text}
use Rattle.mesh_boolean.specs.declared.writing_fault.WritingFault.{WritingFault}
use Rattle.mesh_boolean.specs.declared.writing_fault.WritingFault.TheVariants.{TooFar, TooManyTriangles, OutOfMemory}
use Rattle.mesh_boolean.specs.Outputs.{AreRounded}
use Rattle.mesh_boolean.specs.WritingFaults.{IsFloatFileFault, IsWritingFault, of_glb_fault, of_place_fault}

-- ---- floats
-- a corner that rounds to infinity
pub float_fault_is : (format : FloatFormat) (grid : Grid) (mesh : SolidMesh) (cause : PlaceFault) →
    IsFloatFault grid.step grid.offset mesh.corners.items cause →
    IsWritingFault (Floats format) grid mesh (of_place_fault cause)
float_fault_is format grid mesh place_fault.TooFar h = inl h
float_fault_is format grid mesh place_fault.OutOfMemory h = tt

-- too many triangles for a GLB
pub glb_fault_is : {T : Type 0} (written : List FloatTriangle) (result : Result T GlbWriteFault)
    (cause : GlbWriteFault) → result ≡ Err cause → (result ≡ Err glb_fault.TooManyTriangles → IsTooLong written) →
    IsFloatFileFault Glb written (of_glb_fault cause)
glb_fault_is written result glb_fault.TooManyTriangles e many = many e
glb_fault_is written result glb_fault.OutOfMemory e many = tt

-- a fault of the file of the mesh's triangles
pub file_of_floats_fault_is : (format : FloatFormat) (grid : Grid) (mesh : SolidMesh) (written : List FloatTriangle)
    (fault : WritingFault) → AreRounded grid mesh written → IsFloatFileFault format written fault →
    IsWritingFault (Floats format) grid mesh fault
file_of_floats_fault_is format grid mesh written TooFar rounded h = absurd h
file_of_floats_fault_is format grid mesh written TooManyTriangles rounded h =
    record { written = written; rounded = rounded; many = h }
file_of_floats_fault_is format grid mesh written OutOfMemory rounded h = tt

-- ---- a text
-- a corner that is too far out for a decimal
pub decimal_fault_is : (format : TextFormat) (digits : Option ℕ) (grid : Grid) (mesh : SolidMesh) (cause : PlaceFault) →
    IsDecimalFault grid.step grid.offset mesh.corners.items cause →
    IsWritingFault (Text format digits) grid mesh (of_place_fault cause)
decimal_fault_is format digits grid mesh place_fault.TooFar h = h
decimal_fault_is format digits grid mesh place_fault.OutOfMemory h = tt

-- a corner that rounds to infinity is too far out for a decimal
far_for_decimals : (s : GridStep) (o : Offset) (c : SpacePoint) → IsTooFar s o c → IsFarPoint s o c
far_for_decimals s o c h = record { axis = h.axis; long = omega (arith, h.infinite) }

-- a corner that is too far out for the triangles that are shown
pub shown_fault_is : (format : TextFormat) (digits : Option ℕ) (grid : Grid) (mesh : SolidMesh) (cause : PlaceFault) →
    IsFloatFault grid.step grid.offset mesh.corners.items cause →
    IsWritingFault (Text format digits) grid mesh (of_place_fault cause)
shown_fault_is format digits grid mesh place_fault.TooFar h =
    (h.0, h.1, h.2, h.3, far_for_decimals grid.step grid.offset h.1 h.4)
shown_fault_is format digits grid mesh place_fault.OutOfMemory h = tt

-- in any format
pub place_fault_is : (format : MeshFormat) (grid : Grid) (mesh : SolidMesh) (cause : PlaceFault) →
    IsFloatFault grid.step grid.offset mesh.corners.items cause → IsWritingFault format grid mesh (of_place_fault cause)
place_fault_is (Floats floats) grid mesh cause h = float_fault_is floats grid mesh cause h
place_fault_is (Text text digits) grid mesh cause h = shown_fault_is text digits grid mesh cause h
