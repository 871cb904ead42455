-- What is said of all certified triangles, and of all decimals of closed ones
use Rattle.std.specs.Prelude.{ℕ, List}
use Rattle.ember_model.specs.declared.plane.Plane.{Plane}
use Rattle.mesh_certificate.specs.declared.certificate.segment.Segment.{Segment}
use Rattle.mesh_certificate.specs.declared.certificate.triangle.Triangle.{Triangle}
use Rattle.mesh_certificate.specs.declared.key.lines.LineKey.{LineKey}
use Rattle.mesh_certificate.specs.Certificate.Certificate.{IsCertified}
use Rattle.mesh_grid.specs.declared.snap.offsets.Offset.{Offset}
use Rattle.mesh_grid.specs.declared.snap.steps.GridStep.{GridStep}
use Rattle.mesh_point.specs.declared.space_point.SpacePoint.{SpacePoint}
use Rattle.mesh_write.specs.declared.vertices.point.DecimalTriangle.{DecimalTriangle}
use Rattle.mesh_written.specs.Closed.{AreRoundAndClosed}
use Rattle.mesh_written.specs.DecimalTriangles.{decimal_triangles}

-- it is so of all certified triangles, over the planes and the corners of their tables
abbrev pub AllCertified : (List Plane → List SpacePoint → List Triangle → Type 0) → Type 0
AllCertified Is =
    (planes : List Plane) (lines : List LineKey) (corners : List SpacePoint) (faces : List Segment)
    (ts : List Triangle) → IsCertified planes lines corners faces ts → Is planes corners ts

-- it is so of the decimals of all triangles that are closed before their corners are rounded
abbrev pub AllClosedDecimals : (List DecimalTriangle → Type 0) → Type 0
AllClosedDecimals Is =
    (places : ℕ) (step : GridStep) (offset : Offset) (corners : List SpacePoint) (ts : List Triangle) →
    AreRoundAndClosed ts → Is (decimal_triangles places step offset corners ts)
