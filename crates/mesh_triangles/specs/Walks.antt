-- What a walk along a line adds to the boundaries
use Rattle.std.specs.Prelude.{◌≡◌, ℕ, nat_eq, ◌+ℤ◌, false, List}
use Rattle.ember_algebra.specs.Sums.{total}
use Rattle.mesh_certificate.specs.declared.certificate.segment.Segment.{Segment}
use Rattle.mesh_certificate.specs.Certificate.Chains.{boundary}
use Rattle.mesh_triangles.specs.declared.strand.Strand.{Strand}
use Rattle.mesh_triangles.specs.declared.marks.Mark.{Mark}
use Rattle.mesh_triangles.specs.declared.walk.Walk.{Walk}
use Rattle.mesh_triangles.specs.Strands.{coefficient}
use Rattle.mesh_triangles.specs.Marks.{change_by, only_at, change_at}

-- the boundary of `after` is that of `before` and that of `more`
pub record AddsBoundary (before more after : List Segment) : Type 0 where
  pub each : (plane line corner : ℕ) →
      boundary plane line corner after ≡ boundary plane line corner before +ℤ boundary plane line corner more

-- the same for segments of these strands from the last corner of the walk to the one where it is
pub record AddsStretch (w : Walk) (strands : List Strand) (before after : List Segment) : Type 0 where
  pub corners : (plane corner : ℕ) →
      boundary plane w.line corner after +ℤ only_at corner w.last (coefficient plane strands) ≡
      boundary plane w.line corner before +ℤ only_at corner w.here (coefficient plane strands)
  pub others : (plane line corner : ℕ) → nat_eq line w.line ≡ false →
      boundary plane line corner after ≡ boundary plane line corner before

-- the walk along the line has passed these marks. What the segments that came in still lack of the marks' boundary
-- are the strands of the stretch, which start at its start, and those that start here
pub record IsWalked (line : ℕ) (done : List Mark) (before : List Segment) (w : Walk)
    (after : List Segment) : Type 0 where
  pub on : w.line ≡ line
  pub corners : (plane corner : ℕ) →
      boundary plane line corner after +ℤ total (change_at plane corner) done ≡
      boundary plane line corner before +ℤ (only_at corner w.last (coefficient plane w.stretch.items) +ℤ
      only_at corner w.here (coefficient plane w.changes.items))
  pub coefficients : (plane : ℕ) →
      coefficient plane w.stretch.items +ℤ coefficient plane w.changes.items ≡ total (change_by plane) done
  pub others : (plane l corner : ℕ) → nat_eq l line ≡ false →
      boundary plane l corner after ≡ boundary plane l corner before
