-- Faces that are closed along lines
use Rattle.std.specs.Prelude.{◌≡◌, ℕ, nat_eq, ℤ, pos, List, filter}
use Rattle.ember_algebra.specs.Sums.{total}
use Rattle.mesh_certificate.specs.declared.certificate.segment.Segment.{Segment}
use Rattle.mesh_certificate.specs.Certificate.Chains.{coverage}

-- over each point of each line as many of the segments run on as back, whatever the order of the corners on the line
pub record AreLinesClosed (ss : List Segment) : Type 0 where
  pub each : (line : ℕ) (rank : ℕ → ℤ) (x : ℤ) →
      total (coverage rank x) (filter (λ s. nat_eq line s.line) ss) ≡ pos 0

-- t is s in the plane 0
pub record IsInPlaneZero (s t : Segment) : Type 0 where
  pub plane : t.plane ≡ 0
  pub line : t.line ≡ s.line
  pub start : t.start ≡ s.start
  pub end : t.end ≡ s.end
