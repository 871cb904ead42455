use Rattle.std.proofs.Common.{◌≡◌, take}
use Rattle.std.specs.List.{All}
use Rattle.mesh_certificate.specs.declared.certificate.segment.Segment.{Segment}
use Rattle.mesh_triangles.proofs.boundaries.count_on.Given as goal

abbrev pub invariant-loop-count : goal.invariant-loop-count
invariant-loop-count l = All (λ (s : Segment). s.line ≡ l.line) (take l.count l.segments)
