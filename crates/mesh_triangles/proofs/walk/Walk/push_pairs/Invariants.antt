use Rattle.std.proofs.Common.{List}
use Rattle.mesh_certificate.specs.declared.certificate.segment.Segment.{Segment}
use Rattle.mesh_triangles.specs.declared.strand.Strand.{Strand}
use Rattle.mesh_triangles.specs.Walks.{AddsStretch}
use Rattle.mesh_triangles.proofs.walk.Walk.push_pairs.Given as goal

abbrev pub invariant-loop-plane : goal.invariant-loop-plane
invariant-loop-plane l =
    (strands : List Strand) (before : List Segment) → AddsStretch l.self strands before l.fn.segments.items →
    AddsStretch l.self strands before l.segments.items
