use Rattle.std.proofs.Common.{ℕ, List, [], take}
use Rattle.mesh_certificate.specs.declared.certificate.segment.Segment.{Segment}
use Rattle.mesh_triangles.specs.Walks.{IsWalked}
use Rattle.mesh_triangles.proofs.boundaries.pass_all.Given as goal

abbrev pub invariant-loop-m : goal.invariant-loop-m
invariant-loop-m l =
    (line : ℕ) (before : List Segment) → IsWalked line [] before l.fn.walk l.fn.boundaries.segments.items →
    IsWalked line (take l.m-index l.marks) before l.walk l.boundaries.segments.items
