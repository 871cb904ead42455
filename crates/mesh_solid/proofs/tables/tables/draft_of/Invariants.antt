use Rattle.std.proofs.Common.{drop}
use Rattle.mesh_solid.specs.Tables.Edges.{face_edges_of}
use Rattle.mesh_solid.specs.Tables.Drafts.{IsDraftBefore, HasFew}
use Rattle.mesh_solid.proofs.tables.tables.draft_of.Given as goal

abbrev pub invariant-loop-number : goal.invariant-loop-number
invariant-loop-number l =
    IsDraftBefore (face_edges_of 0 l.faces) (face_edges_of l.number (drop l.number l.faces)) l.draft × HasFew l.draft
