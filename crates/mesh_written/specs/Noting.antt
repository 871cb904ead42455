-- Edges that are noted one after another
use Rattle.std.specs.Prelude.{List, ◌++◌}
use Rattle.mesh_written.specs.declared.shared.EdgeKey.{EdgeKey}
use Rattle.mesh_written.specs.declared.shared.Edges.{Edges}
use Rattle.mesh_written.specs.declared.shared_by_index.IndexEdge.{IndexEdge}
use Rattle.mesh_written.specs.declared.shared_by_index.IndexEdges.{IndexEdges}
use Rattle.mesh_written.specs.Shared.{AreNoted, same_edge, same_ends}

-- behind all edges that were noted, these are
abbrev pub NotesKeys : List EdgeKey → Edges → Edges → Type 0
NotesKeys more old new =
    (keys : List EdgeKey) → AreNoted same_ends keys old.once.keys old.again.keys →
    AreNoted same_ends (keys ++ more) new.once.keys new.again.keys

-- the same of edges over vertices
abbrev pub NotesEdges : List IndexEdge → IndexEdges → IndexEdges → Type 0
NotesEdges more old new =
    (edges : List IndexEdge) → AreNoted same_edge edges old.once.keys old.again.keys →
    AreNoted same_edge (edges ++ more) new.once.keys new.again.keys
