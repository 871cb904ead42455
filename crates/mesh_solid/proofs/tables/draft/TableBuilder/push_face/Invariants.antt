use Rattle.std.proofs.Common.{◌≡◌, ◌+◌, ◌≤◌, List, ◌++◌, length}
use Rattle.std.specs.List.{All}
use Rattle.ember_width.specs.Broad.{IsBroadPlane}
use Rattle.mesh_certificate.specs.Key.PlaneKeys.{IsPlaneKey}
use Rattle.mesh_certificate.specs.Certificate.Facing.{spot_of}
use Rattle.mesh_solid.specs.declared.tables.face_edge.FaceEdge.{FaceEdge}
use Rattle.mesh_solid.specs.Tables.Edges.{first_or, edges_behind, edges_round}
use Rattle.mesh_solid.specs.Tables.Numberings.{HasEntry}
use Rattle.mesh_solid.specs.Tables.Tables.{IsCorner}
use Rattle.mesh_solid.specs.Tables.Drafts.{planes_in, IsDraftBefore}
use Rattle.mesh_solid.proofs.tables.draft.TableBuilder.push_face.Given as goal

abbrev pub invariant-loop-plane : goal.invariant-loop-plane
invariant-loop-plane l = record {
  done : (all more : List FaceEdge) → IsDraftBefore all (edges_round l.face l.support l.edges ++ more) l.fn.self →
      IsDraftBefore all (edges_behind l.face l.support l.first l.before l.rest ++ more) l.self;
  before : IsBroadPlane l.before;
  rest : All IsBroadPlane l.rest;
  number : HasEntry (planes_in l.self) l.number (IsPlaneKey l.support);
  start : HasEntry l.self.corners.keys l.start (λ c. IsCorner l.support l.before (first_or l.first l.rest) (spot_of c));
  planes : length l.self.planes.keys ≤ length l.fn.self.segments.items + 1;
  lines : length l.self.lines.keys ≤ length l.self.segments.items;
  corners : length l.self.corners.keys ≤ length l.fn.self.segments.items + length l.self.segments.items + 1;
  fits : length l.self.segments.items ≤ 2147483647;
  grown : length l.fn.self.segments.items ≤ length l.self.segments.items;
  sum : length l.self.segments.items + length l.rest ≡ length l.fn.self.segments.items + length l.edges;
}

abbrev pub decreases-loop-plane : goal.decreases-loop-plane
decreases-loop-plane l = length l.rest
