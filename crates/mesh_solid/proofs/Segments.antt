-- Segments of edges, as the tables grow
use Rattle.std.proofs.Common.{◌≡◌, List, [], ◌∷◌, ◌++◌, sym, subst, ◌∙◌, append_assoc}
use Rattle.std.specs.List.{AllZip, IsDistinct, All}
use Rattle.ember_algebra.proofs.Lists.{AllZip-push}
use Rattle.ember_model.specs.declared.plane.Plane.{Plane}
use Rattle.ember_width.specs.Broad.{IsBroadPlane}
use Rattle.mesh_certificate.specs.declared.key.lines.LineKey.{LineKey}
use Rattle.mesh_certificate.specs.Key.PlaneKeys.{IsPlaneKey}
use Rattle.mesh_certificate.specs.Key.LineKeys.{IsLineKey}
use Rattle.mesh_certificate.specs.declared.certificate.segment.Segment.{Segment}
use Rattle.mesh_point.specs.declared.space_point.SpacePoint.{SpacePoint}
use Rattle.mesh_certificate.specs.Certificate.Facing.{spot_of}
use Rattle.mesh_solid.specs.declared.tables.face_edge.FaceEdge.{FaceEdge}
use Rattle.mesh_solid.specs.declared.tables.draft.TableBuilder.{TableBuilder}
use Rattle.mesh_solid.specs.Tables.Numberings.{same_entry, same_line, same_corner}
use Rattle.mesh_solid.specs.Tables.Tables.{IsCorner, IsPlaneOf, IsSegmentOf}
use Rattle.mesh_solid.specs.Tables.Drafts.{planes_in, IsDraftBefore}
use Rattle.mesh_solid.proofs.Lists.{Extends, entry_stays, pairs_with}

-- a segment keeps its meaning as tables grow
stays : (ps qs : List Plane) (ls ms : List LineKey) (cs ds : List SpacePoint) → Extends ps qs → Extends ls ms →
    Extends cs ds → (edge : FaceEdge) (s : Segment) → IsSegmentOf ps ls cs edge s → IsSegmentOf qs ms ds edge s
stays ps qs ls ms cs ds p l c edge s h =
    record {
      plane = entry_stays ps qs s.plane (IsPlaneKey edge.support) p h.plane;
      line = entry_stays ls ms s.line (IsLineKey edge.support edge.plane) l h.line;
      start = entry_stays cs ds s.start (λ c. IsCorner edge.support edge.before edge.plane (spot_of c)) c h.start;
      end = entry_stays cs ds s.end (λ c. IsCorner edge.support edge.plane edge.after (spot_of c)) c h.end;
    }

-- a draft stays one as its tables grow
pub grown : (all rest : List FaceEdge) (d e : TableBuilder) → IsDistinct same_entry e.planes.keys →
    IsDistinct same_line e.lines.keys → IsDistinct same_corner e.corners.keys → All IsBroadPlane (planes_in e) →
    All (IsPlaneOf all) (planes_in e) →
    Extends (planes_in d) (planes_in e) → Extends d.lines.keys e.lines.keys → Extends d.corners.keys e.corners.keys →
    e.segments.items ≡ d.segments.items → IsDraftBefore all rest d → IsDraftBefore all rest e
grown all rest d e i j k v u p l c s h =
    record {
      done = h.done;
      split = h.split;
      draft = record {
        planes = i;
        lines = j;
        corners = k;
        broad = v;
        segments = subst (AllZip (IsSegmentOf (planes_in e) e.lines.keys e.corners.keys) h.done) (sym s)
            (pairs_with (IsSegmentOf (planes_in d) d.lines.keys d.corners.keys)
            (IsSegmentOf (planes_in e) e.lines.keys e.corners.keys)
            (stays (planes_in d) (planes_in e) d.lines.keys e.lines.keys d.corners.keys e.corners.keys p l c) h.done
            d.segments.items h.draft.segments);
      };
      used = u;
    }

-- with a segment more it is that of an edge more
pub edge_put : (all rest : List FaceEdge) (edge : FaceEdge) (d e : TableBuilder) (s : Segment) →
    e ≡ record d { segments = e.segments } → IsSegmentOf (planes_in d) d.lines.keys d.corners.keys edge s →
    e.segments.items ≡ d.segments.items ++ s ∷ [] → IsDraftBefore all (edge ∷ rest) d → IsDraftBefore all rest e
edge_put all rest edge d e s only is t h = subst (λ (x : TableBuilder). IsDraftBefore all rest x) (sym only) put
  where
    put : IsDraftBefore all rest (record d { segments = e.segments })
    put =
        record {
          done = h.done ++ edge ∷ [];
          split = append_assoc h.done (edge ∷ []) rest ∙ h.split;
          draft = record {
            planes = h.draft.planes;
            lines = h.draft.lines;
            corners = h.draft.corners;
            broad = h.draft.broad;
            segments = subst (AllZip (IsSegmentOf (planes_in d) d.lines.keys d.corners.keys) (h.done ++ edge ∷ []))
                (sym t) (AllZip-push (IsSegmentOf (planes_in d) d.lines.keys d.corners.keys) h.done d.segments.items edge s
                h.draft.segments is);
          };
          used = h.used;
        }
