use Rattle.std.proofs.Common.{◌≡◌, ◌∙◌, List, map, sym, ap, subst}
use Rattle.std.specs.List.{All, AllZip}
use Rattle.ember_model.specs.declared.plane.Plane.{Plane}
use Rattle.ember_width.specs.Broad.{IsBroadPlane}
use Rattle.mesh_certificate.specs.declared.key.lines.LineKey.{LineKey}
use Rattle.mesh_point.specs.declared.space_point.SpacePoint.{SpacePoint}
use Rattle.mesh_certificate.specs.Certificate.Facing.{spot_of}
use Rattle.mesh_solid.specs.Tables.Edges.{face_edges_of}
use Rattle.mesh_solid.specs.Tables.Numberings.{AreDistinct, plane_of, same_entry, same_line, same_corner}
use Rattle.mesh_solid.specs.Tables.Tables.{IsPlaneOf, IsSegmentOf}
use Rattle.mesh_solid.specs.Tables.Drafts.{planes_in}
use Rattle.mesh_solid.proofs.Numbers.{same_entry_decides, same_line_decides, same_corner_decides, distinct, distinct_images}
use Rattle.mesh_solid.proofs.tables.tables.tables_of.Goals as goal

pub returns-clause-tables : goal.returns-clause-tables
returns-clause-tables c =
    let d = c.in_ok-planes.field-0 in let h = c.in_ok-planes.ensures.ok in
    let edges = face_edges_of 0 c.args.faces.now in let ss = d.segments.items in
    let ps : c.in_ok-planes_of.field-0.items ≡ planes_in d = c.in_ok-planes_of.ensures ∙ ap (map plane_of) c.as_slice-3.ensures.keys in
    let ls : c.in_ok-line_list.line_list.items ≡ d.lines.keys = c.in_ok-line_list.ensures.items ∙ c.as_slice.ensures.keys in
    let cs : c.in_ok-corner_list.corner_list.items ≡ d.corners.keys = c.in_ok-corner_list.ensures.items ∙ c.as_slice-2.ensures.keys in
    let with_planes = subst (λ (qs : List Plane). AllZip (IsSegmentOf qs d.lines.keys d.corners.keys) edges ss) (sym ps) h.segments in
    let with_lines = subst (λ (ms : List LineKey). AllZip (IsSegmentOf c.in_ok-planes_of.field-0.items ms d.corners.keys) edges ss) (sym ls) with_planes in
    record {
      segments = subst (λ (ks : List SpacePoint). AllZip
          (IsSegmentOf c.in_ok-planes_of.field-0.items c.in_ok-line_list.line_list.items ks) edges ss) (sym cs)
          with_lines;
      planes = subst (AreDistinct (λ (p : Plane). p)) (sym ps)
          (distinct_images plane_of d.planes.keys (distinct same_entry plane_of same_entry_decides d.planes.keys
          h.planes));
      lines = subst (AreDistinct (λ (k : LineKey). k)) (sym ls) (distinct same_line (λ k. k) same_line_decides d.lines.keys h.lines);
      corners = subst (AreDistinct spot_of) (sym cs) (distinct same_corner spot_of same_corner_decides d.corners.keys h.corners);
      broad = subst (All IsBroadPlane) (sym ps) h.broad;
      used = subst (All (IsPlaneOf edges)) (sym ps) c.in_ok-planes.ensures.used;
    }
