-- The faces of outlines on the narrow grid are the faces in texts.
use Rattle.std.proofs.Common.{◌≡◌, ℕ, ◌≤◌, refl, sym, ap, subst, ◌∙◌, arith, List, [], ◌∷◌, length, map, All}
use Rattle.std.specs.List.{AllByRecursion}
use Rattle.std.proofs.lemmas.List.{length-map}
use Rattle.std.proofs.lemmas.List.Elements.{All-from_recursion}
use Rattle.ember_model.specs.declared.plane.Plane.{Plane}
use Rattle.ember_model.specs.declared.point.Spot.{Spot}
use Rattle.ember_model.specs.declared.face.Face.{Face}
use Rattle.ember_model.specs.Valid.{IsValidPlane}
use Rattle.ember_model.specs.Edges.{RingEdge, IsOutline}
use Rattle.ember_model.specs.FaceFiles.{IsLowest, IsWrittenEdge, face_lines}
use Rattle.ember_point.specs.declared.meet_point.Meet.{Meet}
use Rattle.ember_point.specs.Points.{spot_of}
use Rattle.ember_width.specs.declared.width.Width.{Ghosts}
use Rattle.ember_poly.specs.Outlines.{face_of_edges}
use Rattle.ember_poly.proofs.Chains.{each_map}
use Rattle.ember_poly.proofs.MovedOutline.{SameWithWeights, HaveSameStarts, outline_moved}
use Rattle.ember_text.specs.FacesInTexts.{AreFacesInTexts, IsFaceInText}
use Rattle.ember_text.specs.OutlineFaces.{IsEdgeOf, IsOutlineFace, AreOutlineFaces}
use Rattle.ember_text.proofs.LowestCorners.{lowest_terms}
use Rattle.ember_text.proofs.OutlineFaces.{planes_of}

-- a face has a text, and the face in it, if it has an outline as a face file has it
in_text : (f g : Face) (es : List RingEdge) → IsValidPlane f.support → IsOutline f es →
    AllByRecursion IsWrittenEdge es → 3 ≤ length es → g ≡ face_of_edges f.support es → IsFaceInText f g
in_text f g es v o w three e =
    record {
      text = face_lines f.support es;
      is_text = record {
        text_is = record {
          outline = es;
          is_outline = o;
          lowest =
              All-from_recursion (λ (e : RingEdge). IsLowest e.start) es
              (each_map IsWrittenEdge (λ (e : RingEdge). IsLowest e.start) es (λ e h. h.start.lowest) w);
          is = refl;
        };
        written = record { support = v; edges = All-from_recursion IsWrittenEdge es w; at_least_three = three };
      };
      is = e;
    }

-- ---- start corners in lowest terms
-- the same edges, with start corners in lowest terms
record HasWrittenEdges (ds : List RingEdge) : Type 0 where
  edges : List RingEdge
  moved : HaveSameStarts ds edges
  written : AllByRecursion IsWrittenEdge edges
  planes : planes_of edges ≡ planes_of ds

-- on a grid whose planes are valid and whose points are meets, as the narrow one is
module _ {W : Type 0} (G : Ghosts W Meet) (valid : (p : Plane) → G.IsPlane p → IsValidPlane p) (meets : (m : Meet) → G.spot m ≡ spot_of m) where
  written_edges : (ds : List RingEdge) → AllByRecursion (IsEdgeOf G) ds → HasWrittenEdges ds
  written_edges [] h = record { edges = []; moved = tt; written = tt; planes = refl }
  written_edges (d ∷ ds) h =
      let m = h.0.start.point in let same : d.start ≡ spot_of m = h.0.start.is ∙ meets m in
      let l = lowest_terms (spot_of m) m.valid in
      let rest = written_edges ds h.1 in
      record {
        edges = record { plane = d.plane; start = l.lowest } ∷ rest.edges;
        moved = (refl, subst (λ (v : Spot). SameWithWeights v l.lowest) (sym same) l.is.same, rest.moved);
        written = (record { plane = valid d.plane h.0.plane; start = l.is.corner }, rest.written);
        planes = λ i. d.plane ∷ rest.planes i;
      }

  one_in_text : (f g : Face) → IsOutlineFace G f g → IsFaceInText f g
  one_in_text f g h =
      let found = written_edges h.outline h.edges in
      let long : length found.edges ≡ length h.outline =
      sym (length-map found.edges (λ (e : RingEdge). e.plane)) ∙ ap (λ (ps : List Plane). length ps) found.planes
      ∙ length-map h.outline (λ (e : RingEdge). e.plane) in
      in_text f g found.edges (valid f.support h.support) (outline_moved f h.outline found.edges found.moved h.is_outline)
      found.written (omega (arith, long, h.at_least_three))
      (h.is ∙ ap (λ (ps : List Plane). let face : Face = record { support = f.support; edges = ps } in face) (sym found.planes))

  -- the faces of outlines there are those that the texts hold
  pub outlines_in_texts : (fs gs : List Face) → AreOutlineFaces G fs gs → AreFacesInTexts fs gs
  outlines_in_texts [] [] h = tt
  outlines_in_texts [] (g ∷ gs) h = absurd h
  outlines_in_texts (f ∷ fs) [] h = absurd h
  outlines_in_texts (f ∷ fs) (g ∷ gs) h = (one_in_text f g h.0, outlines_in_texts fs gs h.1)
