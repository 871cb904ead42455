-- The lines that are written are the text of the face, as it is or with the opposite front.
use Rattle.std.proofs.Common.{◌≡◌, refl, sym, ap, subst, ◌∙◌, ℕ, suc, ◌≤◌, arith, List, [], ◌∷◌, ◌++◌, append_assoc, length, flat_map}
use Rattle.std.specs.List.{AllByRecursion}
use Rattle.std.proofs.lemmas.List.Concat.{flat_map-cons}
use Rattle.std.proofs.lemmas.List.Elements.{All-from_recursion}
use Rattle.ember_algebra.specs.Relations.{Each, none, more}
use Rattle.ember_leaf.specs.Written.{HasGrown}
use Rattle.ember_model.specs.declared.plane.Plane.{Plane}
use Rattle.ember_model.specs.declared.face.Face.{Face}
use Rattle.ember_model.specs.Planes.{opposite}
use Rattle.ember_model.specs.Faces.{flipped_face}
use Rattle.ember_model.specs.Valid.{IsValidPlane}
use Rattle.ember_model.specs.Edges.{RingEdge, IsOutline}
use Rattle.ember_model.specs.FaceFiles.{support_line, edge_line, IsLowest, IsWrittenEdge}
use Rattle.ember_poly.proofs.Chains.{each_map}
use Rattle.ember_poly.proofs.MovedOutline.{HaveSameStarts, outline_moved}
use Rattle.ember_text.specs.Texts.{IsEdgeText, IsTextInRange, Writes, turned}
use Rattle.ember_text.proofs.TurnedEdges.{length-turned, outline_of_turned}

-- the texts of edges are lines of the same edges with corners in lowest terms
record HasLines (rs : List RingEdge) (texts : List ℕ) : Type 0 where
  edges : List RingEdge
  moved : HaveSameStarts rs edges
  written : AllByRecursion IsWrittenEdge edges
  is : texts ≡ flat_map edge_line edges
  long : length edges ≡ length rs

lines_of : {rs : List RingEdge} {texts : List ℕ} → Each IsEdgeText rs texts → HasLines rs texts
lines_of none = record { edges = []; moved = tt; written = tt; is = refl; long = refl }
lines_of (more {x = e} {xs = rs} {ys = text} {zs = texts} t rest) =
    let r = lines_of rest in let d : RingEdge = record { plane = e.plane; start = t.start } in
    record {
      edges = d ∷ r.edges;
      moved = (refl, t.same, r.moved);
      written = (t.written, r.written);
      is = (λ i. t.is i ++ r.is i) ∙ sym (flat_map-cons edge_line d r.edges);
      long = ap (λ n. suc n) r.long;
    }

good : (f : Face) (n : Plane) (rs : List RingEdge) (count : ℕ) {texts : List ℕ} → n ≡ f.support → IsValidPlane n →
    IsOutline f rs → 3 ≤ length rs → count ≡ length rs → Each IsEdgeText rs texts →
    IsTextInRange f (support_line n count ++ texts)
good f n rs count en vn o t ec each =
    let r = lines_of each in
    record {
      text_is = record {
        outline = r.edges;
        is_outline = outline_moved f rs r.edges r.moved o;
        lowest =
            All-from_recursion (λ (e : RingEdge). IsLowest e.start) r.edges
            (each_map IsWrittenEdge (λ (e : RingEdge). IsLowest e.start) r.edges (λ e h. h.start.lowest) r.written);
        is =
            λ i. support_line (en i) ((ec ∙ sym r.long) i) ++ r.is i;
      };
      written = record {
        support = subst IsValidPlane en vn;
        edges =
            All-from_recursion IsWrittenEdge r.edges r.written;
        at_least_three = subst (λ k. 3 ≤ k) (sym r.long) t;
      };
    }

-- the line of the support plane, and those of the edges
pub face_is_written : (f : Face) (n : Plane) (rs : List RingEdge) (count : ℕ) (old : List ℕ) {mid new : List ℕ} →
    n ≡ f.support → IsValidPlane n → IsOutline f rs → 3 ≤ length rs → count ≡ length rs →
    mid ≡ old ++ support_line n count → HasGrown (Each IsEdgeText rs) mid new → Writes f old new
face_is_written f n rs count old en vn o t ec e g =
    record {
      text = support_line n count ++ g.more;
      good = good f n rs count en vn o t ec g.holds;
      is =
          g.is ∙ ap (λ bytes. bytes ++ g.more) e ∙ append_assoc old (support_line n count) g.more;
    }

-- the support line and the turned edges are the text of the flipped face
pub flipped_written : (f : Face) (n turned_n : Plane) (rs : List RingEdge) (count : ℕ) (old : List ℕ) {mid new : List ℕ}
    → n ≡ f.support → turned_n ≡ opposite n → IsValidPlane turned_n → IsOutline f rs → 3 ≤ length rs → count ≡ length rs →
    mid ≡ old ++ support_line turned_n count → HasGrown (Each IsEdgeText (turned rs)) mid new →
    Writes (flipped_face f) old new
flipped_written f n turned_n rs count old en eo vn o t ec e g =
    face_is_written (flipped_face f) turned_n (turned rs) count old (eo ∙ ap opposite en) vn
    (outline_of_turned f rs (omega (arith, t)) o) (omega (arith, t, length-turned rs)) (ec ∙ sym (length-turned rs)) e
    g
