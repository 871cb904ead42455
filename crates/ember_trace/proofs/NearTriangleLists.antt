-- Near triangles, one more.
use Rattle.std.proofs.Common.{◌≡◌, ℕ, ◌+◌, ◌<◌, ℤ, List, [], ◌∷◌, ◌++◌, All, length, take, get_or, map, sym, ap, ◌∙◌, subst}
use Rattle.std.proofs.lemmas.List.{take_more, length-map, map-append}
use Rattle.std.proofs.lemmas.List.Elements.{All-push}
use Rattle.ember_algebra.specs.Sign.{sgn}
use Rattle.ember_model.specs.declared.tri.Tri.{Tri}
use Rattle.ember_model.specs.Planes.{value_at}
use Rattle.ember_width.specs.declared.width.Width.{Ghosts}
use Rattle.ember_box.specs.Boxes.{Cell}
use Rattle.ember_ref.specs.References.{reference_of_list}
use Rattle.ember_trace.specs.declared.near_triangle.NearTriangle.{NearTriangle}
use Rattle.ember_trace.specs.Lines.{first_lines_of}
use Rattle.ember_trace.specs.NearTriangles.{AreNearTrianglesBeside, HasReferenceBeside, least_of, tri_of}

module _ {W M : Type 0} {G : Ghosts W M} (fine : ℕ) where
  -- a near triangle with what its code computes of the reference point
  pub has_reference : (c : Cell) (f : NearTriangle W M G) (t : Tri) (lo : List ℤ) → lo ≡ least_of c → f.tri ≡ t →
      f.reference_side ≡ sgn (value_at f.support (reference_of_list fine lo)) → f.first_lines ≡ first_lines_of fine lo t →
      HasReferenceBeside fine c f
  has_reference c f t lo e et s l =
      record {
        side = s ∙ ap (λ (at : List ℤ). sgn (value_at f.support (reference_of_list fine at))) e;
        lines =
            l ∙ ap (λ (u : Tri). first_lines_of fine lo u) (sym et) ∙ ap (λ (at : List ℤ). first_lines_of fine at f.tri) e;
      }

  -- one more near triangle
  pub more_facets : (ts : List Tri) (i : ℕ) (d : Tri) (c : Cell) (fs new : List (NearTriangle W M G)) (f : NearTriangle W M G) →
      i < length ts → AreNearTrianglesBeside fine (take i ts) c fs → f.tri ≡ get_or ts i d → HasReferenceBeside fine c f →
      new ≡ fs ++ f ∷ [] → AreNearTrianglesBeside fine (take (i + 1) ts) c new
  more_facets ts i d c fs new f l h t s e =
      record {
        tris = ap (λ (gs : List (NearTriangle W M G)). map tri_of gs) e ∙ map-append tri_of fs (f ∷ [])
            ∙ ap (λ (us : List Tri). us ++ f.tri ∷ []) h.tris ∙ ap (λ (u : Tri). take i ts ++ u ∷ []) t
            ∙ sym (take_more ts i d l);
        reference_sides = subst (λ (gs : List (NearTriangle W M G)). All (HasReferenceBeside fine c) gs) (sym e)
            (All-push (HasReferenceBeside fine c) fs f h.reference_sides s);
      }

-- there are as many near triangles as triangles
pub facets_length : {W M : Type 0} {G : Ghosts W M} {fine : ℕ} (ts : List Tri) (c : Cell) (fs : List (NearTriangle W M G)) →
    AreNearTrianglesBeside fine ts c fs → length fs ≡ length ts
facets_length ts c fs h = sym (length-map fs tri_of) ∙ ap (λ (us : List Tri). length us) h.tris
