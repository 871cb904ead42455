-- Reference points are clear of all triangles.
use Rattle.std.proofs.Common.{◌≡◌, ℕ, ◌^◌, ◌<◌, sym, subst, ◌∙◌, lit<, le_refl, arith, List, [], ◌∷◌, All, pos}
use Rattle.std.specs.List.{AllByRecursion}
use Rattle.std.proofs.lemmas.List.Elements.{All-head, All-tail}
use Rattle.ember_algebra.specs.Vector.{Vector}
use Rattle.ember_algebra.specs.Size.{Small}
use Rattle.ember_algebra.specs.Large.{EachSmall}
use Rattle.ember_algebra.proofs.Laws.{one-*ℤ}
use Rattle.ember_model.specs.declared.point.Corner.{Corner}
use Rattle.ember_model.specs.declared.point.Axis.{Axis}
use Rattle.ember_model.specs.declared.point.Axis.TheVariants.{X, Y, Z}
use Rattle.ember_model.specs.declared.plane.Plane.{Plane}
use Rattle.ember_model.specs.declared.tri.Tri.{Tri}
use Rattle.ember_model.specs.Planes.{unit, value_at, support_of, edge_through, HasNoNormal}
use Rattle.ember_model.specs.Limits.{narrow_limit}
use Rattle.ember_model.specs.Valid.{IsValidTri}
use Rattle.ember_model.specs.Within.{normal_limit, IsCornerWithin, IsTriWithin}
use Rattle.ember_model.specs.Clear.{IsClearOf, AreClear}
use Rattle.ember_model.specs.Meshes.{faces_of}
use Rattle.ember_model.proofs.PlaneSizes.{support_within, edge_within}
use Rattle.ember_law.proofs.Shifted.{value_shifted, off_horner}
use Rattle.ember_law.proofs.Generic.{IsOff}
use Rattle.ember_law.proofs.GenericClear.{off_clear, clear_faces}
use Rattle.ember_box.specs.Near.{spot_of_vector}
use Rattle.ember_width.proofs.Slides.{edge_within_planes}
use Rattle.ember_box.specs.Reference.{reference_beside, reference_at}
use Rattle.ember_ref.proofs.ReferenceLegs.{weight_beside}

off_plane : {m f : ℕ} (h : Plane) (v : Vector) → m < f → EachSmall m (h.a ∷ h.b ∷ h.c ∷ []) → value_at h (reference_beside f v) ≡ pos 0 → HasNoNormal h
off_plane {m} {f} h v l s e =
    off_horner f (value_at h (spot_of_vector v)) h.a h.b h.c l s (sym (value_shifted h (spot_of_vector v) (pos f)) ∙ e)

-- ---- of triangles within m, by shifts that their planes don't reach
module _ (m f : ℕ) (v : Vector) (l : normal_limit m < f) where
  off_edge : (u w : Corner) (k : Axis) → IsCornerWithin m u → IsCornerWithin m w →
      value_at (edge_through u w (unit k)) (reference_beside f v) ≡ pos 0 → HasNoNormal (edge_through u w (unit k))
  off_edge u w k iu iw =
      let h = edge_through u w (unit k) in
      let s = edge_within_planes m _ (edge_within m u w k (pos 1) iu iw (record { small = le_refl 1 })) in
      off_plane h v l (
        subst (Small (normal_limit m)) (one-*ℤ h.a) s.a,
        (subst (Small (normal_limit m)) (one-*ℤ h.b) s.b, (subst (Small (normal_limit m)) (one-*ℤ h.c) s.c, tt)),
      )

  is_off : (k : Axis) (t : Tri) → IsTriWithin m t → IsOff (unit k) (reference_beside f v) t
  is_off k t i =
      let s = support_within m t i in
      record {
        weight = weight_beside f v (omega (arith, l));
        plane = off_plane (support_of t) v l (s.a, (s.b, (s.c, tt)));
        first = off_edge t.a t.b k i.a i.b;
        second = off_edge t.b t.c k i.b i.c;
        third = off_edge t.c t.a k i.c i.a;
      }

  clear_beside_one : (t : Tri) → IsTriWithin m t → IsClearOf t (reference_beside f v)
  clear_beside_one t i = off_clear (reference_beside f v) t (is_off X t i) (is_off Y t i) (is_off Z t i)

  each_clear : (ts : List Tri) → All (IsTriWithin m) ts → AllByRecursion (λ t. IsClearOf t (reference_beside f v)) ts
  each_clear [] i = tt
  each_clear (t ∷ ts) i =
      (clear_beside_one t (All-head (IsTriWithin m) t ts i), each_clear ts (All-tail (IsTriWithin m) t ts i))

  -- reference points are clear of all such triangles
  pub clear_beside : (ts : List Tri) → All (IsTriWithin m) ts → AreClear (faces_of ts) (reference_beside f v)
  clear_beside ts i = clear_faces (reference_beside f v) ts (each_clear ts i)

-- on the narrow grid they are clear of all valid triangles
pub clear_references : (v : Vector) (ts : List Tri) → All IsValidTri ts → AreClear (faces_of ts) (reference_at v)
clear_references v ts i = clear_beside narrow_limit (2 ^ 27) v (lit< tt) ts i
