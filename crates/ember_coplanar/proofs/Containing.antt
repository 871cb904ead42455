-- A face of the plane of a triangle lies in the triangle exactly if it is below the three edge planes
use Rattle.std.proofs.Common.{◌≡◌, ℕ, refl, sym, ap, subst, ◌∙◌, Bool, true, false, Option, Some, None, List, [], ◌∷◌, slice_get, zero, suc}
use Rattle.std.specs.List.{list_all}
use Rattle.std.proofs.lemmas.Bool.{and_parts, and_from}
use Rattle.ember_algebra.specs.Sign.{is_negative, is_zero, is_positive}
use Rattle.ember_model.specs.declared.plane.Plane.{Plane}
use Rattle.ember_model.specs.declared.point.Axis.{Axis}
use Rattle.ember_model.specs.declared.tri.Tri.{Tri}
use Rattle.ember_model.specs.declared.face.Face.{Face}
use Rattle.ember_model.specs.Planes.{value_at, support_of, main_axis, edge_planes}
use Rattle.ember_model.specs.Faces.{Everywhere, face_of, edges_of, Contains}
use Rattle.ember_model.proofs.SignTests.{clash}
use Rattle.ember_coplanar.specs.TrianglePlane.{LiesOn}

abbrev pub IsBelow : Face → Plane → Type 0
IsBelow f p = Everywhere f (λ v. is_negative (value_at p v) ≡ true)

-- ---- the three edge planes
-- no option is both None and Some
pub none_some : {A : Type 0} (o : Option A) {x : A} → o ≡ None → o ≡ Some x → ⊥
none_some {A} o n e =
    clash refl (ap (λ (o : Option A). elim o as (λ _. Bool) [ None ↦ true | Some z ↦ false ]) (sym n ∙ e))

-- Some is injective
pub some_inj : {A : Type 0} {x y : A} → Some x ≡ Some y → x ≡ y
some_inj {A} {x} {y} e = ap (λ (o : Option A). elim o as (λ _. A) [ None ↦ x | Some z ↦ z ]) e

-- the i-th edge plane along the main axis is the i-th edge
pub edge_at : (t : Tri) {k : Axis} {n p : Plane} (i : ℕ) → n ≡ support_of t → k ≡ main_axis n →
    slice_get (edge_planes t k) i ≡ Some p → slice_get (edges_of t) i ≡ Some p
edge_at t {k} {n} {p} i s e h =
    subst (λ (a : Axis). slice_get (edge_planes t a) i ≡ Some p) (e ∙ ap main_axis s) h

-- a test of all edge planes
all_at : (h : Plane → Bool) (gs : List Plane) (i : ℕ) (g : Plane) → list_all h gs ≡ true → slice_get gs i ≡ Some g → h g ≡ true
all_at h [] zero g a e = absurd (none_some _ refl e)
all_at h [] (suc i) g a e = absurd (none_some _ refl e)
all_at h (f ∷ gs) zero g a e =
    subst (λ (k : Plane). h k ≡ true) (some_inj e) (and_parts (h f) (list_all h gs) a).0
all_at h (f ∷ gs) (suc i) g a e = all_at h gs i g (and_parts (h f) (list_all h gs) a).1 e

module _ (t : Tri) {f : Face} where
  -- a face that a triangle contains is below each of its edges
  pub below_edge : Contains (face_of t) f → (i : ℕ) {g : Plane} → slice_get (edges_of t) i ≡ Some g → IsBelow f g
  unfolding face_of
  below_edge h i {g} e = record {
    holds = λ v o. all_at (λ k. is_negative (value_at k v)) (edges_of t) i g
        (and_parts (is_zero (value_at (support_of t) v)) _ (and_parts (is_positive v.w) _ (h.holds v o)).1).1 e;
  }

  pub below_edges_is_contained : LiesOn t f → {p q r : Plane} → slice_get (edges_of t) 0 ≡ Some p →
      slice_get (edges_of t) 1 ≡ Some q → slice_get (edges_of t) 2 ≡ Some r → IsBelow f p → IsBelow f q → IsBelow f r →
      Contains (face_of t) f
  unfolding face_of
  below_edges_is_contained on {p} {q} {r} ep eq er a b c = record {
    holds = λ v o. and_from _ _ (and_parts (is_positive v.w) _ o).0
        (and_from _ _ (ap is_zero (on.plane v o)) (subst
        (λ (gs : List Plane). list_all (λ g. is_negative (value_at g v)) gs ≡ true) (sym edges)
        (and_from _ _ (a.holds v o) (and_from _ _ (b.holds v o) (and_from _ _ (c.holds v o) refl)))));
  }
    where
      edges : edges_of t ≡ p ∷ q ∷ r ∷ []
      edges =
          let x = some_inj ep in let y = some_inj eq in let z = some_inj er in λ i. x i ∷ y i ∷ z i ∷ []
