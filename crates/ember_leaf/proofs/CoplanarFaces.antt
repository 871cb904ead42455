-- Faces and triangles of one plane: if they meet, they have inside points in common.
use Rattle.std.proofs.Common.{◌≡◌, ◌↔◌, IsTrue, refl, ap, subst, ◌∙◌, arith, List, Bool, true, false, ℕ, ℤ, pos, neg_ℤ, ◌+ℤ◌, ◌*ℤ◌, ◌<ℤ◌, ◌≤ℤ◌}
use borrow.Author.Differences.{ints}
use Rattle.ember_algebra.specs.Sign.{is_zero}
use Rattle.ember_algebra.specs.Large.{Eventually}
use Rattle.ember_algebra.proofs.Large.{eventually_both, eventually_map, eventually_pos}
use Rattle.ember_algebra.proofs.Laws.{linear}
use Rattle.ember_algebra.proofs.Ring.{◌⊕◌, ◌⊗◌, neg, num, ◌≈◌, solve, cancels}
use Rattle.ember_model.specs.declared.plane.Plane.{Plane}
use Rattle.ember_model.specs.declared.point.Spot.{Spot}
use Rattle.ember_model.specs.declared.tri.Tri.{Tri}
use Rattle.ember_model.specs.declared.face.Face.{Face}
use Rattle.ember_model.specs.Planes.{value_at, support_of}
use Rattle.ember_model.specs.ClearTest.{none_positive}
use Rattle.ember_model.specs.Faces.{is_flat, face_of, edges_of, is_inside, is_in_closed, Somewhere, Meets}
use Rattle.ember_model.specs.Owners.{is_coplanar}
use Rattle.ember_model.proofs.SignTests.{clash, zero_in}
use Rattle.ember_model.proofs.Hits.{inside_closed}
use Rattle.ember_poly.specs.Rings.{IsBelow, InFace}
use Rattle.ember_poly.specs.Chords.{combination}
use Rattle.ember_poly.specs.Cuts.{HasInside, IsWhole}
use Rattle.ember_poly.proofs.Chains.{each_map}
use Rattle.ember_poly.proofs.FaceTests.{inside_in, inside_out}
use Rattle.ember_poly.proofs.InsideNotAbove.{met_on, met_free}
use Rattle.ember_poly.proofs.InsidePoints.{inside_sum}
use Rattle.ember_poly.proofs.InsideSigns.{combination_value, eventually_each}
use Rattle.ember_poly.proofs.TriangleRing.{tri_sides, inside_ring}
use Rattle.ember_coplanar.proofs.Coplanar.{lies_on_both}
use Rattle.ember_coplanar.proofs.Owning.{lies_by_support}
use Rattle.ember_width.specs.declared.width.Width.{Ghosts}
use Rattle.ember_trace.proofs.FlatPlanes.{lies_flat, shared_face}
use Rattle.ember_leaf.specs.declared.cutter.Cutter.{Cutter}
use Rattle.ember_leaf.specs.KeptRegions.{LiesInPlaneOf}
use Rattle.ember_leaf.specs.Cutters.{AreDisjoint, ShareAPlane}
use Rattle.ember_leaf.proofs.RegionCuts.{cutting_plane_face}
use Rattle.ember_leaf.proofs.TriRelations.{coplanar_flats}
use Rattle.ember_leaf.proofs.RegionOrder.{face_support}
use Rattle.ember_leaf.proofs.TriFaces.{has_inside, closed_ring, ring_inside}

-- ---- the other way round
pub coplanar_turned : (t u : Tri) → is_coplanar u t ≡ true → is_coplanar t u ≡ true
coplanar_turned t u e =
    let n = coplanar_flats u t e in let s = has_inside t n.1 in
    lies_flat t u (face_of t) s.at (face_support t) n.1 n.0 s.inside (record { holds = λ v i. shared_face u t v e (inside_closed (face_of t) v i) })

pub not_coplanar_turned : (t u : Tri) → is_coplanar u t ≡ false → is_coplanar t u ≡ false
not_coplanar_turned t u e = by (is_coplanar t u) refl
  where
    by : (b : Bool) → is_coplanar t u ≡ b → is_coplanar t u ≡ false
    by false h = h
    by true h = absurd (clash (coplanar_turned u t h) e)

-- a face in the plane of t lies in one plane with a triangle that is coplanar with t
pub share_a_plane : (t u : Tri) (f : Face) → LiesInPlaneOf t f → is_coplanar t u ≡ true → ShareAPlane u f
share_a_plane t u f r e = record { face = on_triangle; triangle = on_face }
  where
    on_face : (v : Spot) → is_in_closed (face_of u) v ≡ true → value_at f.support v ≡ pos 0
    on_face v i = ap (λ (p : Plane). value_at p v) r.support ∙ shared_face t u v e i

    on_triangle : (v : Spot) → is_inside f v ≡ true → value_at (support_of u) v ≡ pos 0
    on_triangle v i =
        (lies_on_both u t f (coplanar_turned u t e) (lies_by_support t f r.normal r.support)).plane v i

-- ---- no inside point in common
pub unmet_disjoint : (t : Tri) (f : Face) → (Meets f (face_of t) → ⊥) → AreDisjoint (face_of t) f
unmet_disjoint t f n =
    record { holds = λ v i. off (is_inside (face_of t) v) (λ e. n (record { at = v; inside = i; holds = inside_closed (face_of t) v e })) }
  where
    off : (b : Bool) → (b ≡ true → ⊥) → b ≡ false
    off true g = absurd (g refl)
    off false g = refl

-- ---- a common point, moved a little into the triangle
module _ (t : Tri) (f : Face) (v u : Spot) (iv : InFace f.support f.edges v) (iu : is_inside (face_of t) u ≡ true) (flat : value_at f.support u ≡ pos 0) where
  abbrev moved : ℕ → Spot
  moved m = combination (pos m) (pos 1) v u

  moved_under : (e : Plane) → IsBelow e v → Eventually (λ m. IsBelow e (moved m))
  moved_under e h =
      eventually_map (λ m p. record {
        under = rw (combination_value (pos m) (pos 1) v u e)
            (flip (value_at e v) (pos m) (value_at e u) p);
      })
      (eventually_pos {a = neg_ℤ (value_at e v)} (neg_ℤ (value_at e u)) (positive h.under))
    where
      positive : {a : ℤ} → a <ℤ pos 0 → pos 0 <ℤ neg_ℤ a
      positive q = omega (arith, linear, q)

      flip : (a m b : ℤ) → pos 0 <ℤ (neg_ℤ a *ℤ m +ℤ neg_ℤ b) → (m *ℤ a +ℤ pos 1 *ℤ b) <ℤ pos 0
      flip a m b p =
          omega (arith, linear, p, solve 2 (λ a m. neg a ⊗ m ≈ neg (m ⊗ a)) cancels a m, solve 1 (λ b. num (pos 1) ⊗ b ≈ b) cancels b)

  moved_inside : Eventually (λ m. InFace f.support f.edges (moved m))
  moved_inside =
      eventually_map (λ m p. record {
        flat = combination_value (pos m) (pos 1) v u f.support
            ∙ both (pos m) iv.flat flat;
        weight = weight v.w u.w (pos m) p.0;
        within = p.1;
      })
      (eventually_both (eventually_pos u.w iv.weight)
      (eventually_each (λ e m. IsBelow e (moved m)) f.edges
      (each_map (λ e. IsBelow e v) (λ e. Eventually (λ m. IsBelow e (moved m))) f.edges (λ e h. moved_under e h)
      iv.within)))
    where
      weight : (w z m : ℤ) → pos 0 <ℤ (w *ℤ m +ℤ z) → pos 0 <ℤ (m *ℤ w +ℤ pos 1 *ℤ z)
      weight w z m p =
          omega (arith, linear, p, solve 2 (λ w m. w ⊗ m ≈ m ⊗ w) cancels w m, solve 1 (λ z. num (pos 1) ⊗ z ≈ z) cancels z)

      both : {a b : ℤ} (m : ℤ) → a ≡ pos 0 → b ≡ pos 0 → m *ℤ a +ℤ pos 1 *ℤ b ≡ pos 0
      both m p q = rw (p, q) (solve 1 (λ m. m ⊗ num (pos 0) ⊕ num (pos 1) ⊗ num (pos 0) ≈ num (pos 0)) cancels m)

  some_shared : is_in_closed (face_of t) v ≡ true → Somewhere f (λ x. is_inside (face_of t) x ≡ true)
  some_shared c =
      let e = moved_inside in let m = e.from in let one : pos 0 <ℤ pos 1 = omega (arith, linear) in
      record {
        at = moved m;
        inside = inside_in f (moved m) (e.holds m (omega arith));
        holds =
            ring_inside t (moved m) (inside_sum (pos m) (pos 1) (support_of t) (tri_sides t) v u (least m) one
            (closed_ring t v c) (inside_ring t u iu));
      }
    where
      least : (m : ℕ) → pos 0 ≤ℤ pos m
      least m = omega (arith, ints)

-- a face that meets a triangle of its plane has inside points in it
pub meets_inside : (t : Tri) (f : Face) → is_flat t ≡ false → ShareAPlane t f → Meets f (face_of t) → Somewhere f (λ v. is_inside (face_of t) v ≡ true)
meets_inside t f n s m =
    let u = has_inside t n in
    some_shared t f m.at u.at (inside_out f m.at m.inside) u.inside (s.triangle u.at (inside_closed (face_of t) u.at u.inside)) m.holds

-- ---- by the edge planes of the triangle alone
pub meets_flat : {W M : Type 0} {G : Ghosts W M} {b : Bool} (f : Face) (c : Cutter W M G) (es : List Plane) → ShareAPlane c.tri f → HasInside f →
    c.support ≡ support_of c.tri → es ≡ edges_of c.tri → IsTrue b ↔ Somewhere f (λ v. none_positive es v ≡ true) →
    IsTrue b ↔ Meets f (face_of c.tri)
meets_flat {b} f c es s i n e k =
    subst (λ g. IsTrue b ↔ Meets f g) (cutting_plane_face c.tri n e) (λ t. met_on f c.support es flat (k.0 t), λ m. k.1 (met_free f es c.support m))
  where
    zero : (v : Spot) → is_inside f v ≡ true → is_zero (value_at c.support v) ≡ true
    zero v j = zero_in (ap (λ (p : Plane). value_at p v) n ∙ s.face v j)

    flat : IsWhole f (λ v. is_zero (value_at c.support v) ≡ true)
    flat =
        record { somewhere = record { at = i.at; inside = i.inside; holds = zero i.at i.inside }; everywhere = record { holds = λ v j. zero v j } }
