-- What is known of an expression in the box of a job is its truth at every clear point of the box.
use Rattle.std.proofs.Common.{◌≡◌, ℕ, ◌-◌, ◌==◌, Bool, true, false, cond, nat_eq, List, [], ◌∷◌, All, Some, ℤ, pos}
use Rattle.std.proofs.Common.{◌+ℤ◌, ◌≤ℤ◌, ◌<ℤ◌, refl, sym, ◌∙◌, subst, arith}
use Rattle.std.proofs.lemmas.Bool.{or_parts, eq-eqb, eqb-true}
use Rattle.std.proofs.lemmas.List.Elements.{All-cons}
use Rattle.std.proofs.lemmas.List.FromFn.{get_or-map-range_with_len}
use borrow.Author.Differences.{ints}
use Rattle.ember_algebra.specs.Vector.{Vector}
use Rattle.ember_algebra.proofs.Laws.{linear}
use Rattle.ember_algebra.proofs.Order.{mul_le}
use Rattle.ember_algebra.proofs.Ring.{◌⊗◌, ◌≈◌, solve, cancels}
use Rattle.ember_model.specs.declared.tri.Tri.{Tri}
use Rattle.ember_model.specs.declared.point.Spot.{Spot}
use Rattle.ember_model.specs.declared.point.Axis.{Axis}
use Rattle.ember_model.specs.declared.point.Axis.TheVariants.{X, Y, Z}
use Rattle.ember_model.specs.Clear.{IsClear, AreClear}
use Rattle.ember_model.specs.Meshes.{wind, faces_of, of_mesh, meshes, vector, IsScene}
use Rattle.ember_expr.specs.Formula.{Formula, IsFit, IsMeshNumber}
use Rattle.ember_expr.specs.Truth.{count_of, truth}
use Rattle.ember_known.specs.Laws.{AgreeOutside}
use Rattle.ember_known.proofs.Decided.{decided_tells}
use Rattle.ember_law.proofs.Vectors.{of_mesh_all}
use Rattle.ember_box.specs.Boxes.{Cell, low, high}
use Rattle.ember_box.specs.Near.{is_near, near}
use Rattle.ember_box.specs.Aabbs.{interval_between}
use Rattle.ember_box.specs.Reference.{reference_at, reference}
use Rattle.ember_ref.specs.ClosedBoxes.{IsAcross, HasPoint}
use Rattle.ember_ref.proofs.BoxPoints.{has_reference}
use Rattle.ember_ref.proofs.ClearReferences.{clear_references}
use Rattle.ember_ref.proofs.FarTriangles.{winds_far}
use Rattle.ember_job.specs.declared.job.Job.{Job}
use Rattle.ember_visit.specs.Jobs.{near_of, IsJob}
use Rattle.ember_visit.specs.Values.{has_mesh, box_value, HasCorner}
use Rattle.ember_visit.proofs.IndexLists.{near_listed}

-- ---- the reference point of a corner in a box lies in the box
wider : (lo hi v x w : ℤ) → pos 0 <ℤ w → lo ≤ℤ v → v <ℤ hi → IsAcross (interval_between v (v +ℤ pos 1)) x w → IsAcross (interval_between lo hi) x w
wider lo hi v x w p a b f =
    let z : pos 0 ≤ℤ w = omega (arith, linear) in let c : (v +ℤ pos 1) ≤ℤ hi = omega (arith, ints) in
    let turn = λ (u : ℤ). solve 2 (λ u w. u ⊗ w ≈ w ⊗ u) cancels u w in
    record { from = omega (arith, linear, mul_le z a, f.from, turn lo, turn v); to = omega (arith, linear, mul_le z c, f.to, turn hi, turn (v +ℤ pos 1)) }

has_corner_reference : (c : Cell) (v : Vector) → HasCorner c v → HasPoint c (reference_at v)
has_corner_reference c v at =
    let unit : Cell = record { lo = v; log = λ k. 0; path = 1 } in let h = has_reference unit in let p = reference_at v in
    record {
      weight = h.weight;
      on_x = wider (low c X) (high c X) v.x p.x p.w h.weight (at.from X) (at.until X) h.on_x;
      on_y = wider (low c Y) (high c Y) v.y p.y p.w h.weight (at.from Y) (at.until Y) h.on_y;
      on_z = wider (low c Z) (high c Z) v.z p.z p.w h.weight (at.from Z) (at.until Z) h.on_z;
    }

-- ---- the meshes with no triangle near a box
-- no triangle is near the box of a mesh that has none among the near ones
all_far : (c : Cell) (m : ℕ) (ts : List Tri) → has_mesh (near ts c) m ≡ false → All (λ t. is_near c t ≡ false) (of_mesh m ts)
all_far c m [] h = λ k d l. absurd (omega arith)
all_far c m (t ∷ ts) h = by (is_near c t) (nat_eq t.mesh m) refl refl h (all_far c m ts)
  where
    by : (b d : Bool) → is_near c t ≡ b → nat_eq t.mesh m ≡ d →
        has_mesh (cond b (t ∷ near ts c) (near ts c)) m ≡ false →
        (has_mesh (near ts c) m ≡ false → All (λ t. is_near c t ≡ false) (of_mesh m ts)) →
        All (λ t. is_near c t ≡ false) (cond d (t ∷ of_mesh m ts) (of_mesh m ts))
    by true true e d h r =
        let p = or_parts (m == t.mesh) (has_mesh (near ts c) m) h in
        let q : (m == t.mesh) ≡ true = eq-eqb m t.mesh (sym (eqb-true t.mesh m d)) in absurd (let f : true ≡ false = sym q ∙ p.0 in cc)
    by true false e d h r = r (or_parts (m == t.mesh) (has_mesh (near ts c) m) h).1
    by false true e d h r = All-cons (λ t. is_near c t ≡ false) t (of_mesh m ts) e (r h)
    by false false e d h r = r h

-- the count of a mesh is its winding number
pub count_is : (a : Axis) (ts : List Tri) (p : Spot) (m : ℕ) → IsMeshNumber 64 m → count_of (vector a ts p) m ≡ wind a (faces_of (of_mesh m ts)) p
unfolding meshes
count_is a ts p m h =
    get_or-map-range_with_len (λ m. wind a (faces_of (of_mesh m ts)) p) 1 64 (m - 1) m (pos 0) (omega (arith, h.first, h.last)) (omega (arith, h.first))

module _ (ts : List Tri) (n : ℕ) (s : IsScene ts n) where
  -- the meshes with no triangle near a box count alike at all its clear points
  far_agree : (c : Cell) (a b : Axis) (p q : Spot) → HasPoint c p → HasPoint c q → AreClear (faces_of ts) p →
      AreClear (faces_of ts) q → AgreeOutside (has_mesh (near ts c)) (vector a ts p) (vector b ts q)
  far_agree c a b p q f g cp cq = record {
    same = λ m h far. count_is a ts p m h ∙ winds_far a b c p q (of_mesh m ts) (s.balanced m) (all_far c m ts far) f g
        (of_mesh_all (λ f. IsClear f p) m ts cp) (of_mesh_all (λ f. IsClear f q) m ts cq) ∙ sym (count_is b ts q m h);
  }

  known_inside : (f : Formula) → IsFit 64 f → (j : Job) → IsJob ts j → (known : Bool) → box_value ts f j ≡ Some known →
      (a : Axis) (p : Spot) → HasPoint j.cell p → AreClear (faces_of ts) p → truth (vector a ts p) f ≡ known
  unfolding box_value
  known_inside f fit j h known e a p has clear =
      let r = far_agree j.cell X a (reference j.cell) p (has_reference j.cell) has (clear_references j.cell.lo ts s.valid) clear in
      let agree = subst (λ (us : List Tri). AgreeOutside (has_mesh us) (vector X ts (reference j.cell)) (vector a ts p)) (near_listed ts j h) r in
      decided_tells (has_mesh (near_of ts j)) j.at.counts (vector a ts p)
      (subst (λ (counts : List ℤ). AgreeOutside (has_mesh (near_of ts j)) counts (vector a ts p)) (sym h.at) agree) f
      known fit e

  -- at the reference points of its corners
  pub known_at_corners : (f : Formula) → IsFit 64 f → (j : Job) → IsJob ts j → (known : Bool) →
      box_value ts f j ≡ Some known → (v : Vector) → HasCorner j.cell v → truth (vector X ts (reference_at v)) f ≡ known
  known_at_corners f fit j h known e v at =
      known_inside f fit j h known e X (reference_at v) (has_corner_reference j.cell v at) (clear_references v ts s.valid)
