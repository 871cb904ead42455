-- Triangles of points in another unit and from another origin wind as before, and what is clear of them stays clear.
use Rattle.std.proofs.Common.{◌≡◌, refl, sym, ap, ◌∙◌, Bool, true, false, not, ◌&&◌, cond, List, [], ◌∷◌, map, filter, ℤ, pos, ◌+ℤ◌, ◌*ℤ◌, ◌<ℤ◌}
use Rattle.std.specs.List.{AllByRecursion}
use Rattle.std.proofs.lemmas.Bool.{false≢true}
use Rattle.ember_algebra.specs.Sign.{is_nil}
use Rattle.ember_algebra.specs.Sums.{total}
use Rattle.ember_algebra.specs.Vector.{Vector, scale_v, cross}
use Rattle.ember_algebra.proofs.Order.{pos_mul}
use Rattle.ember_algebra.proofs.Ring.{◌⊗◌}
use Rattle.ember_algebra.proofs.Vectors.{scalar, vector, vector_identity, ◌≈v◌, cancels_v, crossE, scaleE}
use Rattle.ember_model.specs.declared.point.Axis.{Axis}
use Rattle.ember_model.specs.declared.point.Spot.{Spot}
use Rattle.ember_model.specs.Clear.{AreClear}
use Rattle.ember_model.proofs.SignTests.{sgn_scaled}
use Rattle.ember_model.specs.Points.{displacement}
use Rattle.ember_meaning.specs.Closed.Chains.{is_zero_vector}
use Rattle.mesh_certificate.specs.Certificate.Facing.{triangle_normal}
use Rattle.mesh_written.specs.Closed.{Positions}
use Rattle.mesh_tolerance.specs.Similar.{placed_by, triangle_placed_by, HasWeights, WindAsPlaced, AreClearAsPlaced}
use Rattle.mesh_tolerance.specs.Triangles.{has_no_area, face_of_corners}
use Rattle.mesh_tolerance.proofs.SeenTriangles.{crossing_from, wind_is_seen}
use Rattle.mesh_tolerance.proofs.Similar.{placed_displacement, placed_is_seen_alike, placed_is_clear}

-- a multiple is 0 exactly if the vector is
zero_scaled_vector : (c : ℤ) (v : Vector) → pos 0 <ℤ c → is_zero_vector (scale_v c v) ≡ is_zero_vector v
zero_scaled_vector c v p =
    let x = sgn_scaled v.x p in let y = sgn_scaled v.y p in let z = sgn_scaled v.z p in
    λ i. is_nil (x i) && (is_nil (y i) && is_nil (z i))

module _ (n m : ℤ) (o : Vector) (pn : pos 0 <ℤ n) (pm : pos 0 <ℤ m) where
  abbrev placed : Positions Spot → Positions Spot
  placed t = triangle_placed_by n m o t

  -- ---- areas
  same_area : (t : Positions Spot) → has_no_area (placed t) ≡ has_no_area t
  same_area t =
      let k = n *ℤ m in let f = placed_displacement n m o pn pm t.a t.b in let g = placed_displacement n m o pn pm t.a t.c in
      ap is_zero_vector ((λ i. cross (f i) (g i)) ∙ vector_identity (scalar ∷ vector ∷ vector ∷ [])
      (λ k u v. crossE (scaleE k u) (scaleE k v) ≈v scaleE (k ⊗ k) (crossE u v)) cancels_v k (displacement t.a t.b)
      (displacement t.a t.c)) ∙ zero_scaled_vector (k *ℤ k) (triangle_normal t.a t.b t.c)
      (pos_mul (pos_mul pn pm) (pos_mul pn pm))

  -- ---- clear points
  pub clear_as_placed : (ts : List (Positions Spot)) → AreClearAsPlaced n m o ts
  clear_as_placed [] p c = tt
  clear_as_placed (t ∷ ts) p c =
      by (has_no_area t) (has_no_area (placed t)) (filter (λ t. not (has_no_area t)) ts)
      (filter (λ t. not (has_no_area t)) (map placed ts)) (same_area t) (clear_as_placed ts p) c
    where
      by : (b b' : Bool) (rest there : List (Positions Spot)) → b' ≡ b →
          (AreClear (map face_of_corners rest) p → AreClear (map face_of_corners there) (placed_by n m o p)) →
          AreClear (map face_of_corners (cond (not b) (t ∷ rest) rest)) p →
          AreClear (map face_of_corners (cond (not b') (placed t ∷ there) there)) (placed_by n m o p)
      by true true rest there e r c = r c
      by false false rest there e r c = (placed_is_clear n m o pn pm t p c.0, r c.1)
      by true false rest there e r c = absurd (false≢true e)
      by false true rest there e r c = absurd (false≢true (sym e))

  -- ---- winding numbers
  weights_placed : (ts : List (Positions Spot)) → AllByRecursion HasWeights ts → AllByRecursion HasWeights (map placed ts)
  weights_placed [] h = tt
  weights_placed (t ∷ ts) h =
      (record { a = pos_mul pn h.0.a; b = pos_mul pn h.0.b; c = pos_mul pn h.0.c }, weights_placed ts h.1)

  same_crossings : (a : Axis) (p : Spot) (ts : List (Positions Spot)) →
      total (crossing_from a (placed_by n m o p)) (map placed ts) ≡ total (crossing_from a p) ts
  same_crossings a p [] = refl
  same_crossings a p (t ∷ ts) =
      let e = placed_is_seen_alike n m o pn pm a p t.a t.b t.c in let r = same_crossings a p ts in λ i. e i +ℤ r i

  pub winds_as_placed : (ts : List (Positions Spot)) → AllByRecursion HasWeights ts → WindAsPlaced n m o ts
  winds_as_placed ts h a p wp =
      wind_is_seen a (placed_by n m o p) (map placed ts) (pos_mul pn wp) (weights_placed ts h)
      ∙ same_crossings a p ts ∙ sym (wind_is_seen a p ts wp h)
