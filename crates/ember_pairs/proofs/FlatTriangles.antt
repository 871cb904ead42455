-- Flat triangles: all points are on their plane, and they meet none.
use Rattle.std.proofs.Common.{◌≡◌, refl, ℕ, Bool, true, false, not, ◌&&◌, cond, List, [], ◌∷◌, ◌++◌, ℤ, pos, ◌+ℤ◌, ◌-ℤ◌, ◌*ℤ◌}
use Rattle.ember_algebra.specs.Relations.{Each, more}
use Rattle.ember_algebra.specs.Sign.{is_zero}
use Rattle.ember_algebra.proofs.Ring.{◌⊕◌, ◌⊖◌, ◌⊗◌, ◌≈◌, num, solve, cancels}
use Rattle.ember_algebra.proofs.Booleans.{and_three}
use Rattle.ember_model.specs.declared.point.Spot.{Spot}
use Rattle.ember_model.specs.declared.tri.Tri.{Tri}
use Rattle.ember_model.specs.Planes.{value_at, support_of}
use Rattle.ember_model.specs.Faces.{is_flat}
use Rattle.ember_model.specs.Owners.{spot_of_corner}
use Rattle.ember_model.proofs.SignTests.{zero_out, clash}
use Rattle.ember_box.specs.Near.{tri_at}
use Rattle.ember_pairs.specs.declared.pair.Pair.{Pair}
use Rattle.ember_width.specs.Heights.{heights_of, all_on}
use Rattle.ember_pairs.specs.Pairs.{AtPair, apart, pair, row, pairs_of, AreMeetingPairs}
use Rattle.ember_pairs.specs.Candidates.{not_flat}

-- ---- the plane of a flat triangle
-- all points are on the plane of a flat triangle
all_on_flat : (t : Tri) → is_flat t ≡ true → (v : Spot) → value_at (support_of t) v ≡ pos 0
unfolding is_flat
all_on_flat t e v =
    let n = support_of t in let z = and_three (is_zero n.a) (is_zero n.b) (is_zero n.c) e in
    zero n.a n.b n.c v.x v.y v.z v.w t.a.x t.a.y t.a.z (zero_out n.a z.a) (zero_out n.b z.b) (zero_out n.c z.c)
  where
    zero : (a b c x y z w p q r : ℤ) → a ≡ pos 0 → b ≡ pos 0 → c ≡ pos 0 → a *ℤ x +ℤ b *ℤ y +ℤ c *ℤ z -ℤ (a *ℤ p +ℤ b *ℤ q +ℤ c *ℤ r) *ℤ w ≡ pos 0
    zero a b c x y z w p q r ea eb ec =
        rw (ea, eb, ec) (solve 7 (λ x y z w p q r. num (pos 0) ⊗ x ⊕ num (pos 0) ⊗ y ⊕ num (pos 0) ⊗ z ⊖
        (num (pos 0) ⊗ p ⊕ num (pos 0) ⊗ q ⊕ num (pos 0) ⊗ r) ⊗ w ≈ num (pos 0)) cancels x y z w p q r)

-- a triangle isn't flat if a corner of another is off its plane
pub full_if_off : (t u : Tri) → all_on (heights_of (support_of t) u) ≡ false → is_flat t ≡ false
full_if_off t u e = by (is_flat t) refl
  where
    on : (a b c : ℤ) → a ≡ pos 0 → b ≡ pos 0 → c ≡ pos 0 → is_zero a && (is_zero b && is_zero c) ≡ true
    on a b c ea eb ec = rw (ea, eb, ec) refl

    by : (b : Bool) → is_flat t ≡ b → is_flat t ≡ false
    by false f = f
    by true f =
        let h = heights_of (support_of t) u in
        absurd (clash (on h.a h.b h.c (all_on_flat t f (spot_of_corner u.a)) (all_on_flat t f (spot_of_corner u.b)) (all_on_flat t f (spot_of_corner u.c))) e)

-- ---- listed triangles have the same meeting pairs without flat ones
module _ (ts : List Tri) where
  -- the pairs of a flat triangle give nothing
  flat_row : {later out : List Pair} (i : ℕ) (js : List ℕ) → is_flat (tri_at ts i) ≡ true → Each (AtPair ts) later out →
      Each (AtPair ts) (row i js ++ later) out
  flat_row i [] f e = e
  flat_row {out = out} i (j ∷ js) f e = more {ys = []} {zs = out} (apart (λ m. clash f m.one)) (flat_row i js f e)

  -- nor do the pairs with flat triangles
  fill_row : (i : ℕ) (js : List ℕ) (xs ys : List Pair) →
      ((out : List Pair) → Each (AtPair ts) xs out → Each (AtPair ts) ys out) → (out : List Pair) →
      Each (AtPair ts) (row i (not_flat ts js) ++ xs) out → Each (AtPair ts) (row i js ++ ys) out
  fill_row i [] xs ys rest out e = rest out e
  fill_row i (j ∷ js) xs ys rest out e = by (is_flat (tri_at ts j)) refl (fill_row i js xs ys rest) out e
    where
      by : (flat : Bool) → is_flat (tri_at ts j) ≡ flat →
          ((out : List Pair) → Each (AtPair ts) (row i (not_flat ts js) ++ xs) out →
          Each (AtPair ts) (row i js ++ ys) out) → (out : List Pair) →
          Each (AtPair ts) (row i (cond (not flat) (j ∷ not_flat ts js) (not_flat ts js)) ++ xs) out →
          Each (AtPair ts) (pair i j ∷ (row i js ++ ys)) out
      by true f filled out e = more {ys = []} {zs = out} (apart (λ m. clash f m.other)) (filled out e)
      by false f filled _ (more {zs = zs} r e) = more r (filled zs e)

  -- the meeting pairs of the triangles with a face are those of all
  pub all_pairs : (indices : List ℕ) (out : List Pair) → AreMeetingPairs ts (not_flat ts indices) out → AreMeetingPairs ts indices out
  all_pairs [] out e = e
  all_pairs (i ∷ indices) out e = by (is_flat (tri_at ts i)) refl (all_pairs indices) out e
    where
      by : (flat : Bool) → is_flat (tri_at ts i) ≡ flat →
          ((out : List Pair) → AreMeetingPairs ts (not_flat ts indices) out → AreMeetingPairs ts indices out) →
          (out : List Pair) → AreMeetingPairs ts (cond (not flat) (i ∷ not_flat ts indices) (not_flat ts indices)) out
          → AreMeetingPairs ts (i ∷ indices) out
      by true f rest out e = flat_row i indices f (rest out e)
      by false f rest out e = fill_row i indices (pairs_of (not_flat ts indices)) (pairs_of indices) rest out e
