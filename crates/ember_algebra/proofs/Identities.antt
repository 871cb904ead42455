-- Identities of vectors and planes, to be used by name.
use Rattle.std.proofs.Common.{◌≡◌, ap, ◌∙◌, arith, [], ◌∷◌, ℤ, pos, ◌-ℤ◌, ◌*ℤ◌, ◌≤ℤ◌}
use lib.IntN.{zero-*ℤ}
use Rattle.ember_algebra.specs.Vector.{Vector, zero_v, minus_v, scale_v, dot, cross}
use Rattle.ember_algebra.proofs.Laws.{linear}
use Rattle.ember_algebra.proofs.Ring.{◌⊖◌, ◌⊗◌, ◌≈◌, cancels}
use Rattle.ember_algebra.proofs.Vectors.{vector, identity, same_v, vector_identity, ◌≈v◌, cancels_v, minusE, scaleE, dotE, crossE}
use Rattle.ember_algebra.proofs.Order.{square_nonneg}

-- ---- products of three and four vectors

-- the triple product
triple_product : (h u v : Vector) → cross h (cross u v) ≡ minus_v (scale_v (dot h v) u) (scale_v (dot h u) v)
triple_product =
    vector_identity (vector ∷ vector ∷ vector ∷ []) (λ h u v. crossE h (crossE u v) ≈v minusE (scaleE (dotE h v) u) (scaleE (dotE h u) v)) cancels_v

-- the identity of Binet and Cauchy
dot_cross_cross : (a b c d : Vector) → dot (cross a b) (cross c d) ≡ dot a c *ℤ dot b d -ℤ dot a d *ℤ dot b c
dot_cross_cross =
    identity (vector ∷ vector ∷ vector ∷ vector ∷ []) (λ a b c d. dotE (crossE a b) (crossE c d) ≈ dotE a c ⊗ dotE b d ⊖ dotE a d ⊗ dotE b c) cancels

-- ---- parallel vectors
-- the dot product with a zero vector is 0
pub dot_zero : (g p : Vector) → p.x ≡ pos 0 → p.y ≡ pos 0 → p.z ≡ pos 0 → dot g p ≡ pos 0
dot_zero g p x y z =
    omega (arith, linear, ap (λ (n : ℤ). g.x *ℤ n) x, ap (λ (n : ℤ). g.y *ℤ n) y, ap (λ (n : ℤ). g.z *ℤ n) z)

-- the products with two parallel vectors are in proportion
pub parallel_products : (a b d z : Vector) → cross d z ≡ zero_v → dot a d *ℤ dot b z ≡ dot a z *ℤ dot b d
parallel_products a b d z h =
    let q = dot_zero (cross a b) (cross d z) (ap (λ (v : Vector). v.x) h) (ap (λ (v : Vector). v.y) h) (ap (λ (v : Vector). v.z) h) in
    omega (arith, linear, q, dot_cross_cross a b d z)

-- a vector orthogonal to both f and g is parallel to their cross product
pub orthogonal_parallel : (n f g : Vector) → dot n f ≡ pos 0 → dot n g ≡ pos 0 → cross n (cross f g) ≡ zero_v
orthogonal_parallel n f g p q =
    triple_product n f g ∙ rw (p, q) (same_v (by f.x g.x) (by f.y g.y) (by f.z g.z))
  where
    by : (a b : ℤ) → pos 0 *ℤ a -ℤ pos 0 *ℤ b ≡ pos 0
    by a b = omega (arith, linear, zero-*ℤ a, zero-*ℤ b)

-- a vector's square isn't negative
pub dot_nonneg : (d : Vector) → pos 0 ≤ℤ dot d d
dot_nonneg d =
    let x = square_nonneg d.x in let y = square_nonneg d.y in let z = square_nonneg d.z in omega (arith, linear, x, y, z)
