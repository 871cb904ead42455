-- Planes that aren't 0 at one point of the ray: at a general point no two planes of a face are.
use Rattle.std.proofs.Common.{◌≡◌, ◌≢◌, ⊎_elim, sym, ap, ◌∙◌, arith, true, [], ◌∷◌, ℤ, pos, ◌+ℤ◌, ◌-ℤ◌, ◌*ℤ◌, neg_ℤ, ◌<ℤ◌}
use lib.IntN.{*ℤ_comm}
use Rattle.ember_algebra.specs.Vector.{Vector, zero_v, scale_v, dot, cross}
use Rattle.ember_algebra.specs.Sign.{is_negative}
use Rattle.ember_algebra.proofs.Laws.{linear}
use Rattle.ember_algebra.proofs.Order.{by_sign, pos_mul, mul_neg_neg, zero_product}
use Rattle.ember_algebra.proofs.Ring.{◌⊕◌, ◌⊖◌, ◌⊗◌, ◌≈◌, neg, solve, cancels}
use Rattle.ember_algebra.proofs.Vectors.{scalar, vector, tuple, identity, dotE, crossE, scaleE, minusE, valueE}
use Rattle.ember_algebra.proofs.Booleans.{same_test}
use Rattle.ember_model.specs.declared.plane.Plane.{Plane}
use Rattle.ember_model.specs.declared.point.Spot.{Spot}
use Rattle.ember_model.specs.declared.face.Face.{Face}
use Rattle.ember_model.specs.Edges.{normal, is_on_edge, SameEdge}
use Rattle.ember_model.specs.Faces.{size, between}
use Rattle.ember_model.specs.Planes.{value_at}
use Rattle.ember_model.proofs.Legs.{value_between, size_is_pos, size_is_neg, ends_nonzero}
use Rattle.ember_model.proofs.SignTests.{clash, negative_not, zero_scaled}
use Rattle.ember_model.proofs.Tuples.{plane_tuple, spot_tuple}
use Rattle.ember_model.specs.Points.{displacement}
use Rattle.ember_poly.proofs.FaceTests.{edge_in, edge_out}
use Rattle.ember_meaning.proofs.RectangleRound.{IsGeneral}
use Rattle.ember_meaning.proofs.Displacements.{Parallel, dot_swap, orthogonal_to_none, parallel_orthogonal, parallel_swap, zero_carried}
use Rattle.ember_meaning.proofs.EdgeForm.{flat_displacement}
use Rattle.mesh_solid.proofs.EdgeCount.{far}

-- the plane through the line in which g and h meet that contains the direction e
abbrev pub blend : Vector → Plane → Plane → Plane
blend e g h =
    let b = value_at g (far e) in let c = value_at h (far e) in
    record { a = b *ℤ h.a -ℤ c *ℤ g.a; b = b *ℤ h.b -ℤ c *ℤ g.b; c = b *ℤ h.c -ℤ c *ℤ g.c; d = b *ℤ h.d -ℤ c *ℤ g.d }

value_blend : (e : Vector) (g h : Plane) (v : Spot) → value_at (blend e g h) v ≡ value_at g (far e) *ℤ value_at h v -ℤ value_at h (far e) *ℤ value_at g v
value_blend e g h v =
    identity (scalar ∷ scalar ∷ tuple ∷ tuple ∷ tuple ∷ [])
    (λ b c g h v. (b ⊗ h.x ⊖ c ⊗ g.x) ⊗ v.x ⊕ (b ⊗ h.y ⊖ c ⊗ g.y) ⊗ v.y ⊕ (b ⊗ h.z ⊖ c ⊗ g.z) ⊗ v.z ⊖
    (b ⊗ h.w ⊖ c ⊗ g.w) ⊗ v.w ≈ b ⊗ valueE h v ⊖ c ⊗ valueE g v) cancels (value_at g (far e)) (value_at h (far e))
    (plane_tuple g) (plane_tuple h) (spot_tuple v)

-- in the plane n the ray from x along e doesn't meet the lines of g and h in one point, unless they are parallel
pub record IsSkew (n : Plane) (e : Vector) (x : Spot) (g h : Plane) : Type 0 where
  pub skew : value_at (blend e g h) x ≡ pos 0 → Parallel (normal n) (normal (blend e g h))

-- where the ray meets the line of g, h contains that line if it is 0 there
pub skew_is_general : (n : Plane) (e : Vector) (x : Spot) (g h : Plane) →
    is_negative (value_at g x *ℤ value_at g (far e)) ≡ true → IsSkew n e x g h →
    IsGeneral (scale_v (value_at g (far e)) (cross (normal n) (normal g))) (between g x (far e)) h
skew_is_general n e x g h c s = record { contains = λ z. at_line (s.skew (value_blend e g h x ∙ both_ways (sym (value_between h g x (far e)) ∙ z))) }
  where
    a : ℤ
    a = value_at g x

    b : ℤ
    b = value_at g (far e)

    -- the value where g is 0, by the sign of g at x
    both_ways : size b *ℤ value_at h x +ℤ size a *ℤ value_at h (far e) ≡ pos 0 → b *ℤ value_at h x -ℤ value_at h (far e) *ℤ a ≡ pos 0
    both_ways z =
        by_sign b
        (λ m. by_sign a (λ l. absurd (clash c (negative_not (a *ℤ b) (let p = pos_mul l m in
        omega (arith, linear, p))))) (λ q. absurd ((ends_nonzero a b c).0 q)) (λ l. rising m l z))
        (λ q. absurd ((ends_nonzero a b c).1 q))
        (λ m. by_sign a (λ l. falling m l z) (λ q. absurd ((ends_nonzero a b c).0 q))
        (λ l. absurd (clash c (negative_not (a *ℤ b) (let p = mul_neg_neg l m in omega (arith, linear, p))))))
      where
        rising : pos 0 <ℤ b → a <ℤ pos 0 → size b *ℤ value_at h x +ℤ size a *ℤ value_at h (far e) ≡ pos 0 → b *ℤ value_at h x -ℤ value_at h (far e) *ℤ a ≡ pos 0
        rising m l z =
            let x' = size_is_pos b m in let y' = size_is_neg a l in
            solve 4 (λ a b u v. b ⊗ u ⊖ v ⊗ a ≈ b ⊗ u ⊕ neg a ⊗ v) cancels a b (value_at h x) (value_at h (far e))
            ∙ sym (λ i. x' i *ℤ value_at h x +ℤ y' i *ℤ value_at h (far e)) ∙ z

        falling : b <ℤ pos 0 → pos 0 <ℤ a → size b *ℤ value_at h x +ℤ size a *ℤ value_at h (far e) ≡ pos 0 →
            b *ℤ value_at h x -ℤ value_at h (far e) *ℤ a ≡ pos 0
        falling m l z =
            let x' = size_is_neg b m in let y' = size_is_pos a l in
            let w : neg_ℤ b *ℤ value_at h x +ℤ a *ℤ value_at h (far e) ≡ pos 0 = sym (λ i. x' i *ℤ value_at h x +ℤ y' i *ℤ value_at h (far e)) ∙ z in
            solve 4 (λ a b u v. b ⊗ u ⊖ v ⊗ a ≈ neg (neg b ⊗ u ⊕ a ⊗ v)) cancels a b (value_at h x) (value_at h (far e)) ∙ ap neg_ℤ w

    at_line : Parallel (normal n) (normal (blend e g h)) → dot (normal h) (scale_v b (cross (normal n) (normal g))) ≡ pos 0
    at_line p =
        identity (vector ∷ vector ∷ vector ∷ scalar ∷ scalar ∷ [])
        (λ n g h b c. dotE h (scaleE b (crossE n g)) ≈ neg (dotE g (crossE n (minusE (scaleE b h) (scaleE c g)))))
        cancels (normal n) (normal g) (normal h) b (value_at h (far e)) ∙ ap neg_ℤ (orthogonal_to_none (normal g) p)

-- different edges have different values
module _ (f : Face) (e : Vector) (x : Spot) (wx : pos 0 <ℤ x.w) (flat : value_at f.support x ≡ pos 0)
    (some : normal f.support ≢ zero_v) (g h : Plane) (climbs_g : value_at g (far e) ≢ pos 0)
    (climbs_h : value_at h (far e) ≢ pos 0) (s : IsSkew f.support e x g h) where
  module _ (z : value_at (blend e g h) x ≡ pos 0) where
    -- then the blend is 0 on all of the plane
    blend_zero : (v : Spot) → value_at f.support v ≡ pos 0 → value_at g (far e) *ℤ value_at h v -ℤ value_at h (far e) *ℤ value_at g v ≡ pos 0
    blend_zero v nv =
        let k = normal (blend e g h) in let d = displacement x v in
        let o : dot d (normal f.support) ≡ pos 0 = dot_swap d (normal f.support) ∙ flat_displacement f.support x v flat nv in
        sym (value_blend e g h v) ∙ zero_carried (blend e g h) x v wx z
        (dot_swap k d ∙ parallel_orthogonal d k (normal f.support) some
        (parallel_swap (normal f.support) k (s.skew z)) o)

    other : (b c y w : ℤ) → b ≢ pos 0 → b *ℤ y -ℤ c *ℤ w ≡ pos 0 → w ≡ pos 0 → y ≡ pos 0
    other b c y w n e q =
        let r = zero_scaled c w q in let z : b *ℤ y ≡ pos 0 = omega (arith, linear, e, r) in
        ⊎_elim (λ x. absurd (n x)) (λ x. x) (zero_product z)

    same_edge : SameEdge f g h
    same_edge v =
        same_test (is_on_edge f g v) (is_on_edge f h v)
        (λ t. let o = edge_out f g v t in edge_in f h v o.closed
        (other (value_at g (far e)) (value_at h (far e)) (value_at h v) (value_at g v) climbs_g
        (blend_zero v o.closed.flat) o.zero))
        (λ t. let o = edge_out f h v t in let q = blend_zero v o.closed.flat in
        edge_in f g v o.closed (other (value_at h (far e)) (value_at g (far e)) (value_at g v) (value_at h v) climbs_h
        (omega (arith, linear, q)) o.zero))

  pub skew_apart : (SameEdge f g h → ⊥) → value_at g x *ℤ value_at h (far e) ≢ value_at h x *ℤ value_at g (far e)
  skew_apart different q =
      let a = *ℤ_comm (value_at g x) (value_at h (far e)) in let b = *ℤ_comm (value_at h x) (value_at g (far e)) in
      different (same_edge (value_blend e g h x ∙ (omega (arith, linear, q, a, b))))
