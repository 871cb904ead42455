-- The test of a clear point is its definition.
use Rattle.std.proofs.Common.{◌≡◌, ◌≢◌, ⊎_elim, refl, sym, ap, subst, ◌∙◌, arith, Bool, true, false, not, cond, ◌&&◌}
use Rattle.std.proofs.Common.{◌||◌, List, [], ◌∷◌, ℤ, pos, negsuc, ◌+ℤ◌, ◌-ℤ◌, ◌*ℤ◌, neg_ℤ, ◌<ℤ◌, ◌≤ℤ◌}
use Rattle.std.proofs.lemmas.Int.{by_lt_z}
use lib.IntN.{*ℤ-zero, zero-*ℤ, *ℤ_comm}
use Rattle.std.proofs.lemmas.Bool.{and_parts}
use Rattle.ember_algebra.specs.Sign.{sign, is_negative, is_zero, is_positive}
use Rattle.ember_algebra.proofs.Laws.{linear, one-*ℤ}
use Rattle.ember_algebra.proofs.Order.{by_sign, pos_mul, nonneg_mul, mul_neg_neg, zero_product, sign_pos, sign_neg, square_nonneg}
use Rattle.ember_algebra.proofs.Ring.{◌⊕◌, ◌⊖◌, ◌⊗◌, ◌≈◌, num, neg, solve, cancels}
use Rattle.ember_model.specs.declared.plane.Plane.{Plane}
use Rattle.ember_model.specs.declared.tri.Tri.{Tri}
use Rattle.ember_model.specs.declared.point.Spot.{Spot}
use Rattle.ember_model.specs.declared.point.Axis.{Axis}
use Rattle.ember_model.specs.declared.point.Axis.TheVariants.{X, Y, Z}
use Rattle.ember_model.specs.declared.face.Face.{Face}
use Rattle.ember_model.specs.Planes.{value_at, along}
use Rattle.ember_model.specs.Points.{scaled, moved}
use Rattle.ember_model.specs.Faces.{size, is_inside, is_in_closed, is_flat, face_of, hit}
use Rattle.ember_model.specs.Clear.{IsClear, IsClearOf}
use Rattle.ember_model.specs.ClearTest.{entry_point, enters, is_ray_clear, is_clear, is_clear_of, none_positive, all_negative}
use Rattle.ember_model.proofs.SignTests.{negative_in, negative_out, positive_in, positive_out, not_positive_in}
use Rattle.ember_model.proofs.SignTests.{zero_out, nonzero_out, zero_scaled, zero_times, size_positive, clash, not_true}
use Rattle.ember_model.proofs.SignTests.{any_from, any_out}
use Rattle.ember_model.proofs.PlaneValues.{value_scaled, value_hit, size-is}
use Rattle.ember_model.proofs.Hits.{Scales, scaled_point_scales, same_all_negative, same_none_positive, closed_scaled}
use Rattle.ember_model.proofs.Hits.{value_ray, ray_weight, closed_on, inside_on, hit_inside, hit_closed, closed_parts}
use Rattle.ember_model.proofs.Hits.{inside_parts}
use Rattle.ember_model.proofs.LastZero.{none_positive_member, all_negative_member, After, last_zero}

-- ---- a ray in the plane
-- if a point of the ray is in all half-spaces and p is not, the ray enters through an edge
entry_low : (vg gg vh gh m s : ℤ) → pos 0 <ℤ s →
    (vg *ℤ neg_ℤ (m *ℤ vh +ℤ s *ℤ gh)) ≤ℤ (vh *ℤ neg_ℤ (m *ℤ vg +ℤ s *ℤ gg)) → (neg_ℤ gh *ℤ vg +ℤ vh *ℤ gg) ≤ℤ pos 0
entry_low vg gg vh gh m s l h =
    by_lt_z (pos 0) (neg_ℤ gh *ℤ vg +ℤ vh *ℤ gg)
    (λ u. absurd (let q = pos_mul l u in omega (
      arith,
      linear,
      q,
      h,
      solve 6 (λ vg gg vh gh m s. vh ⊗ neg (m ⊗ vg ⊕ s ⊗ gg) ⊖ vg ⊗ neg (m ⊗ vh ⊕ s ⊗ gh) ≈ neg
          (s ⊗ (neg gh ⊗ vg ⊕ vh ⊗ gg))) cancels vg gg vh gh m s,
    ))) (λ u. u)

entries : (p : Spot) (a : Axis) (m s : ℤ) (h : Plane) (es : List Plane) → pos 0 <ℤ s →
    After p (moved (scaled m p) a s) h es → none_positive es (entry_point h a p) ≡ true
entries p a m s h [] l f = refl
entries p a m s h (g ∷ gs) l f =
    let x = value_ray h a p m s in let y = value_ray g a p m s in
    let k : (value_at g p *ℤ neg_ℤ (m *ℤ value_at h p +ℤ s *ℤ along h a)) ≤ℤ
    (value_at h p *ℤ neg_ℤ (m *ℤ value_at g p +ℤ s *ℤ along g a)) =
    subst (λ (v : ℤ). (value_at g p *ℤ neg_ℤ v) ≤ℤ (value_at h p *ℤ neg_ℤ (m *ℤ value_at g p +ℤ s *ℤ along g a))) x
    (subst (λ (v : ℤ). (value_at g p *ℤ neg_ℤ (value_at h (moved (scaled m p) a s))) ≤ℤ (value_at h p *ℤ neg_ℤ v)) y
    f.0) in
    let z = entry_low (value_at g p) (along g a) (value_at h p) (along h a) m s l k in
    let w = not_positive_in (value_at g (entry_point h a p)) (let v = value_ray g a p (neg_ℤ (along h a)) (value_at h p) in omega (arith, linear, v, z)) in
    let r = entries p a m s h gs l f.1 in λ i. w i && r i

goes_down : (v w s g : ℤ) → v ≤ℤ pos 0 → v ≡ w +ℤ s *ℤ g → pos 0 <ℤ w → pos 0 ≤ℤ s → (pos 0 <ℤ s) × (g <ℤ pos 0)
goes_down v w s g d e u l =
    by_sign s (λ p. by_sign g (λ q. absurd (let r = pos_mul p q in omega (arith, linear, r)))
    (λ z. absurd (let r = ap (λ (x : ℤ). s *ℤ x) z ∙ *ℤ-zero s in omega (arith, linear, r))) (λ q. (p, q)))
    (λ z. absurd (let r = ap (λ (x : ℤ). x *ℤ g) z ∙ zero-*ℤ g in omega (arith, linear, r)))
    (λ p. absurd (omega (arith, linear)))

enters_from : (es : List Plane) (a : Axis) (p : Spot) (m s : ℤ) → pos 0 <ℤ m → pos 0 ≤ℤ s → none_positive es p ≡ false →
    none_positive es (moved (scaled m p) a s) ≡ true → enters es a p ≡ true
enters_from es a p m s lm ls off on =
    let r = last_zero p (moved (scaled m p) a s) es off on in
    let d = none_positive_member (moved (scaled m p) a s) es r.plane on r.member in
    let v = value_ray r.plane a p m s in let u = pos_mul lm r.up in
    let z = goes_down (value_at r.plane (moved (scaled m p) a s)) (m *ℤ value_at r.plane p) s (along r.plane a) d v u ls in let ls' = z.0 in let dn = z.1 in
    any_from _ r.plane es r.member (λ i. (negative_in dn) i && ((positive_in r.up) i && (entries p a m s r.plane es ls' r.after) i))

-- and such an entry is a point of the boundary
enters_not : (f : Face) (a : Axis) (p : Spot) → pos 0 <ℤ p.w → along f.support a ≡ pos 0 →
    value_at f.support p ≡ pos 0 → IsClear f p → enters f.edges a p ≡ true → ⊥
enters_not f a p w zn zs c e =
    let n = f.support in let es = f.edges in
    let r = any_out (λ h. is_negative (along h a) && (is_positive (value_at h p) && none_positive es (entry_point h a p))) es e in
    let h = r.item in
    let x = and_parts (is_negative (along h a)) (is_positive (value_at h p) && none_positive es (entry_point h a p)) r.passes in
    let y = and_parts (is_positive (value_at h p)) (none_positive es (entry_point h a p)) x.1 in
    let g = negative_out (along h a) x.0 in let v = positive_out (value_at h p) y.0 in
    let m : pos 0 <ℤ neg_ℤ (along h a) = omega (arith, linear, g) in
    let flat : value_at n (entry_point h a p) ≡ pos 0 =
    value_ray n a p (neg_ℤ (along h a)) (value_at h p) ∙ (λ i. neg_ℤ (along h a) *ℤ zs i +ℤ value_at h p *ℤ zn i)
    ∙ solve 2 (λ g v. neg g ⊗ num (pos 0) ⊕ v ⊗ num (pos 0) ≈ num (pos 0)) cancels (along h a) (value_at h p) in
    let closed = closed_on f (entry_point h a p) (ray_weight a p (neg_ℤ (along h a)) (value_at h p) m w) flat ∙ y.1 in
    let inside = c.rays a (neg_ℤ (along h a)) (value_at h p) m (omega (arith, linear, v)) closed in
    let neg_h = all_negative_member (entry_point h a p) es h (inside_parts f (entry_point h a p) inside).2 r.member in
    let zero : value_at h (entry_point h a p) ≡ pos 0 =
    value_ray h a p (neg_ℤ (along h a)) (value_at h p)
    ∙ solve 2 (λ g v. neg g ⊗ v ⊕ v ⊗ g ≈ num (pos 0)) cancels (along h a) (value_at h p) in
    omega (arith, linear, neg_h, zero)

-- ---- one ray
-- the point of the ray is the hit, up to the weight
pub hit_is_one_point : (n : Plane) (a : Axis) (p : Spot) (m s : ℤ) → m *ℤ value_at n p +ℤ s *ℤ along n a ≡ pos 0 →
    Scales m (hit n a p) (scaled (size (along n a)) (moved (scaled m p) a s))
hit_is_one_point n a p m s z g =
    let k = size (along n a) in let r = moved (scaled m p) a s in let sg = sign (along n a) in let na = along n a in
    let vg = value_at g p in let ga = along g a in let vn = value_at n p in
    let e = value_scaled k g r ∙ (let x = size-is na in let y = value_ray g a p m s in λ i. x i *ℤ y i) in
    let f = value_hit g n a p ∙ ap (λ (j : ℤ). j *ℤ vg -ℤ sg *ℤ vn *ℤ ga) (size-is na) in
    let o = zero_scaled (sg *ℤ ga) (m *ℤ vn +ℤ s *ℤ na) z in
    let q = solve 7 (λ sg na m vg s ga vn. sg ⊗ na ⊗ (m ⊗ vg ⊕ s ⊗ ga) ≈ m ⊗ (sg ⊗ na ⊗ vg ⊖ sg ⊗ vn ⊗ ga) ⊕ sg ⊗ ga ⊗
    (m ⊗ vn ⊕ s ⊗ na)) cancels sg na m vg s ga vn in
    let g' = ap (λ (v : ℤ). m *ℤ v) f in
    e ∙ omega (arith, linear, g', o, q)

-- a factor of 0 beside one other than 0 is 0
pub nonzero_product : (v na : ℤ) → na ≢ pos 0 → v *ℤ na ≡ pos 0 → v ≡ pos 0
nonzero_product v na n e = ⊎_elim (λ x. x) (λ x. absurd (n x)) (zero_product e)

-- a point of the ray in the plane lies behind no plane
ahead : (m v s na : ℤ) → pos 0 <ℤ m → pos 0 ≤ℤ s → m *ℤ v +ℤ s *ℤ na ≡ pos 0 → pos 0 <ℤ (v *ℤ na) → ⊥
ahead m v s na lm ls z p =
    let x = pos_mul lm p in let y = nonneg_mul ls (square_nonneg na) in let w = ap (λ (x : ℤ). x *ℤ na) z ∙ zero-*ℤ na in
    omega (arith, linear, x, y, w, solve 4 (λ m v s na. (m ⊗ v ⊕ s ⊗ na) ⊗ na ≈ m ⊗ (v ⊗ na) ⊕ s ⊗ (na ⊗ na)) cancels m v s na)

ray_from : (f : Face) (a : Axis) (p : Spot) → pos 0 <ℤ p.w → is_in_closed f p ≡ false → is_ray_clear f a p ≡ true →
    (m s : ℤ) → pos 0 <ℤ m → pos 0 ≤ℤ s → is_in_closed f (moved (scaled m p) a s) ≡ true →
    is_inside f (moved (scaled m p) a s) ≡ true
ray_from f a p w out t m s lm ls c = by (is_zero (along f.support a)) refl t
  where
    parts : (value_at f.support (moved (scaled m p) a s) ≡ pos 0) × (none_positive f.edges (moved (scaled m p) a s) ≡ true)
    parts = let q = closed_parts f (moved (scaled m p) a s) c in (q.1, q.2)

    z : m *ℤ value_at f.support p +ℤ s *ℤ along f.support a ≡ pos 0
    z = sym (value_ray f.support a p m s) ∙ parts.0

    off : value_at f.support p ≡ pos 0 → none_positive f.edges p ≡ false
    off e = sym (closed_on f p (positive_in w) e) ∙ out

    flat : is_zero (along f.support a) ≡ true → cond (is_zero (value_at f.support p)) (not (enters f.edges a p)) true ≡ true → ⊥
    flat e t =
        let n = f.support in let es = f.edges in
        let zn = zero_out (along n a) e in
        let zs : value_at n p ≡ pos 0 = nonzero_product (value_at n p) m (λ q. omega (arith, linear, lm, q)) (let v =
        zero_scaled s (along n a) zn in *ℤ_comm (value_at n p) m ∙ omega (arith, linear, v, z)) in
        let t' : not (enters es a p) ≡ true = sym (ap (λ (s : ℤ). cond (is_zero s) (not (enters es a p)) true) zs) ∙ t in
        let y = enters_from es a p m s lm ls (off zs) parts.1 in
        clash t' (ap not y)

    same_most : along f.support a ≢ pos 0 → none_positive f.edges (hit f.support a p) ≡ none_positive f.edges (moved (scaled m p) a s)
    same_most nz =
        let n = f.support in let es = f.edges in let k = size (along n a) in let r = moved (scaled m p) a s in
        sym (same_none_positive m (hit n a p) (scaled k r) es lm (hit_is_one_point n a p m s z))
        ∙ same_none_positive k r (scaled k r) es (size_positive (along n a) nz) (scaled_point_scales k r)

    same_low : along f.support a ≢ pos 0 → all_negative f.edges (moved (scaled m p) a s) ≡ all_negative f.edges (hit f.support a p)
    same_low nz =
        let n = f.support in let es = f.edges in let k = size (along n a) in let r = moved (scaled m p) a s in
        sym (same_all_negative k r (scaled k r) es (size_positive (along n a) nz) (scaled_point_scales k r))
        ∙ same_all_negative m (hit n a p) (scaled k r) es lm (hit_is_one_point n a p m s z)

    at_p : along f.support a ≢ pos 0 → value_at f.support p *ℤ along f.support a ≡ pos 0 → ⊥
    at_p nz q =
        let n = f.support in
        let zs : value_at n p ≡ pos 0 = nonzero_product (value_at n p) (along n a) nz q in
        let zm = zero_scaled m (value_at n p) zs in let zz = z in
        let s0 : s ≡ pos 0 = nonzero_product s (along n a) nz (omega (arith, linear, zm, zz)) in
        let sc : Scales m p (moved (scaled m p) a s) = λ g. value_ray g a p m s ∙ (let v = zero_times s (along g a) s0 in omega (arith, linear, v)) in
        clash (sym (closed_scaled m p (moved (scaled m p) a s) f lm sc) ∙ c) out

    across : is_zero (along f.support a) ≡ false →
        cond (is_negative (value_at f.support p *ℤ along f.support a) && none_positive f.edges (hit f.support a p))
        (all_negative f.edges (hit f.support a p)) true ≡ true → is_inside f (moved (scaled m p) a s) ≡ true
    across e t =
        let n = f.support in let es = f.edges in
        let nz = nonzero_out (along n a) e in
        by_sign (value_at n p *ℤ along n a)
        (λ p'. absurd (ahead m (value_at n p) s (along n a) lm ls z p'))
        (λ q. absurd (at_p nz q))
        (λ l. let x = negative_in l in let y = same_most nz ∙ parts.1 in
        let low : all_negative es (hit n a p) ≡ true = sym (λ i. cond (x i && y i) (all_negative es (hit n a p)) true) ∙ t in
        inside_on f (moved (scaled m p) a s) (ray_weight a p m s lm w) parts.0 ∙ same_low nz ∙ low)

    by : (b : Bool) → is_zero (along f.support a) ≡ b →
        cond b (cond (is_zero (value_at f.support p)) (not (enters f.edges a p)) true)
        (cond (is_negative (value_at f.support p *ℤ along f.support a) && none_positive f.edges (hit f.support a p))
        (all_negative f.edges (hit f.support a p)) true) ≡ true → is_inside f (moved (scaled m p) a s) ≡ true
    by true e t = absurd (flat e t)
    by false e t = across e t

hit_ahead : (v na : ℤ) → (v *ℤ na) <ℤ pos 0 → pos 0 ≤ℤ neg_ℤ (sign na *ℤ v)
hit_ahead v na l =
    by_sign na
    (λ p. by_sign v (λ q. absurd (let r = pos_mul q p in omega (arith, linear, l, r)))
    (λ z. rw (sign_pos p) (let e = one-*ℤ v in omega (arith, linear, e, z)))
    (λ q. rw (sign_pos p) (let e = one-*ℤ v in omega (arith, linear, e, q))))
    (λ z. absurd (let r = zero_scaled v na z in omega (arith, linear, l, r)))
    (λ p. by_sign v (λ q. rw (sign_neg p) (let e = solve 1 (λ v. num (negsuc 0) ⊗ v ≈ neg v) cancels v in
    omega (arith, linear, e, q))) (λ z. rw (sign_neg p) (let e =
    solve 1 (λ v. num (negsuc 0) ⊗ v ≈ neg v) cancels v in omega (arith, linear, e, z)))
    (λ q. absurd (let r = mul_neg_neg q p in omega (arith, linear, l, r))))

ray_to : (f : Face) (a : Axis) (p : Spot) → pos 0 <ℤ p.w → IsClear f p → is_ray_clear f a p ≡ true
ray_to f a p w c = by (is_zero (along f.support a)) (is_zero (value_at f.support p)) refl refl
  where
    none : along f.support a ≡ pos 0 → value_at f.support p ≡ pos 0 → (b : Bool) → enters f.edges a p ≡ b → not b ≡ true
    none zn zs true e = absurd (enters_not f a p w zn zs c e)
    none zn zs false e = refl

    across : along f.support a ≢ pos 0 → (b : Bool) →
        is_negative (value_at f.support p *ℤ along f.support a) && none_positive f.edges (hit f.support a p) ≡ b →
        cond b (all_negative f.edges (hit f.support a p)) true ≡ true
    across nz true e =
        let n = f.support in let es = f.edges in
        let x = and_parts (is_negative (value_at n p *ℤ along n a)) (none_positive es (hit n a p)) e in
        sym (hit_inside f a p nz w) ∙ c.rays a (size (along n a)) (neg_ℤ (sign (along n a) *ℤ value_at n p))
        (size_positive (along n a) nz) (hit_ahead (value_at n p) (along n a)
        (negative_out (value_at n p *ℤ along n a) x.0)) (hit_closed f a p nz w ∙ x.1)
    across nz false e = refl

    by : (b d : Bool) → is_zero (along f.support a) ≡ b → is_zero (value_at f.support p) ≡ d →
        cond b (cond d (not (enters f.edges a p)) true)
        (cond (is_negative (value_at f.support p *ℤ along f.support a) && none_positive f.edges (hit f.support a p))
        (all_negative f.edges (hit f.support a p)) true) ≡ true
    by true true e q = none (zero_out (along f.support a) e) (zero_out (value_at f.support p) q) (enters f.edges a p) refl
    by true false e q = refl
    by false d e q =
        across (nonzero_out (along f.support a) e) (is_negative (value_at f.support p *ℤ along f.support a) && none_positive f.edges (hit f.support a p)) refl

-- ---- the test
-- a point that passes the test is clear of the face
pub clear_from : (f : Face) (p : Spot) → pos 0 <ℤ p.w → is_clear f p ≡ true → IsClear f p
clear_from f p w t =
    let x = and_parts (not (is_in_closed f p)) (is_ray_clear f X p && (is_ray_clear f Y p && is_ray_clear f Z p)) t in
    let y = and_parts (is_ray_clear f X p) (is_ray_clear f Y p && is_ray_clear f Z p) x.1 in
    let z = and_parts (is_ray_clear f Y p) (is_ray_clear f Z p) y.1 in
    let o = not_true (is_in_closed f p) x.0 in
    record { outside = o; rays = λ a. ray_from f a p w o (each y.0 z.0 z.1 a) }
  where
    each : is_ray_clear f X p ≡ true → is_ray_clear f Y p ≡ true → is_ray_clear f Z p ≡ true → (a : Axis) → is_ray_clear f a p ≡ true
    each x y z X = x
    each x y z Y = y
    each x y z Z = z

-- the test answers true of a point that is clear of a face
pub clear_to : (f : Face) (p : Spot) → pos 0 <ℤ p.w → IsClear f p → is_clear f p ≡ true
clear_to f p w c =
    let o = ap not c.outside in let x = ray_to f X p w c in let y = ray_to f Y p w c in let z = ray_to f Z p w c in λ i. o i && (x i && (y i && z i))

-- ---- triangles
-- a point that passes the test is clear of the triangle
pub clear_of_from : (t : Tri) (p : Spot) → pos 0 <ℤ p.w → is_clear_of t p ≡ true → IsClearOf t p
clear_of_from t p w e q = clear_from (face_of t) p w (sym (ap (λ (b : Bool). b || is_clear (face_of t) p) q) ∙ e)

-- the test answers true of a point that is clear of a triangle
pub clear_of_to : (t : Tri) (p : Spot) → pos 0 <ℤ p.w → IsClearOf t p → is_clear_of t p ≡ true
clear_of_to t p w c = by (is_flat t) refl
  where
    by : (b : Bool) → is_flat t ≡ b → b || is_clear (face_of t) p ≡ true
    by true q = refl
    by false q = clear_to (face_of t) p w (c q)
