-- A triangle between two points, joined by a segment that misses its closed face, has the same crossing for both.
use Rattle.std.proofs.Common.{◌≡◌, ◌≢◌, ◌⊎◌, ⊎_elim, inl, inr, sym, ap, subst, ◌∙◌, arith, Bool, true}
use Rattle.std.proofs.Common.{false, not, T, ◌&&◌, List, [], ◌∷◌, ℤ, pos, ◌+ℤ◌, ◌-ℤ◌, ◌*ℤ◌, neg_ℤ}
use Rattle.std.proofs.Common.{◌<ℤ◌, ◌≤ℤ◌}
use Rattle.std.proofs.lemmas.Int.{by_lt_z}
use borrow.Author.Differences.{ints}
use Rattle.ember_algebra.specs.Vector.{Vector, dot, cross, det, normal}
use Rattle.ember_algebra.specs.declared.Sign.{Sign}
use Rattle.ember_algebra.specs.declared.Sign.TheVariants.{Neg, Pos}
use Rattle.ember_algebra.specs.Sign.{sign, sgn, flip, is_pos, is_neg, is_negative}
use Rattle.ember_algebra.specs.Large.{Eventually}
use Rattle.ember_algebra.proofs.Laws.{linear, from_three}
use Rattle.ember_algebra.proofs.Order.{by_sign, pos_mul, nonneg_mul, mul_pos_neg, mul_neg_pos}
use Rattle.ember_algebra.proofs.Large.{eventually_both, eventually_map}
use Rattle.ember_algebra.proofs.Ring.{◌⊕◌, ◌⊖◌, ◌⊗◌, ◌≈◌, num, neg, solve, cancels}
use Rattle.ember_algebra.proofs.Vectors.{vector, tuple, identity, dotE, crossE, detE, vector_partE, valueE}
use Rattle.ember_algebra.proofs.Signs.{◌and◌, ◌⇒◌, use_if, signs, same_z, same_z_out, sum3, sum3_from, sgn_pos, sgn_neg, sgn-neg, pos_from_sgn, neg_from_sgn}
use Rattle.ember_algebra.proofs.Quadrant.{crossing}
use Rattle.ember_algebra.proofs.QuadrantLaw.{Generic, both_out}
use Rattle.ember_algebra.proofs.Identities.{dot_zero}
use Rattle.ember_model.specs.declared.point.Corner.{Corner}
use Rattle.ember_model.specs.declared.tri.Tri.{Tri}
use Rattle.ember_model.specs.declared.plane.Plane.{Plane}
use Rattle.ember_model.specs.declared.point.Spot.{Spot}
use Rattle.ember_model.specs.declared.point.Axis.{Axis}
use Rattle.ember_model.specs.Planes.{vector_of, unit, value_at, along, main_axis, times_plane, support_of, edge_through, HasNoNormal}
use Rattle.ember_model.specs.Points.{offset_by, displacement}
use Rattle.ember_model.specs.Faces.{size, between, is_in_closed, face_of}
use Rattle.ember_model.proofs.SignTests.{sgn_scaled, zero_scaled, not_positive_in, size_positive, positive_nonzero, negative_nonzero, negative_in}
use Rattle.ember_model.proofs.PlaneValues.{value_times, size-is, seen, seenE, tuple_of, cross_product, along_dot, support_value, normal_value}
use Rattle.ember_model.proofs.SeenCrossings.{seen_crossing, first_edge, second_edge, third_edge, sum_of}
use Rattle.ember_model.proofs.Legs.{value_between, between_weight, size_is_pos, size_is_neg}
use Rattle.ember_model.proofs.Hits.{closed_on}
use Rattle.ember_model.proofs.Displacements.{displacementE}
use Rattle.ember_law.proofs.Directions.{IsGeneric, AreGeneric}
use Rattle.ember_law.proofs.Shifted.{off_shifted, eventually_true}
use Rattle.ember_law.proofs.FlatTriangles.{IsFlat}
use Rattle.ember_law.proofs.Generic.{cancel_zero}
use Rattle.ember_law.proofs.Separation.{Separates}

-- ---- the direction from p to q

value_toward : (g : Plane) (p q : Spot) → p.w *ℤ value_at g q ≡ q.w *ℤ value_at g p +ℤ dot (cross_product g) (displacement p q)
value_toward g p q =
    identity (tuple ∷ tuple ∷ tuple ∷ []) (λ g p q. p.w ⊗ valueE g q ≈ q.w ⊗ valueE g p ⊕ dotE (vector_partE g)
    (displacementE p q)) cancels (record { x = g.a; y = g.b; z = g.c; w = g.d }) (tuple_of p) (tuple_of q)

-- seen from q along that direction as from p
seen_toward : (u v : Corner) (p q : Spot) → p.w *ℤ p.w *ℤ dot (displacement p q) (cross (seen q u) (seen q v)) ≡ q.w *ℤ q.w *ℤ
    dot (displacement p q) (cross (seen p u) (seen p v))
seen_toward u v p q =
    identity (vector ∷ vector ∷ tuple ∷ tuple ∷ [])
    (λ u v p q. p.w ⊗ p.w ⊗ dotE (displacementE p q) (crossE (seenE q u) (seenE q v)) ≈ q.w ⊗ q.w ⊗ dotE (displacementE p q)
    (crossE (seenE p u) (seenE p v))) cancels (vector_of u) (vector_of v) (tuple_of p) (tuple_of q)

-- the plane through p with the normal c
abbrev pub sight : Vector → Spot → Plane
sight c p = record { a = p.w *ℤ c.x; b = p.w *ℤ c.y; c = p.w *ℤ c.z; d = c.x *ℤ p.x +ℤ c.y *ℤ p.y +ℤ c.z *ℤ p.z }

-- its value at q
pub sight_value : (c : Vector) (p q : Spot) → value_at (sight c p) q ≡ dot (displacement p q) c
sight_value c p q =
    identity (vector ∷ tuple ∷ tuple ∷ []) (λ c p q. (p.w ⊗ c.x) ⊗ q.x ⊕ (p.w ⊗ c.y) ⊗ q.y ⊕ (p.w ⊗ c.z) ⊗ q.z ⊖
    (c.x ⊗ p.x ⊕ c.y ⊗ p.y ⊕ c.z ⊗ p.z) ⊗ q.w ≈ dotE (displacementE p q) c) cancels c (tuple_of p) (tuple_of q)

-- ---- strict
pub record IsStrict (f : Vector) (p : Spot) (t : Tri) : Type 0 where
  pub off : det (seen p t.a) (seen p t.b) (seen p t.c) ≢ pos 0
  pub first : dot f (cross (seen p t.a) (seen p t.b)) ≢ pos 0
  pub second : dot f (cross (seen p t.b) (seen p t.c)) ≢ pos 0
  pub third : dot f (cross (seen p t.c) (seen p t.a)) ≢ pos 0

vacuous : (u v f : Vector) → dot f (cross u v) ≢ pos 0 → Generic u v f
vacuous u v f n = record { x = λ z. absurd (n z); y = λ z. absurd (n z); z = λ z. absurd (n z) }

strict_generic : (f : Vector) (p : Spot) (t : Tri) → IsStrict f p t → IsGeneric f p t
strict_generic f p t s =
    record { off = s.off; edges = record { first = vacuous _ _ f s.first; second = vacuous _ _ f s.second; third = vacuous _ _ f s.third } }

abbrev pub AreStrict : Vector → Spot → List Tri → Type 0
AreStrict f p [] = Unit {0}
AreStrict f p (t ∷ ts) = (IsFlat t ⊎ IsStrict f p t) × AreStrict f p ts

-- a direction that leaves the plane of sight
sight_off : (c w : Vector) (p q : Spot) (d : ℤ) → pos 0 <ℤ p.w →
    (value_at (sight c p) q ≡ pos 0 → HasNoNormal (sight c p)) → d ≡ dot w c → d ≢ pos 0 → dot (displacement p q) c ≢ pos 0
sight_off c w p q d l h e nd z =
    let n = h (sight_value c p q ∙ z) in
    nd (e ∙ dot_zero w c (cancel_zero p.w c.x l n.0) (cancel_zero p.w c.y l n.1) (cancel_zero p.w c.z l n.2))

strict_shifted : (g : Vector) (p q : Spot) (t : Tri) → pos 0 <ℤ p.w → IsGeneric g p t → Eventually (λ n. IsStrict (displacement p (offset_by q (pos n))) p t)
strict_shifted g p q t l s =
    let u = seen p t.a in let v = seen p t.b in let w = seen p t.c in
    let r = vector ∷ vector ∷ vector ∷ [] in
    eventually_map (λ n h. record {
      off = s.off;
      first = sight_off (cross u v) w p (offset_by q (pos n)) (det u v w) l h.0 (identity r (λ u v w. detE u v w ≈ dotE w (crossE u v)) cancels u v w) s.off;
      second = sight_off (cross v w) u p (offset_by q (pos n)) (det u v w) l h.1.0 (identity r (λ u v w. detE u v w ≈ dotE u (crossE v w)) cancels u v w) s.off;
      third = sight_off (cross w u) v p (offset_by q (pos n)) (det u v w) l h.1.1 (identity r (λ u v w. detE u v w ≈ dotE v (crossE w u)) cancels u v w) s.off;
    }) (eventually_both (off_shifted q (sight (cross u v) p)) (eventually_both (off_shifted q (sight (cross v w) p)) (off_shifted q (sight (cross w u) p))))

-- directions to points near q are strict
pub are_strict_shifted : (g : Vector) (p q : Spot) (ts : List Tri) → pos 0 <ℤ p.w → AreGeneric g p ts →
    Eventually (λ n. AreStrict (displacement p (offset_by q (pos n))) p ts)
are_strict_shifted g p q [] l s = eventually_true (λ n. tt)
are_strict_shifted g p q (t ∷ ts) l s = eventually_both (by s.0) (are_strict_shifted g p q ts l s.1)
  where
    by : IsFlat t ⊎ IsGeneric g p t → Eventually (λ n. IsFlat t ⊎ IsStrict (displacement p (offset_by q (pos n))) p t)
    by (inl f) = eventually_true (λ n. inl f)
    by (inr r) = eventually_map (λ n h. inr h) (strict_shifted g p q t l r)

-- strict directions are generic
pub are_generic : (f : Vector) (p : Spot) (ts : List Tri) → AreStrict f p ts → AreGeneric f p ts
are_generic f p [] s = tt
are_generic f p (t ∷ ts) s = (⊎_elim (λ x. inl x) (λ r. inr (strict_generic f p t r)) s.0, are_generic f p ts s.1)

-- from p to q
carried : (u v : Corner) (p q : Spot) → pos 0 <ℤ p.w → pos 0 <ℤ q.w →
    dot (displacement p q) (cross (seen p u) (seen p v)) ≢ pos 0 → dot (displacement p q) (cross (seen q u) (seen q v)) ≢ pos 0
carried u v p q lp lq n z =
    n (cancel_zero (q.w *ℤ q.w) (dot (displacement p q) (cross (seen p u) (seen p v))) (pos_mul lq lq)
    (sym (seen_toward u v p q) ∙ zero_scaled (p.w *ℤ p.w) (dot (displacement p q) (cross (seen q u) (seen q v))) z))

strict_there : (g : Vector) (p q : Spot) (t : Tri) → pos 0 <ℤ p.w → pos 0 <ℤ q.w → IsStrict (displacement p q) p t → IsGeneric g q t → IsStrict (displacement p q) q t
strict_there g p q t lp lq s r =
    record { off = r.off; first = carried t.a t.b p q lp lq s.first; second = carried t.b t.c p q lp lq s.second; third = carried t.c t.a p q lp lq s.third }

-- a direction that is strict at p is so at q
pub are_strict_there : (g : Vector) (p q : Spot) (ts : List Tri) → pos 0 <ℤ p.w → pos 0 <ℤ q.w →
    AreStrict (displacement p q) p ts → AreGeneric g q ts → AreStrict (displacement p q) q ts
are_strict_there g p q [] lp lq s r = tt
are_strict_there g p q (t ∷ ts) lp lq s r = (by s.0 r.0, are_strict_there g p q ts lp lq s.1 r.1)
  where
    by : IsFlat t ⊎ IsStrict (displacement p q) p t → IsFlat t ⊎ IsGeneric g q t → IsFlat t ⊎ IsStrict (displacement p q) q t
    by (inl f) y = inl f
    by (inr x) (inl f) = inl f
    by (inr x) (inr y) = inr (strict_there g p q t lp lq x y)

-- ---- one triangle from p to q
no_sign : (d a b c : Sign) → T (sum3 a b c Pos) → T (not (is_pos a and is_pos b and is_pos c)) → crossing d Pos a b c ≡ pos 0
no_sign d a b c s t =
    same_z_out _ _ (use_if (not (is_pos a and is_pos b and is_pos c)) _
    (use_if (sum3 a b c Pos) _ (signs 4 (λ d a b c. sum3 a b c Pos ⇒ not (is_pos a and is_pos b and is_pos c) ⇒ same_z
    (crossing d Pos a b c) (pos 0)) tt d a b c) s) t)

no_sign' : (d a b c : Sign) → T (sum3 a b c Neg) → T (not (is_neg a and is_neg b and is_neg c)) → crossing d Neg a b c ≡ pos 0
no_sign' d a b c s t =
    same_z_out _ _ (use_if (not (is_neg a and is_neg b and is_neg c)) _
    (use_if (sum3 a b c Neg) _ (signs 4 (λ d a b c. sum3 a b c Neg ⇒ not (is_neg a and is_neg b and is_neg c) ⇒ same_z
    (crossing d Neg a b c) (pos 0)) tt d a b c) s) t)

-- the crossing of p, and that of q with the edges seen from p
front_form : (f : Vector) (p : Spot) (t : Tri) → pos 0 <ℤ p.w →
    seen_crossing f p t ≡ crossing (flip (sgn (value_at (support_of t) p))) (sgn (dot (cross_product (support_of t)) f))
    (sgn (dot f (cross (seen p t.a) (seen p t.b)))) (sgn (dot f (cross (seen p t.b) (seen p t.c))))
    (sgn (dot f (cross (seen p t.c) (seen p t.a))))
front_form f p t w =
    let n = support_of t in let u = seen p t.a in let v = seen p t.b in let y = seen p t.c in let ww = pos_mul w w in
    let en : sgn (dot f (normal u v y)) ≡ sgn (dot (cross_product n) f) = ap sgn (normal_value t f p) ∙ sgn_scaled (dot (cross_product n) f) ww in
    let ed : sgn (det u v y) ≡ flip (sgn (value_at n p)) =
    ap sgn (support_value t p) ∙ sgn-neg (p.w *ℤ p.w *ℤ value_at n p) ∙ ap flip (sgn_scaled (value_at n p) ww) in
    λ i. crossing (ed i) (en i) (sgn (dot f (cross u v))) (sgn (dot f (cross v y))) (sgn (dot f (cross y u)))

same_seen : (u v : Corner) (p q : Spot) → pos 0 <ℤ p.w → pos 0 <ℤ q.w →
    sgn (dot (displacement p q) (cross (seen q u) (seen q v))) ≡ sgn (dot (displacement p q) (cross (seen p u) (seen p v)))
same_seen u v p q lp lq =
    sym (sgn_scaled (dot (displacement p q) (cross (seen q u) (seen q v))) (pos_mul lp lp)) ∙ ap sgn (seen_toward u v p q)
    ∙ sgn_scaled (dot (displacement p q) (cross (seen p u) (seen p v))) (pos_mul lq lq)

back_form : (p q : Spot) (t : Tri) → pos 0 <ℤ p.w → pos 0 <ℤ q.w →
    seen_crossing (displacement p q) q t ≡ crossing (flip (sgn (value_at (support_of t) q)))
    (sgn (dot (cross_product (support_of t)) (displacement p q))) (sgn (dot (displacement p q) (cross (seen p t.a) (seen p t.b))))
    (sgn (dot (displacement p q) (cross (seen p t.b) (seen p t.c)))) (sgn (dot (displacement p q) (cross (seen p t.c) (seen p t.a))))
back_form p q t lp lq =
    let a = same_seen t.a t.b p q lp lq in let b = same_seen t.b t.c p q lp lq in let c = same_seen t.c t.a p q lp lq in
    front_form (displacement p q) q t lq ∙ (λ i. crossing (flip (sgn (value_at (support_of t) q)))
    (sgn (dot (cross_product (support_of t)) (displacement p q))) (a i) (b i) (c i))

-- the value of an edge plane at the point between, where the signs of the support plane differ
-- s, s': the support plane at p and q; e: the edge plane at p; ef, nf: along the direction
between_value : (w w' s s' e e' nf ef nk x : ℤ) → w *ℤ s' ≡ w' *ℤ s +ℤ nf → w *ℤ e' ≡ w' *ℤ e +ℤ ef →
    nf *ℤ (w *ℤ e) -ℤ s *ℤ (w *ℤ ef) ≡ neg_ℤ (nk *ℤ x) → w *ℤ w *ℤ (s' *ℤ e -ℤ s *ℤ e') ≡ neg_ℤ (nk *ℤ x)
between_value w w' s s' e e' nf ef nk x hs he h =
    from_three (w *ℤ e) (neg_ℤ (w *ℤ s)) (pos 1) hs he h
    (solve 10 (λ w w' s s' e e' nf ef nk x. w ⊗ w ⊗ (s' ⊗ e ⊖ s ⊗ e') ⊖ neg (nk ⊗ x) ≈ w ⊗ e ⊗
    (w ⊗ s' ⊖ (w' ⊗ s ⊕ nf)) ⊕ neg (w ⊗ s) ⊗ (w ⊗ e' ⊖ (w' ⊗ e ⊕ ef)) ⊕ num (pos 1) ⊗
    (nf ⊗ (w ⊗ e) ⊖ s ⊗ (w ⊗ ef) ⊖ neg (nk ⊗ x))) cancels w w' s s' e e' nf ef nk x)

low_from : (w nk gx x : ℤ) → pos 0 <ℤ w → w *ℤ w *ℤ gx ≡ neg_ℤ (nk *ℤ x) → pos 0 <ℤ x → (sign nk *ℤ gx) ≤ℤ pos 0
low_from w nk gx x lw h lx =
    by_lt_z (pos 0) (sign nk *ℤ gx)
    (λ u. absurd (let a = pos_mul (pos_mul lw lw) u in let k : pos 0 ≤ℤ size nk = omega (arith, ints) in
    let x0 : pos 0 ≤ℤ x = omega (arith, linear) in let b = nonneg_mul k x0 in
    let c = ap (λ (z : ℤ). sign nk *ℤ z) h in let d = ap (λ (z : ℤ). z *ℤ x) (size-is nk) in
    omega (
      arith,
      linear,
      a,
      b,
      c,
      d,
      solve 3 (λ w s g. w ⊗ w ⊗ (s ⊗ g) ≈ s ⊗ (w ⊗ w ⊗ g)) cancels w (sign nk) gx,
      solve 3 (λ s n x. s ⊗ neg (n ⊗ x) ≈ neg (s ⊗ n ⊗ x)) cancels (sign nk) nk x,
    )))
    (λ u. u)

-- the same if the signs are the other way round
edge_at : (n g : Plane) (p q : Spot) (k : Axis) (x y : ℤ) → pos 0 <ℤ p.w →
    p.w *ℤ p.w *ℤ value_at g (between n p q) ≡ neg_ℤ (along n k *ℤ y) → pos 0 <ℤ y →
    value_at (times_plane (sign (along n k)) g) (between n p q) ≤ℤ pos 0
edge_at n g p q k x y w h l =
    let e = value_times (sign (along n k)) g (between n p q) in let r =
    low_from p.w (along n k) (value_at g (between n p q)) y w h l in omega (arith, linear, e, r)

edge_low : (n g : Plane) (p q : Spot) (k : Axis) (x : ℤ) → pos 0 <ℤ p.w →
    dot (cross_product n) (displacement p q) *ℤ (p.w *ℤ value_at g p) -ℤ value_at n p *ℤ
    (p.w *ℤ dot (cross_product g) (displacement p q)) ≡ neg_ℤ (dot (cross_product n) (unit k) *ℤ x) →
    (pos 0 <ℤ x) × (value_at n p <ℤ pos 0) × (pos 0 <ℤ value_at n q) ⊎ (x <ℤ pos 0) × (pos 0 <ℤ value_at n p) ×
    (value_at n q <ℤ pos 0) → value_at (times_plane (sign (along n k)) g) (between n p q) ≤ℤ pos 0
edge_low n g p q k x w h c = by c
  where
    core : p.w *ℤ p.w *ℤ (value_at n q *ℤ value_at g p -ℤ value_at n p *ℤ value_at g q) ≡ neg_ℤ (along n k *ℤ x)
    core =
        between_value p.w q.w (value_at n p) (value_at n q) (value_at g p) (value_at g q)
        (dot (cross_product n) (displacement p q)) (dot (cross_product g) (displacement p q)) (along n k) x (value_toward n p q)
        (value_toward g p q) (h ∙ ap (λ (z : ℤ). neg_ℤ (z *ℤ x)) (sym (along_dot n k)))

    by : (pos 0 <ℤ x) × (value_at n p <ℤ pos 0) × (pos 0 <ℤ value_at n q) ⊎ (x <ℤ pos 0) × (pos 0 <ℤ value_at n p) ×
        (value_at n q <ℤ pos 0) → value_at (times_plane (sign (along n k)) g) (between n p q) ≤ℤ pos 0
    by (inl c) =
        let a = size_is_neg (value_at n p) c.1 in let b = size_is_pos (value_at n q) c.2 in
        let v : value_at g (between n p q) ≡ value_at n q *ℤ value_at g p -ℤ value_at n p *ℤ value_at g q =
        value_between g n p q ∙ (λ i. b i *ℤ value_at g p +ℤ a i *ℤ value_at g q)
        ∙ solve 4 (λ s e s' e'. s' ⊗ e ⊕ neg s ⊗ e' ≈ s' ⊗ e ⊖ s ⊗ e') cancels (value_at n p) (value_at g p)
        (value_at n q) (value_at g q) in
        edge_at n g p q k x x w (ap (λ (z : ℤ). p.w *ℤ p.w *ℤ z) v ∙ core) c.0
    by (inr c) =
        let a = size_is_pos (value_at n p) c.1 in let b = size_is_neg (value_at n q) c.2 in
        let v : value_at g (between n p q) ≡ neg_ℤ (value_at n q *ℤ value_at g p -ℤ value_at n p *ℤ value_at g q) =
        value_between g n p q ∙ (λ i. b i *ℤ value_at g p +ℤ a i *ℤ value_at g q)
        ∙ solve 4 (λ s e s' e'. neg s' ⊗ e ⊕ s ⊗ e' ≈ neg (s' ⊗ e ⊖ s ⊗ e')) cancels (value_at n p) (value_at g p)
        (value_at n q) (value_at g q) in
        let m : pos 0 <ℤ neg_ℤ x = let y = c.0 in omega (arith, linear, y) in
        edge_at n g p q k x (neg_ℤ x) w (ap (λ (z : ℤ). p.w *ℤ p.w *ℤ z) v
        ∙ solve 3 (λ w z x. w ⊗ w ⊗ neg z ≈ neg (w ⊗ w ⊗ z)) cancels p.w
        (value_at n q *ℤ value_at g p -ℤ value_at n p *ℤ value_at g q) x ∙ ap neg_ℤ core
        ∙ solve 2 (λ k x. neg (neg (k ⊗ x)) ≈ neg (k ⊗ neg x)) cancels (along n k) x) m

-- the three numbers of a triangle's edges along the direction from p to q
abbrev number_of : Spot → Spot → Corner → Corner → ℤ
number_of p q u v = dot (displacement p q) (cross (seen p u) (seen p v))

-- one strict sign along the way, and that of the way through the plane
abbrev Through : Spot → Spot → Tri → ℤ → Type 0
Through p q t x =
    (pos 0 <ℤ x) × (value_at (support_of t) p <ℤ pos 0) × (pos 0 <ℤ value_at (support_of t) q) ⊎ (x <ℤ pos 0) ×
    (pos 0 <ℤ value_at (support_of t) p) × (value_at (support_of t) q <ℤ pos 0)

between_flat : (n : Plane) (p q : Spot) → (value_at n p <ℤ pos 0) × (pos 0 <ℤ value_at n q) ⊎ (pos 0 <ℤ value_at n p) ×
    (value_at n q <ℤ pos 0) → value_at n (between n p q) ≡ pos 0
between_flat n p q (inl c) =
    let a = size_is_neg (value_at n p) c.0 in let b = size_is_pos (value_at n q) c.1 in
    value_between n n p q ∙ (λ i. b i *ℤ value_at n p +ℤ a i *ℤ value_at n q)
    ∙ solve 2 (λ s t. t ⊗ s ⊕ neg s ⊗ t ≈ num (pos 0)) cancels (value_at n p) (value_at n q)
between_flat n p q (inr c) =
    let a = size_is_pos (value_at n p) c.0 in let b = size_is_neg (value_at n q) c.1 in
    value_between n n p q ∙ (λ i. b i *ℤ value_at n p +ℤ a i *ℤ value_at n q)
    ∙ solve 2 (λ s t. neg t ⊗ s ⊕ s ⊗ t ≈ num (pos 0)) cancels (value_at n p) (value_at n q)

-- then the point between is in the closed face
opposite_sides : (s e : ℤ) → (s <ℤ pos 0) × (pos 0 <ℤ e) ⊎ (pos 0 <ℤ s) × (e <ℤ pos 0) → is_negative (s *ℤ e) ≡ true
opposite_sides s e (inl c) = negative_in (mul_neg_pos c.0 c.1)
opposite_sides s e (inr c) = negative_in (mul_pos_neg c.0 c.1)

between_closed : (p q : Spot) (t : Tri) → pos 0 <ℤ p.w → pos 0 <ℤ q.w →
    (value_at (support_of t) p <ℤ pos 0) × (pos 0 <ℤ value_at (support_of t) q) ⊎ (pos 0 <ℤ value_at (support_of t) p) ×
    (value_at (support_of t) q <ℤ pos 0) → Through p q t (number_of p q t.a t.b) → Through p q t (number_of p q t.b t.c) →
    Through p q t (number_of p q t.c t.a) → is_in_closed (face_of t) (between (support_of t) p q) ≡ true
unfolding face_of
between_closed p q t w wq c x y z =
    let n = support_of t in let k = main_axis n in let f = displacement p q in let b = between n p q in let s = sign (along n k) in
    let o = between_weight n p q w wq (opposite_sides (value_at n p) (value_at n q) c) in
    let l = not_positive_in (value_at (times_plane s (edge_through t.a t.b (unit k))) b)
    (edge_low n (edge_through t.a t.b (unit k)) p q k (number_of p q t.a t.b) w (first_edge t p f (unit k)) x) in
    let m = not_positive_in (value_at (times_plane s (edge_through t.b t.c (unit k))) b)
    (edge_low n (edge_through t.b t.c (unit k)) p q k (number_of p q t.b t.c) w (second_edge t p f (unit k)) y) in
    let r = not_positive_in (value_at (times_plane s (edge_through t.c t.a (unit k))) b)
    (edge_low n (edge_through t.c t.a (unit k)) p q k (number_of p q t.c t.a) w (third_edge t p f (unit k)) z) in
    closed_on (face_of t) b o (between_flat n p q c) ∙ (λ i. l i && (m i && (r i && true)))

-- a plane between the segment and the face
apart : (t : Tri) (p q : Spot) → Separates (face_of t) p q →
    (value_at (support_of t) p <ℤ pos 0) × (pos 0 <ℤ value_at (support_of t) q) ⊎ (pos 0 <ℤ value_at (support_of t) p) ×
    (value_at (support_of t) q <ℤ pos 0) → is_in_closed (face_of t) (between (support_of t) p q) ≡ true → ⊥
apart t p q s c k =
    let n = support_of t in
    let l = s.low (between n p q) k in let e = value_between s.plane n p q in
    let a : pos 0 <ℤ size (value_at n p) = ⊎_elim (λ c. size_positive (value_at n p) (negative_nonzero c.0))
    (λ c. size_positive (value_at n p) (positive_nonzero c.0)) c in
    let b : pos 0 <ℤ size (value_at n q) = ⊎_elim (λ c. size_positive (value_at n q) (positive_nonzero c.1))
    (λ c. size_positive (value_at n q) (negative_nonzero c.1)) c in
    let x = pos_mul a s.far in let y = pos_mul b s.near in omega (arith, linear, l, e, x, y)

split : (b : Bool) → T b ⊎ T (not b)
split true = inl tt
split false = inr tt

-- one triangle
pub tri_along : (p q : Spot) (t : Tri) → pos 0 <ℤ p.w → pos 0 <ℤ q.w → value_at (support_of t) p ≢ pos 0 →
    value_at (support_of t) q ≢ pos 0 → Separates (face_of t) p q →
    seen_crossing (displacement p q) p t ≡ seen_crossing (displacement p q) q t
tri_along p q t lp lq np nq s =
    by_sign sp
    (λ a. by_sign sq (λ b. same (sgn_pos a ∙ sym (sgn_pos b))) (λ z. absurd (nq z)) (λ b. down a b))
    (λ z. absurd (np z))
    (λ a. by_sign sq (λ b. up a b) (λ z. absurd (nq z)) (λ b. same (sgn_neg a ∙ sym (sgn_neg b))))
  where
    sp : ℤ
    sp = value_at (support_of t) p

    sq : ℤ
    sq = value_at (support_of t) q

    nf : ℤ
    nf = dot (cross_product (support_of t)) (displacement p q)

    na : Sign
    na = sgn (number_of p q t.a t.b)

    nb : Sign
    nb = sgn (number_of p q t.b t.c)

    nc : Sign
    nc = sgn (number_of p q t.c t.a)

    same : sgn (value_at (support_of t) p) ≡ sgn (value_at (support_of t) q) → seen_crossing (displacement p q) p t ≡ seen_crossing (displacement p q) q t
    same e =
        front_form (displacement p q) p t lp ∙ (λ i. crossing (flip (e i)) (sgn nf) na nb nc) ∙ sym (back_form p q t lp lq)

    sums : T (sum3 na nb nc (sgn nf))
    sums =
        subst (λ (z : Sign). T (sum3 na nb nc z))
        (ap sgn (normal_value t (displacement p q) p) ∙ sgn_scaled nf (pos_mul lp lp))
        (sum3_from (number_of p q t.a t.b) (number_of p q t.b t.c) (number_of p q t.c t.a)
        (dot (displacement p q) (normal (seen p t.a) (seen p t.b) (seen p t.c)))
        (sum_of (seen p t.a) (seen p t.b) (seen p t.c) (displacement p q)))

    up : value_at (support_of t) p <ℤ pos 0 → pos 0 <ℤ value_at (support_of t) q → seen_crossing (displacement p q) p t ≡ seen_crossing (displacement p q) q t
    up a b =
        let n1 = mul_pos_neg lq a in let n2 = pos_mul lp b in let v = value_toward (support_of t) p q in
        let e : sgn nf ≡ Pos = sgn_pos (omega (arith, linear, n1, n2, v)) in
        ⊎_elim
        (λ w. absurd (let x = both_out _ _ w in let y = both_out _ _ x.1 in
        apart t p q s (inl (a, b)) (between_closed p q t lp lq (inl (a, b))
        (inl (pos_from_sgn (number_of p q t.a t.b) x.0, a, b)) (inl (pos_from_sgn (number_of p q t.b t.c) y.0, a, b))
        (inl (pos_from_sgn (number_of p q t.c t.a) y.1, a, b)))))
        (λ w. front_form (displacement p q) p t lp ∙ (λ i. crossing (flip (sgn sp)) (e i) na nb nc)
        ∙ no_sign (flip (sgn sp)) na nb nc (subst (λ (z : Sign). T (sum3 na nb nc z)) e sums) w
        ∙ sym (no_sign (flip (sgn sq)) na nb nc (subst (λ (z : Sign). T (sum3 na nb nc z)) e sums) w)
        ∙ sym (λ i. crossing (flip (sgn sq)) (e i) na nb nc) ∙ sym (back_form p q t lp lq))
        (split (is_pos na and is_pos nb and is_pos nc))

    down : pos 0 <ℤ value_at (support_of t) p → value_at (support_of t) q <ℤ pos 0 → seen_crossing (displacement p q) p t ≡ seen_crossing (displacement p q) q t
    down a b =
        let n1 = pos_mul lq a in let n2 = mul_pos_neg lp b in let v = value_toward (support_of t) p q in
        let e : sgn nf ≡ Neg = sgn_neg (omega (arith, linear, n1, n2, v)) in
        ⊎_elim
        (λ w. absurd (let x = both_out _ _ w in let y = both_out _ _ x.1 in
        apart t p q s (inr (a, b)) (between_closed p q t lp lq (inr (a, b))
        (inr (neg_from_sgn (number_of p q t.a t.b) x.0, a, b)) (inr (neg_from_sgn (number_of p q t.b t.c) y.0, a, b))
        (inr (neg_from_sgn (number_of p q t.c t.a) y.1, a, b)))))
        (λ w. front_form (displacement p q) p t lp ∙ (λ i. crossing (flip (sgn sp)) (e i) na nb nc)
        ∙ no_sign' (flip (sgn sp)) na nb nc (subst (λ (z : Sign). T (sum3 na nb nc z)) e sums) w
        ∙ sym (no_sign' (flip (sgn sq)) na nb nc (subst (λ (z : Sign). T (sum3 na nb nc z)) e sums) w)
        ∙ sym (λ i. crossing (flip (sgn sq)) (e i) na nb nc) ∙ sym (back_form p q t lp lq))
        (split (is_neg na and is_neg nb and is_neg nc))
