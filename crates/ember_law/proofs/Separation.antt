-- A segment that misses a closed face has a plane between it and the face.
use Rattle.std.proofs.Common.{◌≡◌, ◌⊎◌, ⊎_elim, inl, inr, refl, sym, ap, subst, ◌∙◌, arith, Bool, true, false, not}
use Rattle.std.proofs.Common.{cond, ◌&&◌, List, [], ◌∷◌, ℤ, pos, negsuc, ◌+ℤ◌, ◌-ℤ◌, ◌*ℤ◌, neg_ℤ, ◌<ℤ◌, ◌≤ℤ◌}
use Rattle.std.specs.List.{filter}
use lib.IntN.{*ℤ-zero, zero-*ℤ, +ℤ_comm}
use Rattle.std.proofs.lemmas.Int.{by_lt_z}
use Rattle.ember_algebra.specs.Sign.{is_positive}
use Rattle.ember_algebra.proofs.Laws.{linear, one-*ℤ}
use Rattle.ember_algebra.proofs.Order.{by_sign, mul_le}
use Rattle.ember_algebra.proofs.Ring.{◌⊕◌, ◌⊖◌, ◌⊗◌, ◌≈◌, num, neg, solve, cancels}
use Rattle.ember_model.specs.declared.plane.Plane.{Plane}
use Rattle.ember_model.specs.declared.point.Spot.{Spot}
use Rattle.ember_model.specs.declared.face.Face.{Face}
use Rattle.ember_model.specs.Planes.{value_at, times_plane}
use Rattle.ember_model.specs.Points.{scaled, plus_s}
use Rattle.ember_model.specs.Faces.{is_in_closed}
use Rattle.ember_model.specs.ClearTest.{none_positive}
use Rattle.ember_model.proofs.SignTests.{zero_scaled, positive_in, not_positive_in, positive_from_not, not_positive_out, In}
use Rattle.ember_model.proofs.PlaneValues.{value_scaled, value_times, value_plus}
use Rattle.ember_model.proofs.Hits.{closed_on, closed_parts}
use Rattle.ember_model.proofs.LastZero.{none_positive_member, After, Last, last_zero}
use Rattle.ember_law.specs.Laws.{MissesFace}

-- ---- points of the segment
-- for k, m ≥ 0, not both 0: a point of the segment from p to q
abbrev pub combination : ℤ → ℤ → Spot → Spot → Spot
combination k m p q = plus_s (scaled k p) (scaled m q)

-- a plane's value at a combination of two points is that combination of its values
pub combination_value : (g : Plane) (k m : ℤ) (p q : Spot) → value_at g (combination k m p q) ≡ k *ℤ value_at g p +ℤ m *ℤ value_at g q
combination_value g k m p q =
    value_plus g (scaled k p) (scaled m q) ∙ (let x = value_scaled k g p in let y = value_scaled m g q in λ i. x i +ℤ y i)

combination_turn : (k m : ℤ) (p q : Spot) → combination k m p q ≡ combination m k q p
combination_turn k m p q =
    let x = +ℤ_comm (k *ℤ p.x) (m *ℤ q.x) in let y = +ℤ_comm (k *ℤ p.y) (m *ℤ q.y) in let z =
    +ℤ_comm (k *ℤ p.z) (m *ℤ q.z) in let w = +ℤ_comm (k *ℤ p.w) (m *ℤ q.w) in
    λ i. record { x = x i; y = y i; z = z i; w = w i }

misses_turn : (f : Face) (p q : Spot) → MissesFace p q f → MissesFace q p f
misses_turn f p q h k m a b = ap (is_in_closed f) (combination_turn k m q p) ∙ h m k b a

combination_weight : (k m : ℤ) (p q : Spot) → pos 0 ≤ℤ k → pos 0 ≤ℤ m → pos 0 <ℤ (k +ℤ m) → pos 0 <ℤ p.w → pos 0 <ℤ q.w → pos 0 <ℤ (combination k m p q).w
combination_weight k m p q a b c wp wq =
    let x : pos 1 ≤ℤ p.w = omega (arith, linear) in let y : pos 1 ≤ℤ q.w = omega (arith, linear) in
    let u = mul_le a x in let v = mul_le b y in let s : pos 0 <ℤ (k *ℤ p.w +ℤ m *ℤ q.w) = omega (arith, linear, u, v, c) in s

pub record Separates (f : Face) (p q : Spot) : Type 0 where
  pub plane : Plane
  pub near : pos 0 <ℤ value_at plane p
  pub far : pos 0 <ℤ value_at plane q
  pub low : (x : Spot) → is_in_closed f x ≡ true → value_at plane x ≤ℤ pos 0

turned : {f : Face} {p q : Spot} → Separates f q p → Separates f p q
turned s = record { plane = s.plane; near = s.far; far = s.near; low = s.low }

-- ---- lists
pub record Above (x : Spot) (es : List Plane) : Type 0 where
  pub plane : Plane
  pub member : In plane es
  pub up : pos 0 <ℤ value_at plane x

point_outside_is_above : (x : Spot) (es : List Plane) → none_positive es x ≡ false → Above x es
point_outside_is_above x [] e = cc
point_outside_is_above x (g ∷ gs) e = by (not (is_positive (value_at g x))) refl e (point_outside_is_above x gs)
  where
    more : Above x gs → Above x (g ∷ gs)
    more r = record { plane = r.plane; member = inr r.member; up = r.up }

    by : (b : Bool) → not (is_positive (value_at g x)) ≡ b → b && none_positive gs x ≡ false → (none_positive gs x ≡ false → Above x gs) → Above x (g ∷ gs)
    by true q h r = more (r h)
    by false q h r = record { plane = g; member = inl refl; up = positive_from_not (value_at g x) q }

decide : (b : Bool) → (b ≡ true) ⊎ (b ≡ false)
decide true = inl refl
decide false = inr refl

not_low : (x : Spot) (es : List Plane) (h : Plane) → In h es → pos 0 <ℤ value_at h x → none_positive es x ≡ false
not_low x es h m u =
    ⊎_elim (λ t. absurd (let l = none_positive_member x es h t m in omega (arith, linear, l, u))) (λ f. f) (decide (none_positive es x))

filter_in : (f : Plane → Bool) (h : Plane) (es : List Plane) → In h es → f h ≡ true → In h (filter f es)
filter_in f h [] m e = absurd m
filter_in f h (g ∷ gs) (inl p) e =
    subst (λ (b : Bool). In h (cond b (g ∷ filter f gs) (filter f gs))) (sym (ap f (sym p) ∙ e)) (inl p)
filter_in f h (g ∷ gs) (inr m) e = by (f g) (filter_in f h gs m e)
  where
    by : (b : Bool) → In h (filter f gs) → In h (cond b (g ∷ filter f gs) (filter f gs))
    by true r = inr r
    by false r = r

filter_out : (f : Plane → Bool) (h : Plane) (es : List Plane) → In h (filter f es) → In h es × (f h ≡ true)
filter_out f h [] m = absurd m
filter_out f h (g ∷ gs) m = by (f g) refl m (filter_out f h gs)
  where
    more : In h gs × (f h ≡ true) → In h (g ∷ gs) × (f h ≡ true)
    more r = (inr r.0, r.1)

    by : (b : Bool) → f g ≡ b → In h (cond b (g ∷ filter f gs) (filter f gs)) → (In h (filter f gs) → In h gs × (f h ≡ true)) → In h (g ∷ gs) × (f h ≡ true)
    by true e (inl p) r = (inl p, ap f p ∙ e)
    by true e (inr m) r = more (r m)
    by false e m r = more (r m)

after_member : (x y : Spot) (h g : Plane) (es : List Plane) → After x y h es → In g es →
    (value_at g x *ℤ neg_ℤ (value_at h y)) ≤ℤ (value_at h x *ℤ neg_ℤ (value_at g y))
after_member x y h g [] f m = absurd m
after_member x y h g (k ∷ ks) f (inl p) =
    subst (λ (k : Plane). (value_at k x *ℤ neg_ℤ (value_at h y)) ≤ℤ (value_at h x *ℤ neg_ℤ (value_at k y))) (sym p) f.0
after_member x y h g (k ∷ ks) f (inr m) = after_member x y h g ks f.1 m

-- ---- the plane
-- a combination of two planes
abbrev pub combine : ℤ → Plane → ℤ → Plane → Plane
combine k g m h = record { a = k *ℤ g.a +ℤ m *ℤ h.a; b = k *ℤ g.b +ℤ m *ℤ h.b; c = k *ℤ g.c +ℤ m *ℤ h.c; d = k *ℤ g.d +ℤ m *ℤ h.d }

value_combine : (k : ℤ) (g : Plane) (m : ℤ) (h : Plane) (x : Spot) → value_at (combine k g m h) x ≡ k *ℤ value_at g x +ℤ m *ℤ value_at h x
value_combine k g m h s =
    solve 14 (λ m k ga gb gc gd na nb nc nd x y z w. (m ⊗ ga ⊕ k ⊗ na) ⊗ x ⊕ (m ⊗ gb ⊕ k ⊗ nb) ⊗ y ⊕ (m ⊗ gc ⊕ k ⊗ nc) ⊗
    z ⊖ (m ⊗ gd ⊕ k ⊗ nd) ⊗ w ≈ m ⊗ (ga ⊗ x ⊕ gb ⊗ y ⊕ gc ⊗ z ⊖ gd ⊗ w) ⊕ k ⊗ (na ⊗ x ⊕ nb ⊗ y ⊕ nc ⊗ z ⊖ nd ⊗ w))
    cancels k m g.a g.b g.c g.d h.a h.b h.c h.d s.x s.y s.z s.w

closed_flat : (f : Face) (x : Spot) → is_in_closed f x ≡ true → value_at f.support x ≡ pos 0
closed_flat f x c = (closed_parts f x c).1

closed_low : (f : Face) (x : Spot) (h : Plane) → In h f.edges → is_in_closed f x ≡ true → value_at h x ≤ℤ pos 0
closed_low f x h m c = none_positive_member x f.edges h (closed_parts f x c).2 m

-- a point of the support plane that is not in the closed face
off_face : (f : Face) (x : Spot) → pos 0 <ℤ x.w → value_at f.support x ≡ pos 0 → is_in_closed f x ≡ false → Above x f.edges
off_face f x w z c = point_outside_is_above x f.edges (sym (closed_on f x (positive_in w) z) ∙ c)

-- p behind, q in front, and one of them strictly
across : (f : Face) (p q : Spot) → pos 0 <ℤ p.w → pos 0 <ℤ q.w → MissesFace p q f → value_at f.support p ≤ℤ pos 0 →
    pos 0 ≤ℤ value_at f.support q → pos 0 <ℤ (value_at f.support q -ℤ value_at f.support p) → Separates f p q
across f p q wp wq h lp lq d =
    let s1 = value_at f.support p in let s2 = value_at f.support q in
    let x = combination s2 (neg_ℤ s1) p q in
    let z : value_at f.support x ≡ pos 0 = combination_value f.support s2 (neg_ℤ s1) p q ∙ solve 2 (λ a b. b ⊗ a ⊕ neg a ⊗ b ≈ num (pos 0)) cancels s1 s2 in
    let r = off_face f x (combination_weight s2 (neg_ℤ s1) p q lq (omega (arith, linear)) (omega (arith, linear)) wp wq)
    z (h s2 (neg_ℤ s1) lq (omega (arith, linear))) in
    let g = r.plane in let h1 = value_at g p in let h2 = value_at g q in
    let v = combination_value g s2 (neg_ℤ s1) p q in
    record {
      plane = combine (s2 -ℤ s1) g (h1 -ℤ h2) f.support;
      near = let e = value_combine (s2 -ℤ s1) g (h1 -ℤ h2) f.support p in let u = r.up in
          omega (
            arith,
            linear,
            e,
            u,
            v,
            solve 4 (λ s1 s2 h1 h2. (s2 ⊖ s1) ⊗ h1 ⊕ (h1 ⊖ h2) ⊗ s1 ≈ s2 ⊗ h1 ⊕ neg s1 ⊗ h2)
                cancels s1 s2 h1 h2,
          );
      far = let e = value_combine (s2 -ℤ s1) g (h1 -ℤ h2) f.support q in let u = r.up in
          omega (
            arith,
            linear,
            e,
            u,
            v,
            solve 4 (λ s1 s2 h1 h2. (s2 ⊖ s1) ⊗ h2 ⊕ (h1 ⊖ h2) ⊗ s2 ≈ s2 ⊗ h1 ⊕ neg s1 ⊗ h2)
                cancels s1 s2 h1 h2,
          );
      low = λ y c.
          let e = value_combine (s2 -ℤ s1) g (h1 -ℤ h2) f.support y in
          let o = zero_scaled (h1 -ℤ h2) (value_at f.support y) (closed_flat f y c) in
          let k : pos 0 ≤ℤ (s2 -ℤ s1) = omega (arith, linear, d) in
          let l = mul_le k (closed_low f y g r.member c) in
          omega (arith, linear, e, o, l, *ℤ-zero (s2 -ℤ s1));
    }

-- both in the support plane
inside_plane : (f : Face) (p q : Spot) → pos 0 <ℤ p.w → pos 0 <ℤ q.w → MissesFace p q f → value_at f.support p ≡ pos 0 →
    value_at f.support q ≡ pos 0 → Separates f p q
inside_plane f p q wp wq h zp zq =
    let one = combination (pos 1) (pos 0) p q in
    let a = off_face f one (combination_weight (pos 1) (pos 0) p q (omega (arith, linear)) (omega (arith, linear))
    (omega (arith, linear)) wp wq) (flat (pos 1) (pos 0))
    (h (pos 1) (pos 0) (omega (arith, linear)) (omega (arith, linear))) in
    let ap1 : pos 0 <ℤ value_at a.plane p = let e = combination_value a.plane (pos 1) (pos 0) p q in let u = a.up in
    omega (arith, linear, e, u, one-*ℤ (value_at a.plane p), zero-*ℤ (value_at a.plane q)) in
    by_lt_z (pos 0) (value_at a.plane q) (λ u. simple a.plane a.member ap1 u)
    (λ d. two (last_zero p q rest (not_low p rest a.plane
    (filter_in tame a.plane f.edges a.member (not_positive_in (value_at a.plane q) d)) ap1) tame_all))
  where
    flat : (k m : ℤ) → value_at f.support (combination k m p q) ≡ pos 0
    flat k m = combination_value f.support k m p q ∙ (λ i. k *ℤ zp i +ℤ m *ℤ zq i)
        ∙ solve 2 (λ k m. k ⊗ num (pos 0) ⊕ m ⊗ num (pos 0) ≈ num (pos 0)) cancels k m

    simple : (g : Plane) → In g f.edges → pos 0 <ℤ value_at g p → pos 0 <ℤ value_at g q → Separates f p q
    simple g m a b = record { plane = g; near = a; far = b; low = λ x c. closed_low f x g m c }

    joined : (g l : Plane) → In g f.edges → In l f.edges → pos 0 <ℤ value_at g p → value_at g q ≤ℤ pos 0 →
        value_at l p ≤ℤ pos 0 → pos 0 <ℤ value_at l q →
        pos 0 <ℤ (neg_ℤ (value_at g q) *ℤ value_at l p +ℤ value_at g p *ℤ value_at l q) → Separates f p q
    joined g l gm lm g1 g2 l1 l2 v =
        let h1 = value_at g p in let h2 = value_at g q in let k1 = value_at l p in let k2 = value_at l q in
        record {
          plane = combine (k2 -ℤ k1) g (h1 -ℤ h2) l;
          near = let e = value_combine (k2 -ℤ k1) g (h1 -ℤ h2) l p in
              omega (
                arith,
                linear,
                e,
                v,
                solve 4 (λ h1 h2 k1 k2. (k2 ⊖ k1) ⊗ h1 ⊕ (h1 ⊖ h2) ⊗ k1 ≈ neg h2 ⊗ k1 ⊕ h1 ⊗ k2)
                    cancels h1 h2 k1 k2,
              );
          far = let e = value_combine (k2 -ℤ k1) g (h1 -ℤ h2) l q in
              omega (
                arith,
                linear,
                e,
                v,
                solve 4 (λ h1 h2 k1 k2. (k2 ⊖ k1) ⊗ h2 ⊕ (h1 ⊖ h2) ⊗ k2 ≈ neg h2 ⊗ k1 ⊕ h1 ⊗ k2)
                    cancels h1 h2 k1 k2,
              );
          low = λ x c.
              let e = value_combine (k2 -ℤ k1) g (h1 -ℤ h2) l x in
              let a : pos 0 ≤ℤ (k2 -ℤ k1) = omega (arith, linear) in let b : pos 0 ≤ℤ (h1 -ℤ h2) = omega (arith, linear) in
              let y = mul_le a (closed_low f x g gm c) in let z = mul_le b (closed_low f x l lm c) in
              omega (arith, linear, e, y, z, *ℤ-zero (k2 -ℤ k1), *ℤ-zero (h1 -ℤ h2));
        }

    tame : Plane → Bool
    tame g = not (is_positive (value_at g q))

    rest : List Plane
    rest = filter tame f.edges

    tame_all : none_positive rest q ≡ true
    tame_all =
        ⊎_elim (λ t. t) (λ o. absurd (let r = point_outside_is_above q rest o in let l =
        not_positive_out (value_at r.plane q) (filter_out tame r.plane f.edges r.member).1 in let u = r.up in
        omega (arith, linear, u, l))) (decide (none_positive rest q))

    two : Last p q rest → Separates f p q
    two r =
        let g = r.plane in let h1 = value_at g p in let h2 = value_at g q in let u = r.up in
        let gm = filter_out tame g f.edges r.member in
        let d = not_positive_out h2 gm.1 in
        let l = off_face f (combination (neg_ℤ h2) h1 p q)
        (combination_weight (neg_ℤ h2) h1 p q (omega (arith, linear, d)) (omega (arith, linear, u))
        (omega (arith, linear, d, u)) wp wq) (flat (neg_ℤ h2) h1)
        (h (neg_ℤ h2) h1 (omega (arith, linear, d)) (omega (arith, linear, u))) in
        let l1 = value_at l.plane p in let l2 = value_at l.plane q in
        let v : pos 0 <ℤ (neg_ℤ h2 *ℤ l1 +ℤ h1 *ℤ l2) = let e = combination_value l.plane (neg_ℤ h2) h1 p q in let w = l.up in omega (arith, linear, e, w) in
        by_lt_z (pos 0) l2
        (λ b. by_lt_z (pos 0) l1 (λ a. simple l.plane l.member a b) (λ a. joined g l.plane gm.0 l.member u d a b v))
        (λ b. absurd (let o = after_member p q g l.plane rest r.after
        (filter_in tame l.plane f.edges l.member (not_positive_in l2 b)) in
        omega (
          arith,
          linear,
          o,
          v,
          solve 4 (λ h1 h2 l1 l2. neg h2 ⊗ l1 ⊕ h1 ⊗ l2 ≈ l1 ⊗ neg h2 ⊖ h1 ⊗ neg l2) cancels
              h1 h2 l1 l2,
        )))

-- a segment that misses a face is separated from it by the face's plane or an edge
pub missed_face_has_separating_edge : (f : Face) (p q : Spot) → pos 0 <ℤ p.w → pos 0 <ℤ q.w → MissesFace p q f → Separates f p q
missed_face_has_separating_edge f p q wp wq h =
    by_sign (value_at f.support p)
    (λ a. by_sign (value_at f.support q)
    (λ b. record { plane = f.support; near = a; far = b; low = λ x c. let e = closed_flat f x c in omega (arith, linear, e) })
    (λ b. turned (across f q p wq wp (misses_turn f p q h) (omega (arith, linear)) (omega (arith, linear)) (omega (arith, linear))))
    (λ b. turned (across f q p wq wp (misses_turn f p q h) (omega (arith, linear)) (omega (arith, linear)) (omega (arith, linear)))))
    (λ a. by_sign (value_at f.support q)
    (λ b. across f p q wp wq h (omega (arith, linear)) (omega (arith, linear)) (omega (arith, linear)))
    (λ b. inside_plane f p q wp wq h a b)
    (λ b. turned (across f q p wq wp (misses_turn f p q h) (omega (arith, linear)) (omega (arith, linear)) (omega (arith, linear)))))
    (λ a. by_sign (value_at f.support q)
    (λ b. across f p q wp wq h (omega (arith, linear)) (omega (arith, linear)) (omega (arith, linear)))
    (λ b. across f p q wp wq h (omega (arith, linear)) (omega (arith, linear)) (omega (arith, linear)))
    (λ b. record {
      plane = times_plane (negsuc 0) f.support;
      near = let e = value_times (negsuc 0) f.support p in let k =
          solve 1 (λ v. num (negsuc 0) ⊗ v ≈ neg v) cancels (value_at f.support p) in omega (arith, linear, e, k);
      far = let e = value_times (negsuc 0) f.support q in let k =
          solve 1 (λ v. num (negsuc 0) ⊗ v ≈ neg v) cancels (value_at f.support q) in omega (arith, linear, e, k);
      low = λ x c. let e = value_times (negsuc 0) f.support x in let g = closed_flat f x c in let k =
          solve 1 (λ v. num (negsuc 0) ⊗ v ≈ neg v) cancels (value_at f.support x) in omega (arith, linear, e, k, g);
    }))
