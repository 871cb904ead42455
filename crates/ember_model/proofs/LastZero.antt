-- On the way from a point off a list of half-spaces to a point in all of them: the last plane that is passed.
use Rattle.std.proofs.Common.{◌≡◌, inl, inr, refl, sym, ap, subst, ◌∙◌, arith, Bool, true, false, not, ◌&&◌, List, [], ◌∷◌, ℤ, pos, ◌*ℤ◌, neg_ℤ, ◌<ℤ◌, ◌≤ℤ◌}
use Rattle.std.proofs.lemmas.Int.{by_lt_z}
use Rattle.std.proofs.lemmas.Bool.{and_parts}
use Rattle.ember_algebra.specs.Sign.{is_negative, is_positive}
use Rattle.ember_algebra.proofs.Laws.{linear}
use Rattle.ember_algebra.proofs.Order.{nonneg_mul, mul_le, cancel_le}
use Rattle.ember_algebra.proofs.Ring.{◌⊗◌, ◌≈◌, neg, solve, cancels}
use Rattle.ember_model.specs.declared.plane.Plane.{Plane}
use Rattle.ember_model.specs.declared.point.Spot.{Spot}
use Rattle.ember_model.specs.Planes.{value_at}
use Rattle.ember_model.specs.ClearTest.{none_positive, all_negative}
use Rattle.ember_model.proofs.SignTests.{negative_out, positive_from_not, not_positive_out, In}

-- ---- members
-- if no plane of a list is positive at a point, none of its members is
pub none_positive_member : (x : Spot) (es : List Plane) (h : Plane) → none_positive es x ≡ true → In h es → value_at h x ≤ℤ pos 0
none_positive_member x [] h e m = absurd m
none_positive_member x (g ∷ gs) h e (inl p) =
    subst (λ (k : Plane). value_at k x ≤ℤ pos 0) (sym p)
    (not_positive_out (value_at g x) (and_parts (not (is_positive (value_at g x))) (none_positive gs x) e).0)
none_positive_member x (g ∷ gs) h e (inr m) =
    none_positive_member x gs h (and_parts (not (is_positive (value_at g x))) (none_positive gs x) e).1 m

-- if all planes of a list are negative at a point, each of its members is
pub all_negative_member : (x : Spot) (es : List Plane) (h : Plane) → all_negative es x ≡ true → In h es → value_at h x <ℤ pos 0
all_negative_member x [] h e m = absurd m
all_negative_member x (g ∷ gs) h e (inl p) =
    subst (λ (k : Plane). value_at k x <ℤ pos 0) (sym p) (negative_out (value_at g x) (and_parts (is_negative (value_at g x)) (all_negative gs x) e).0)
all_negative_member x (g ∷ gs) h e (inr m) =
    all_negative_member x gs h (and_parts (is_negative (value_at g x)) (all_negative gs x) e).1 m

-- ---- the last zero
-- h is passed no earlier than each of the others
abbrev pub After : Spot → Spot → Plane → List Plane → Type 0
After x y h [] = Unit {0}
After x y h (g ∷ gs) = ((value_at g x *ℤ neg_ℤ (value_at h y)) ≤ℤ (value_at h x *ℤ neg_ℤ (value_at g y))) × After x y h gs

pub record Last (x y : Spot) (es : List Plane) : Type 0 where
  pub plane : Plane
  pub member : In plane es
  pub up : pos 0 <ℤ value_at plane x
  pub after : After x y plane es

-- a plane that is not above 0 at x
weak_first : (ag bg ah bh : ℤ) → ag ≤ℤ pos 0 → pos 0 ≤ℤ bh → pos 0 <ℤ ah → pos 0 ≤ℤ bg → (ag *ℤ bh) ≤ℤ (ah *ℤ bg)
weak_first ag bg ah bh g b a c =
    let n : pos 0 ≤ℤ neg_ℤ ag = omega (arith, linear) in let l : pos 0 ≤ℤ ah = omega (arith, linear) in
    let r = nonneg_mul n b in let s = nonneg_mul l c in
    omega (arith, linear, r, s, solve 2 (λ a b. neg a ⊗ b ≈ neg (a ⊗ b)) cancels ag bh)

-- a later plane takes the place of h
later : (ag bg ah bh ae be : ℤ) → pos 0 <ℤ ah → pos 0 <ℤ ae → pos 0 ≤ℤ be → pos 0 ≤ℤ bg → (ah *ℤ be) <ℤ (ae *ℤ bh) →
    (ag *ℤ bh) ≤ℤ (ah *ℤ bg) → (ag *ℤ be) ≤ℤ (ae *ℤ bg)
later ag bg ah bh ae be h e b c l m = by_lt_z (pos 0) ag up (λ g. weak_first ag bg ae be g b e c)
  where
    up : pos 0 <ℤ ag → (ag *ℤ be) ≤ℤ (ae *ℤ bg)
    up g =
        let x : (ah *ℤ be) ≤ℤ (ae *ℤ bh) = omega (arith, linear) in
        let g0 : pos 0 ≤ℤ ag = omega (arith, linear) in let e0 : pos 0 ≤ℤ ae = omega (arith, linear) in
        let p = mul_le g0 x in let q = mul_le e0 m in
        cancel_le h (omega (
          arith,
          linear,
          p,
          q,
          solve 3 (λ g a b. g ⊗ (a ⊗ b) ≈ a ⊗ (g ⊗ b)) cancels ag ah be,
          solve 3 (λ g a b. g ⊗ (a ⊗ b) ≈ a ⊗ (g ⊗ b)) cancels ag ae bh,
          solve 3 (λ g a b. g ⊗ (a ⊗ b) ≈ a ⊗ (g ⊗ b)) cancels ae ah bg,
        ))

all_weak : (x y : Spot) (h : Plane) (es : List Plane) → pos 0 <ℤ value_at h x → value_at h y ≤ℤ pos 0 →
    none_positive es x ≡ true → none_positive es y ≡ true → After x y h es
all_weak x y h [] u d a b = tt
all_weak x y h (g ∷ gs) u d a b =
    let p = and_parts (not (is_positive (value_at g x))) (none_positive gs x) a in let q =
    and_parts (not (is_positive (value_at g y))) (none_positive gs y) b in
    let v = not_positive_out (value_at g y) q.0 in (
      weak_first (value_at g x) (neg_ℤ (value_at g y)) (value_at h x) (neg_ℤ (value_at h y))
          (not_positive_out (value_at g x) p.0) (omega (arith, linear)) u (omega (arith, linear)),
      all_weak x y h gs u d p.1 q.1,
    )

all_later : (x y : Spot) (h e : Plane) (es : List Plane) → pos 0 <ℤ value_at h x → pos 0 <ℤ value_at e x →
    value_at e y ≤ℤ pos 0 → none_positive es y ≡ true →
    (value_at h x *ℤ neg_ℤ (value_at e y)) <ℤ (value_at e x *ℤ neg_ℤ (value_at h y)) → After x y h es → After x y e es
all_later x y h e [] uh ue d b l f = tt
all_later x y h e (g ∷ gs) uh ue d b l f =
    let q = and_parts (not (is_positive (value_at g y))) (none_positive gs y) b in let v = not_positive_out (value_at g y) q.0 in (
      later (value_at g x) (neg_ℤ (value_at g y)) (value_at h x) (neg_ℤ (value_at h y)) (value_at e x)
          (neg_ℤ (value_at e y)) uh ue (omega (arith, linear)) (omega (arith, linear)) l f.0,
      all_later x y h e gs uh ue d q.1 l f.1,
    )

-- if only the second of two points is in the closed edges, some edge is the last that the way between them meets
pub last_zero : (x y : Spot) (es : List Plane) → none_positive es x ≡ false → none_positive es y ≡ true → Last x y es
last_zero x y [] a b = cc
last_zero x y (e ∷ es) a b = by (none_positive es x) refl (last_zero x y es)
  where
    q : (not (is_positive (value_at e y)) ≡ true) × (none_positive es y ≡ true)
    q = and_parts (not (is_positive (value_at e y))) (none_positive es y) b

    d : value_at e y ≤ℤ pos 0
    d = not_positive_out (value_at e y) q.0

    first : (c : Bool) → c && true ≡ false → c ≡ false
    first true h = h
    first false h = refl

    keep : (r : Last x y es) → (value_at e x *ℤ neg_ℤ (value_at r.plane y)) ≤ℤ (value_at r.plane x *ℤ neg_ℤ (value_at e y)) → Last x y (e ∷ es)
    keep r l = record { plane = r.plane; member = inr r.member; up = r.up; after = (l, r.after) }

    take : After x y e es → pos 0 <ℤ value_at e x → Last x y (e ∷ es)
    take f u = record { plane = e; member = inl refl; up = u; after = (omega (arith, linear), f) }

    choose : Last x y es → Last x y (e ∷ es)
    choose r =
        let dh : value_at r.plane y ≤ℤ pos 0 = none_positive_member y es r.plane q.1 r.member in let de : value_at e y ≤ℤ pos 0 = d in
        by_lt_z (pos 0) (value_at e x)
        (λ u. by_lt_z (value_at r.plane x *ℤ neg_ℤ (value_at e y)) (value_at e x *ℤ neg_ℤ (value_at r.plane y))
        (λ l. take (all_later x y r.plane e es r.up u d q.1 l r.after) u) (λ l. keep r l))
        (λ u. keep r (weak_first (value_at e x) (neg_ℤ (value_at e y)) (value_at r.plane x) (neg_ℤ (value_at r.plane y))
        u (omega (arith, linear)) r.up (omega (arith, linear))))

    by : (c : Bool) → none_positive es x ≡ c → (none_positive es x ≡ false → none_positive es y ≡ true → Last x y es) → Last x y (e ∷ es)
    by true h r =
        let u = positive_from_not (value_at e x)
        (first (not (is_positive (value_at e x)))
        (ap (λ (c : Bool). not (is_positive (value_at e x)) && c) (sym h) ∙ a)) in
        take (all_weak x y e es u d h q.1) u
    by false h r = choose (r h q.1)
