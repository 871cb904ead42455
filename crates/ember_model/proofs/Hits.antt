-- Edge planes at two points of one place, and the hit of a ray: it lies on the support plane, so that the edge planes decide.
use Rattle.std.proofs.Common.{◌≡◌, ◌≢◌, refl, sym, ap, ◌∙◌, Bool, true, false, cond, not, ◌&&◌, List, [], ◌∷◌, ℤ, pos, negsuc, ◌+ℤ◌, ◌*ℤ◌, neg_ℤ, ◌<ℤ◌, arith}
use Rattle.std.proofs.lemmas.Bool.{and_parts}
use Rattle.ember_algebra.specs.declared.Sign.{Sign}
use Rattle.ember_algebra.specs.Sign.{sign, sgn, is_neg, is_nil, is_pos, is_negative, is_zero, is_positive}
use Rattle.ember_algebra.proofs.Laws.{linear}
use Rattle.ember_algebra.proofs.Order.{pos_mul}
use Rattle.ember_algebra.proofs.Ring.{◌⊕◌, ◌⊖◌, ◌⊗◌, ◌≈◌, num, solve, cancels}
use Rattle.ember_model.specs.declared.plane.Plane.{Plane}
use Rattle.ember_model.specs.declared.point.Spot.{Spot}
use Rattle.ember_model.specs.declared.point.Axis.{Axis}
use Rattle.ember_model.specs.declared.point.Axis.TheVariants.{X, Y, Z}
use Rattle.ember_model.specs.declared.face.Face.{Face}
use Rattle.ember_model.specs.Planes.{value_at, along}
use Rattle.ember_model.specs.Points.{scaled, moved}
use Rattle.ember_model.specs.Faces.{size, is_inside, is_in_closed, hit, crossing}
use Rattle.ember_model.specs.ClearTest.{none_positive, all_negative}
use Rattle.ember_model.proofs.SignTests.{sgn_scaled, positive_in, size_positive, clash, zero_scaled, positive_out, zero_out, negative_out, not_positive_in}
use Rattle.ember_model.proofs.PlaneValues.{value_scaled, value_moved, hit_flat}

-- ---- one place
-- the values at y are those at x times a number: for a positive one both are one place
abbrev pub Scales : ℤ → Spot → Spot → Type 0
Scales c x y = (g : Plane) → value_at g y ≡ c *ℤ value_at g x

-- a scaled point is the point, scaled
pub scaled_point_scales : (k : ℤ) (p : Spot) → Scales k p (scaled k p)
scaled_point_scales k p g = value_scaled k g p

-- the plane whose value is the weight
abbrev pub weight_plane : Plane
weight_plane = record { a = pos 0; b = pos 0; c = pos 0; d = negsuc 0 }

-- the weight is the value of a plane too
pub weight_is : (x : Spot) → value_at weight_plane x ≡ x.w
weight_is x =
    solve 4 (λ x y z w. num (pos 0) ⊗ x ⊕ num (pos 0) ⊗ y ⊕ num (pos 0) ⊗ z ⊖ num (negsuc 0) ⊗ w ≈ w) cancels x.x x.y x.z x.w

weight_scales : (c : ℤ) (x y : Spot) → Scales c x y → y.w ≡ c *ℤ x.w
weight_scales c x y h = sym (weight_is y) ∙ h weight_plane ∙ ap (λ (w : ℤ). c *ℤ w) (weight_is x)

-- the test of edges answers the same of a point whose four numbers are multiplied by a positive one
pub same_all_negative : (c : ℤ) (x y : Spot) (es : List Plane) → pos 0 <ℤ c → Scales c x y → all_negative es y ≡ all_negative es x
same_all_negative c x y [] p h = refl
same_all_negative c x y (e ∷ es) p h =
    let q = ap is_neg (ap sgn (h e) ∙ sgn_scaled (value_at e x) p) in let r = same_all_negative c x y es p h in λ i. q i && r i

-- the test of closed edges answers the same of a point whose four numbers are multiplied by a positive one
pub same_none_positive : (c : ℤ) (x y : Spot) (es : List Plane) → pos 0 <ℤ c → Scales c x y → none_positive es y ≡ none_positive es x
same_none_positive c x y [] p h = refl
same_none_positive c x y (e ∷ es) p h =
    let q = ap (λ (s : Sign). not (is_pos s)) (ap sgn (h e) ∙ sgn_scaled (value_at e x) p) in let r = same_none_positive c x y es p h in λ i. q i && r i

same_weight : (c : ℤ) (x y : Spot) → pos 0 <ℤ c → Scales c x y → is_positive y.w ≡ is_positive x.w
same_weight c x y p h = ap is_pos (ap sgn (weight_scales c x y h) ∙ sgn_scaled x.w p)

-- the test of closed faces answers the same of a point whose four numbers are multiplied by a positive one
pub closed_scaled : (c : ℤ) (x y : Spot) (f : Face) → pos 0 <ℤ c → Scales c x y → is_in_closed f y ≡ is_in_closed f x
closed_scaled c x y f p h =
    let w = same_weight c x y p h in let q = ap is_nil (ap sgn (h f.support) ∙ sgn_scaled (value_at f.support x) p) in
    let r = same_none_positive c x y f.edges p h in λ i. w i && (q i && r i)

-- so does the test of inside points
pub inside_scaled : (c : ℤ) (x y : Spot) (f : Face) → pos 0 <ℤ c → Scales c x y → is_inside f y ≡ is_inside f x
inside_scaled c x y f p h =
    let w = same_weight c x y p h in let q = ap is_nil (ap sgn (h f.support) ∙ sgn_scaled (value_at f.support x) p) in
    let r = same_all_negative c x y f.edges p h in λ i. w i && (q i && r i)

-- ---- points of a ray
-- a point that is moved along an axis keeps its weight
pub moved_weight : (s : Spot) (a : Axis) (by : ℤ) → (moved s a by).w ≡ s.w
moved_weight s X by = refl
moved_weight s Y by = refl
moved_weight s Z by = refl

-- a plane's value at a point of a ray is linear in the way along the ray
pub value_ray : (g : Plane) (a : Axis) (p : Spot) (m s : ℤ) → value_at g (moved (scaled m p) a s) ≡ m *ℤ value_at g p +ℤ s *ℤ along g a
value_ray g a p m s =
    value_moved g (scaled m p) a s ∙ ap (λ (v : ℤ). v +ℤ s *ℤ along g a) (value_scaled m g p)

-- the weight of a point of a ray is positive
pub ray_weight : (a : Axis) (p : Spot) (m s : ℤ) → pos 0 <ℤ m → pos 0 <ℤ p.w → is_positive (moved (scaled m p) a s).w ≡ true
ray_weight a p m s lm lp = ap is_positive (moved_weight (scaled m p) a s) ∙ positive_in (pos_mul lm lp)

-- on the support plane the edge planes decide
pub inside_on : (f : Face) (x : Spot) → is_positive x.w ≡ true → value_at f.support x ≡ pos 0 → is_inside f x ≡ all_negative f.edges x
inside_on f x w z = λ i. w i && (is_zero (z i) && all_negative f.edges x)

-- on the support plane, closed edges alone decide whether a point is in the closed face
pub closed_on : (f : Face) (x : Spot) → is_positive x.w ≡ true → value_at f.support x ≡ pos 0 → is_in_closed f x ≡ none_positive f.edges x
closed_on f x w z = λ i. w i && (is_zero (z i) && none_positive f.edges x)

-- the three facts of a point of a closed face: positive weight, on the plane, above no edge
pub closed_parts : (f : Face) (x : Spot) → is_in_closed f x ≡ true → (pos 0 <ℤ x.w) × (value_at f.support x ≡ pos 0) × (none_positive f.edges x ≡ true)
closed_parts f x c =
    let a = and_parts (is_positive x.w) (is_zero (value_at f.support x) && none_positive f.edges x) c in
    let b = and_parts (is_zero (value_at f.support x)) (none_positive f.edges x) a.1 in
    (positive_out x.w a.0, zero_out (value_at f.support x) b.0, b.1)

-- the three facts of an inside point: positive weight, on the plane, below all edges
pub inside_parts : (f : Face) (x : Spot) → is_inside f x ≡ true → (pos 0 <ℤ x.w) × (value_at f.support x ≡ pos 0) × (all_negative f.edges x ≡ true)
inside_parts f x c =
    let a = and_parts (is_positive x.w) (is_zero (value_at f.support x) && all_negative f.edges x) c in
    let b = and_parts (is_zero (value_at f.support x)) (all_negative f.edges x) a.1 in
    (positive_out x.w a.0, zero_out (value_at f.support x) b.0, b.1)

-- ---- the hit
hit_weight : (n : Plane) (a : Axis) (p : Spot) → along n a ≢ pos 0 → pos 0 <ℤ p.w → is_positive (hit n a p).w ≡ true
hit_weight n a p nz w =
    ray_weight a p (size (along n a)) (neg_ℤ (sign (along n a) *ℤ value_at n p)) (size_positive (along n a) nz) w

-- a ray's hit is inside a face exactly if it is below its edges
pub hit_inside : (f : Face) (a : Axis) (p : Spot) → along f.support a ≢ pos 0 → pos 0 <ℤ p.w →
    is_inside f (hit f.support a p) ≡ all_negative f.edges (hit f.support a p)
hit_inside f a p nz w = inside_on f (hit f.support a p) (hit_weight f.support a p nz w) (hit_flat f.support a p)

-- a ray's hit is in a closed face exactly if it is above none of its edges
pub hit_closed : (f : Face) (a : Axis) (p : Spot) → along f.support a ≢ pos 0 → pos 0 <ℤ p.w →
    is_in_closed f (hit f.support a p) ≡ none_positive f.edges (hit f.support a p)
hit_closed f a p nz w = closed_on f (hit f.support a p) (hit_weight f.support a p nz w) (hit_flat f.support a p)

-- ---- the crossing's parts
-- a factor of a negative product isn't 0
pub slope_nonzero : (s k : ℤ) → is_negative (s *ℤ k) ≡ true → k ≢ pos 0
slope_nonzero s k e z = clash e (ap is_negative (zero_scaled s k z))

-- a ray that leads away from a face's plane doesn't cross the face
pub crossing_off : (f : Face) (a : Axis) (p : Spot) → is_negative (value_at f.support p *ℤ along f.support a) ≡ false → crossing f a p ≡ pos 0
unfolding crossing
crossing_off f a p e = ap (λ (b : Bool). cond (b && is_inside f (hit f.support a p)) (sign (along f.support a)) (pos 0)) e

-- a ray that leads to a face's plane crosses the face exactly if its hit is inside the edges
pub crossing_on : (f : Face) (a : Axis) (p : Spot) (b : Bool) → pos 0 <ℤ p.w →
    is_negative (value_at f.support p *ℤ along f.support a) ≡ true → all_negative f.edges (hit f.support a p) ≡ b →
    crossing f a p ≡ cond b (sign (along f.support a)) (pos 0)
unfolding crossing
crossing_on f a p b w e g =
    let h = hit_inside f a p (slope_nonzero (value_at f.support p) (along f.support a) e) w ∙ g in
    λ i. cond (e i && h i) (sign (along f.support a)) (pos 0)

-- where the normal has an entry along the ray
pub crossing_across : (f : Face) (a : Axis) (p : Spot) → pos 0 <ℤ p.w → along f.support a ≢ pos 0 →
    crossing f a p ≡ cond (is_negative (value_at f.support p *ℤ along f.support a)
    && all_negative f.edges (hit f.support a p)) (sign (along f.support a)) (pos 0)
unfolding crossing
crossing_across f a p w nz =
    let h = hit_inside f a p nz w in
    λ i. cond (is_negative (value_at f.support p *ℤ along f.support a) && h i) (sign (along f.support a)) (pos 0)

-- ---- inside points are in the closed face
not_above : (x : Spot) (es : List Plane) → all_negative es x ≡ true → none_positive es x ≡ true
not_above x [] h = refl
not_above x (e ∷ es) h =
    let p = and_parts (is_negative (value_at e x)) (all_negative es x) h in let n = negative_out (value_at e x) p.0 in
    let a = not_positive_in (value_at e x) (omega (arith, linear, n)) in let b = not_above x es p.1 in λ i. a i && b i

-- an inside point of a face is in the closed face
pub inside_closed : (f : Face) (x : Spot) → is_inside f x ≡ true → is_in_closed f x ≡ true
inside_closed f x h = let p = inside_parts f x h in closed_on f x (positive_in p.0) p.1 ∙ not_above x f.edges p.2
