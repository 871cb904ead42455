-- Two multiples of one oriented plane: rays hit them in one point, and see corners alike from there.
use Rattle.std.proofs.Common.{◌≡◌, refl, sym, ap, ◌∙◌, cond, [], ◌∷◌, ℤ, pos, ◌+ℤ◌, ◌*ℤ◌, neg_ℤ, ◌<ℤ◌}
use Rattle.ember_algebra.specs.Vector.{Vector, cross}
use Rattle.ember_algebra.specs.Sign.{sign, sgn, is_neg, is_negative}
use Rattle.ember_algebra.proofs.Order.{pos_mul, sign_scaled}
use Rattle.ember_algebra.proofs.Ring.{Expr, ◌⊕◌, ◌⊗◌, ◌≈◌, neg, solve, cancels}
use Rattle.ember_algebra.proofs.Vectors.{scalar, vector, tuple, identity, crossE, scaleE, TupleE, detE}
use Rattle.ember_model.specs.declared.plane.Plane.{Plane}
use Rattle.ember_model.specs.declared.point.Spot.{Spot}
use Rattle.ember_model.specs.declared.point.Axis.{Axis}
use Rattle.ember_model.specs.declared.point.Axis.TheVariants.{X, Y, Z}
use Rattle.ember_model.specs.Edges.{normal}
use Rattle.ember_model.specs.Faces.{size, hit}
use Rattle.ember_model.specs.Planes.{value_at, along, times_plane}
use Rattle.ember_model.specs.Points.{scaled}
use Rattle.ember_model.proofs.PlaneValues.{size-is, value_times}
use Rattle.ember_model.proofs.SignTests.{sgn_scaled}
use Rattle.ember_model.proofs.Tuples.{spot_tuple, same_spot}
use Rattle.ember_model.proofs.Displacements.{displacementE}
use Rattle.mesh_certificate.specs.Key.PlaneKeys.{IsSameOriented}
use Rattle.mesh_solid.proofs.Passings.{passing}
use Rattle.mesh_solid.proofs.Seen.{area, height, turn_at, passing_at}

-- ---- what a ray from p along a has to do with the plane
-- 1 if it comes through the plane from behind, -1 if from the front, 0 if it doesn't meet it
abbrev pub front_sign : Plane → Axis → Spot → ℤ
front_sign n a p = cond (is_negative (value_at n p *ℤ along n a)) (sign (along n a)) (pos 0)

-- the direction in the plane that is normal to q
abbrev pub level_with : Plane → Vector → Vector
level_with n q = cross (normal n) q

-- how a ray in the plane from its hit, normal to q, passes the way from u to v
abbrev pub ray_passing : Plane → Axis → Spot → Vector → Spot → Spot → ℤ
ray_passing n a p q u v = passing_at n (level_with n q) (hit n a p) u v

-- ---- a multiple
module _ (k : ℤ) (kp : pos 0 <ℤ k) (n : Plane) (a : Axis) (p : Spot) where
  abbrev m : Plane
  m = times_plane k n

  along_times : (a : Axis) → along (times_plane k n) a ≡ k *ℤ along n a
  along_times X = refl
  along_times Y = refl
  along_times Z = refl

  sign_times : sign (along m a) ≡ sign (along n a)
  sign_times = ap sign (along_times a) ∙ sign_scaled (along n a) kp

  size_times : size (along m a) ≡ k *ℤ size (along n a)
  size_times =
      size-is (along m a) ∙ (let s = sign_times in let e = along_times a in λ i. s i *ℤ e i)
      ∙ solve 3 (λ s k z. s ⊗ (k ⊗ z) ≈ k ⊗ (s ⊗ z)) cancels (sign (along n a)) k (along n a)
      ∙ sym (ap (λ (z : ℤ). k *ℤ z) (size-is (along n a)))

  back_times : neg_ℤ (sign (along m a) *ℤ value_at m p) ≡ k *ℤ neg_ℤ (sign (along n a) *ℤ value_at n p)
  back_times =
      (let s = sign_times in let v = value_times k n p in λ i. neg_ℤ (s i *ℤ v i))
      ∙ solve 3 (λ s k v. neg (s ⊗ (k ⊗ v)) ≈ k ⊗ neg (s ⊗ v)) cancels (sign (along n a)) k (value_at n p)

  plain : (z : ℤ) → size (along m a) *ℤ z ≡ k *ℤ (size (along n a) *ℤ z)
  plain z = ap (λ (s : ℤ). s *ℤ z) size_times ∙ solve 3 (λ k s z. (k ⊗ s) ⊗ z ≈ k ⊗ (s ⊗ z)) cancels k (size (along n a)) z

  moved_times : (z : ℤ) → size (along m a) *ℤ z +ℤ neg_ℤ (sign (along m a) *ℤ value_at m p) ≡ k *ℤ
      (size (along n a) *ℤ z +ℤ neg_ℤ (sign (along n a) *ℤ value_at n p))
  moved_times z =
      (let x = plain z in let y = back_times in λ i. x i +ℤ y i)
      ∙ solve 3 (λ k x y. k ⊗ x ⊕ k ⊗ y ≈ k ⊗ (x ⊕ y)) cancels k (size (along n a) *ℤ z)
      (neg_ℤ (sign (along n a) *ℤ value_at n p))

-- the hit is the same point
pub hit_times : (k : ℤ) → pos 0 <ℤ k → (n : Plane) (a : Axis) (p : Spot) → hit (times_plane k n) a p ≡ scaled k (hit n a p)
hit_times k kp n X p = same_spot (moved_times k kp n X p p.x) (plain k kp n X p p.y) (plain k kp n X p p.z) (plain k kp n X p p.w)
hit_times k kp n Y p = same_spot (plain k kp n Y p p.x) (moved_times k kp n Y p p.y) (plain k kp n Y p p.z) (plain k kp n Y p p.w)
hit_times k kp n Z p = same_spot (plain k kp n Z p p.x) (plain k kp n Z p p.y) (moved_times k kp n Z p p.z) (plain k kp n Z p p.w)

abbrev scaledE : Expr → TupleE → TupleE
scaledE k s = record { x = k ⊗ s.x; y = k ⊗ s.y; z = k ⊗ s.z; w = k ⊗ s.w }

height_times : (k : ℤ) (n : Plane) (q : Vector) (x u : Spot) →
    height (times_plane k n) (level_with (times_plane k n) q) (scaled k x) u ≡ (k *ℤ (k *ℤ k)) *ℤ height n
    (level_with n q) x u
unfolding area
height_times k n q x u =
    identity (scalar ∷ vector ∷ vector ∷ tuple ∷ tuple ∷ [])
    (λ k n q x u. detE (scaleE k n) (crossE (scaleE k n) q) (displacementE (scaledE k x) u) ≈ (k ⊗ (k ⊗ k)) ⊗ detE n
    (crossE n q) (displacementE x u)) cancels k (normal n) q (spot_tuple x) (spot_tuple u)

turn_times : (k : ℤ) (n : Plane) (x u v : Spot) → turn_at (times_plane k n) (scaled k x) u v ≡ (k *ℤ (k *ℤ k)) *ℤ turn_at n x u v
unfolding area
turn_times k n x u v =
    identity (scalar ∷ vector ∷ tuple ∷ tuple ∷ tuple ∷ [])
    (λ k n x u v. detE (scaleE k n) (displacementE (scaledE k x) u) (displacementE (scaledE k x) v) ≈ (k ⊗ (k ⊗ k)) ⊗
    detE n (displacementE x u) (displacementE x v)) cancels k (normal n) (spot_tuple x) (spot_tuple u) (spot_tuple v)

ray_passing_times : (k : ℤ) → pos 0 <ℤ k → (n : Plane) (a : Axis) (p : Spot) (q : Vector) (u v : Spot) →
    ray_passing (times_plane k n) a p q u v ≡ ray_passing n a p q u v
ray_passing_times k kp n a p q u v =
    let m = times_plane k n in let x = hit n a p in let cube = pos_mul kp (pos_mul kp kp) in
    let h = λ (w : Spot). ap sgn (height_times k n q x w) ∙ sgn_scaled (height n (level_with n q) x w) cube in
    let t = ap sgn (turn_times k n x u v) ∙ sgn_scaled (turn_at n x u v) cube in
    ap (λ (y : Spot). passing_at m (level_with m q) y u v) (hit_times k kp n a p) ∙ (let hu = h u in let hv = h v in λ i. passing (hu i) (hv i) (t i))

front_sign_times : (k : ℤ) → pos 0 <ℤ k → (n : Plane) (a : Axis) (p : Spot) → front_sign (times_plane k n) a p ≡ front_sign n a p
front_sign_times k kp n a p =
    let v = value_times k n p in let e = along_times k kp n a p a in
    let c : sgn (value_at (times_plane k n) p *ℤ along (times_plane k n) a) ≡ sgn (value_at n p *ℤ along n a) =
    (λ i. sgn (v i *ℤ e i)) ∙ ap sgn (solve 3 (λ k v a. (k ⊗ v) ⊗ (k ⊗ a) ≈ (k ⊗ k) ⊗ (v ⊗ a)) cancels k
    (value_at n p) (along n a)) ∙ sgn_scaled (value_at n p *ℤ along n a) (pos_mul kp kp) in
    let s = sign_times k kp n a p in λ i. cond (is_neg (c i)) (s i) (pos 0)

-- ---- one oriented plane
pub same_ray_passing : (m n : Plane) → IsSameOriented m n → (a : Axis) (p : Spot) (q : Vector) (u v : Spot) → ray_passing m a p q u v ≡ ray_passing n a p q u v
same_ray_passing m n o a p q u v =
    sym (ray_passing_times o.of_p o.positive_p m a p q u v) ∙ ap (λ (r : Plane). ray_passing r a p q u v) o.same
    ∙ ray_passing_times o.of_q o.positive_q n a p q u v

pub same_front_sign : (m n : Plane) → IsSameOriented m n → (a : Axis) (p : Spot) → front_sign m a p ≡ front_sign n a p
same_front_sign m n o a p =
    sym (front_sign_times o.of_p o.positive_p m a p) ∙ ap (λ (r : Plane). front_sign r a p) o.same ∙ front_sign_times o.of_q o.positive_q n a p
