-- Points among the bytes, read again.
use Rattle.std.proofs.Common.{◌≡◌, ℕ, ◌+◌, ◌*◌, List, [], ◌∷◌, ◌++◌, length, flat_map, append_assoc, append-nil, length-append, refl, sym, ap, ◌∙◌, arith}
use Rattle.mesh_read.specs.Stl.Binary.{number_at}
use Rattle.mesh_write.specs.declared.stl.triangle.FloatPoint.{FloatPoint}
use Rattle.mesh_write.specs.declared.stl.triangle.FloatTriangle.{FloatTriangle}
use Rattle.mesh_write.specs.Stl.Written.{number_bytes, point_bytes}
use Rattle.mesh_write.proofs.Positions.{number_behind, number_first}
use Rattle.mesh_write.specs.Glb.ReadBack.{points_at, corner_points, normal_points}
use Rattle.mesh_write.specs.Glb.Written.{corner_bytes, normal_bytes, data_of}

-- a point takes 12 bytes
point_length : (p : FloatPoint) → length (point_bytes p) ≡ 12
unfolding point_bytes number_bytes
point_length p = refl

first_x : (p : FloatPoint) (rest : List ℕ) → number_at (point_bytes p ++ rest) 0 ≡ p.x
unfolding point_bytes number_bytes
first_x p rest = number_first p.x []

first_y : (p : FloatPoint) (rest : List ℕ) → number_at (point_bytes p ++ rest) 4 ≡ p.y
unfolding point_bytes number_bytes
first_y p rest = number_first p.y []

first_z : (p : FloatPoint) (rest : List ℕ) → number_at (point_bytes p ++ rest) 8 ≡ p.z
unfolding point_bytes number_bytes
first_z p rest = number_first p.z []

module _ (p : FloatPoint) (bytes front rest : List ℕ) (at : ℕ) (is : bytes ≡ front ++ (point_bytes p ++ rest)) (size : at ≡ length front) where
  number_there : (k i n : ℕ) → k ≡ at + i → number_at (point_bytes p ++ rest) i ≡ n → number_at bytes k ≡ n
  number_there k i n e here =
      ap (λ (xs : List ℕ). number_at xs k) is ∙ number_behind front (point_bytes p ++ rest) k i (omega (arith, e, size)) ∙ here

  point_there : (q : FloatPoint) → q.x ≡ number_at bytes at → q.y ≡ number_at bytes (at + 4) → q.z ≡ number_at bytes (at + 8) → q ≡ p
  point_there q e f g =
      let x : q.x ≡ p.x = e ∙ number_there at 0 p.x (omega arith) (first_x p rest) in
      let y : q.y ≡ p.y = f ∙ number_there (at + 4) 4 p.y refl (first_y p rest) in
      let z : q.z ≡ p.z = g ∙ number_there (at + 8) 8 p.z refl (first_z p rest) in
      λ i. record { x = x i; y = y i; z = z i }

-- points that are written one behind the other
pub points_read : (ps : List FloatPoint) (bytes front rest : List ℕ) (at : ℕ) →
    bytes ≡ front ++ (flat_map point_bytes ps ++ rest) → at ≡ length front → points_at bytes at (length ps) ≡ ps
points_read [] bytes front rest at is size = refl
points_read (p ∷ ps) bytes front rest at is size =
    let more = flat_map point_bytes ps ++ rest in
    let here : bytes ≡ front ++ (point_bytes p ++ more) =
    is ∙ ap (λ (xs : List ℕ). front ++ xs) (append_assoc (point_bytes p) (flat_map point_bytes ps) rest) in
    let there : bytes ≡ (front ++ point_bytes p) ++ more = here ∙ sym (append_assoc front (point_bytes p) more) in
    let point = point_there p bytes front more at here size
    (record { x = number_at bytes at; y = number_at bytes (at + 4); z = number_at bytes (at + 8) }) refl refl refl in
    let others = points_read ps bytes (front ++ point_bytes p) rest (at + 12) there
    (omega (arith, length-append front (point_bytes p), point_length p, size)) in
    λ i. point i ∷ others i

-- ---- triangles
-- the bytes of corners are those of their points
pub corners_are_points : (ts : List FloatTriangle) → flat_map corner_bytes ts ≡ flat_map point_bytes (corner_points ts)
unfolding corner_bytes
corners_are_points [] = refl
corners_are_points (t ∷ ts) = simp append_assoc (ap (λ (xs : List ℕ). point_bytes t.a ++ (point_bytes t.b ++ (point_bytes t.c ++ xs))) (corners_are_points ts))

-- and those of normals
pub normals_are_points : (ts : List FloatTriangle) → flat_map normal_bytes ts ≡ flat_map point_bytes (normal_points ts)
unfolding normal_bytes
normals_are_points [] = refl
normals_are_points (t ∷ ts) = simp append_assoc (ap
    (λ (xs : List ℕ). point_bytes t.normal ++ (point_bytes t.normal ++ (point_bytes t.normal ++ xs)))
    (normals_are_points ts))

-- there are three corners for each triangle
pub corner_count : (ts : List FloatTriangle) → length (corner_points ts) ≡ 3 * length ts
corner_count [] = refl
corner_count (t ∷ ts) = omega (arith, corner_count ts)

-- and three normals
pub normal_count : (ts : List FloatTriangle) → length (normal_points ts) ≡ 3 * length ts
normal_count [] = refl
normal_count (t ∷ ts) = omega (arith, normal_count ts)

-- a point takes 12 bytes
points_length : (ps : List FloatPoint) → length (flat_map point_bytes ps) ≡ 12 * length ps
points_length [] = refl
points_length (p ∷ ps) =
    omega (arith, length-append (point_bytes p) (flat_map point_bytes ps), point_length p, points_length ps)

-- so the corners of a triangle take 36
pub corners_length : (ts : List FloatTriangle) → length (flat_map corner_bytes ts) ≡ 36 * length ts
corners_length ts =
    omega (arith, ap length (corners_are_points ts), points_length (corner_points ts), corner_count ts)

pub normals_length : (ts : List FloatTriangle) → length (flat_map normal_bytes ts) ≡ 36 * length ts
normals_length ts =
    omega (arith, ap length (normals_are_points ts), points_length (normal_points ts), normal_count ts)

-- and a triangle 72
pub data_length : (ts : List FloatTriangle) → length (data_of ts) ≡ 72 * length ts
data_length ts =
    omega (arith, length-append (flat_map corner_bytes ts) (flat_map normal_bytes ts), corners_length ts, normals_length ts)

-- a reader finds the corners, whatever is behind them
pub corners_before : (ts : List FloatTriangle) (rest : List ℕ) → points_at (flat_map corner_bytes ts ++ rest) 0 (3 * length ts) ≡ corner_points ts
corners_before ts rest =
    let all = flat_map corner_bytes ts ++ rest in
    let is : all ≡ [] ++ (flat_map point_bytes (corner_points ts) ++ rest) = ap (λ (xs : List ℕ). xs ++ rest) (corners_are_points ts) in
    ap (points_at all 0) (sym (corner_count ts)) ∙ points_read (corner_points ts) all [] rest 0 is refl

-- as the normals are
pub corners_read : (ts : List FloatTriangle) → points_at (data_of ts) 0 (3 * length ts) ≡ corner_points ts
corners_read ts = corners_before ts (flat_map normal_bytes ts)

-- or nothing
pub corners_alone : (ts : List FloatTriangle) → points_at (flat_map corner_bytes ts) 0 (3 * length ts) ≡ corner_points ts
corners_alone ts =
    ap (λ (xs : List ℕ). points_at xs 0 (3 * length ts)) (sym (append-nil (flat_map corner_bytes ts))) ∙ corners_before ts []

-- and behind them the normals
pub normals_read : (ts : List FloatTriangle) → points_at (data_of ts) (36 * length ts) (3 * length ts) ≡ normal_points ts
normals_read ts =
    let front = flat_map corner_bytes ts in
    let is : data_of ts ≡ front ++ (flat_map point_bytes (normal_points ts) ++ []) =
    ap (λ (xs : List ℕ). front ++ xs) (normals_are_points ts
    ∙ sym (append-nil (flat_map point_bytes (normal_points ts)))) in
    ap (points_at (data_of ts) (36 * length ts)) (sym (normal_count ts))
    ∙ points_read (normal_points ts) (data_of ts) front [] (36 * length ts) is (sym (corners_length ts))
