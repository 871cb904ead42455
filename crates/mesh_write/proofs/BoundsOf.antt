-- The bounds of corners that are gone through triangle by triangle.
use Rattle.std.proofs.Common.{◌≡◌, ◌<◌, List, [], ◌∷◌, length, map, get_or, refl, sym, subst, arith}
use Rattle.std.specs.List.{All, fold}
use Rattle.std.specs.Float.{NotNan}
use Rattle.std.proofs.lemmas.List.Elements.{All-map, All-weaker}
use Rattle.mesh_write.specs.declared.stl.triangle.FloatTriangle.{FloatTriangle}
use Rattle.mesh_write.specs.declared.glb.bounds.FloatCoordinates.{FloatCoordinates}
use Rattle.mesh_write.specs.declared.glb.bounds.Bounds.{Bounds}
use Rattle.mesh_write.specs.Glb.Bounds.{coordinates_of, corners_of, IsFinite, IsLeast, IsGreatest, AreBounds}
use Rattle.mesh_write.specs.Glb.Widened.{lesser, greater, widened}
use Rattle.mesh_write.proofs.Extremes.{finite_is_number, least_from_first, greatest_from_first}

low_x : (b : Bounds) (ts : List FloatTriangle) → (fold widened b ts).low.x ≡ fold lesser b.low.x (map (λ (s : FloatCoordinates). s.x) (corners_of ts))
low_x b [] = refl
low_x b (t ∷ ts) = low_x (widened b t) ts

low_y : (b : Bounds) (ts : List FloatTriangle) → (fold widened b ts).low.y ≡ fold lesser b.low.y (map (λ (s : FloatCoordinates). s.y) (corners_of ts))
low_y b [] = refl
low_y b (t ∷ ts) = low_y (widened b t) ts

low_z : (b : Bounds) (ts : List FloatTriangle) → (fold widened b ts).low.z ≡ fold lesser b.low.z (map (λ (s : FloatCoordinates). s.z) (corners_of ts))
low_z b [] = refl
low_z b (t ∷ ts) = low_z (widened b t) ts

high_x : (b : Bounds) (ts : List FloatTriangle) → (fold widened b ts).high.x ≡ fold greater b.high.x (map (λ (s : FloatCoordinates). s.x) (corners_of ts))
high_x b [] = refl
high_x b (t ∷ ts) = high_x (widened b t) ts

high_y : (b : Bounds) (ts : List FloatTriangle) → (fold widened b ts).high.y ≡ fold greater b.high.y (map (λ (s : FloatCoordinates). s.y) (corners_of ts))
high_y b [] = refl
high_y b (t ∷ ts) = high_y (widened b t) ts

high_z : (b : Bounds) (ts : List FloatTriangle) → (fold widened b ts).high.z ≡ fold greater b.high.z (map (λ (s : FloatCoordinates). s.z) (corners_of ts))
high_z b [] = refl
high_z b (t ∷ ts) = high_z (widened b t) ts

-- ---- the coordinates of finite corners are numbers
module _ (ps : List FloatCoordinates) (h : All IsFinite ps) where
  numbers_x : All NotNan (map (λ (s : FloatCoordinates). s.x) ps)
  numbers_x =
      All-map NotNan (λ (s : FloatCoordinates). s.x) ps (All-weaker IsFinite (λ (s : FloatCoordinates). NotNan s.x) (λ s f. finite_is_number s.x f.x) ps h)

  numbers_y : All NotNan (map (λ (s : FloatCoordinates). s.y) ps)
  numbers_y =
      All-map NotNan (λ (s : FloatCoordinates). s.y) ps (All-weaker IsFinite (λ (s : FloatCoordinates). NotNan s.y) (λ s f. finite_is_number s.y f.y) ps h)

  numbers_z : All NotNan (map (λ (s : FloatCoordinates). s.z) ps)
  numbers_z =
      All-map NotNan (λ (s : FloatCoordinates). s.z) ps (All-weaker IsFinite (λ (s : FloatCoordinates). NotNan s.z) (λ s f. finite_is_number s.z f.z) ps h)

-- the bounds that begin at a point
abbrev pub at_point : FloatCoordinates → Bounds
at_point p = record { low = p; high = p }

-- bounds that begin at the first corner and are widened by each triangle are those of all corners
pub widened_are_bounds : (ts : List FloatTriangle) (d : FloatTriangle) (b : Bounds) → 0 < length ts →
    b ≡ fold widened (at_point (coordinates_of (get_or ts 0 d).a)) ts → All IsFinite (corners_of ts) →
    AreBounds (corners_of ts) b
widened_are_bounds [] d b l e h = absurd (omega (arith, l))
widened_are_bounds (t ∷ ts) d b l e h =
    let all = corners_of (t ∷ ts) in
    let p = coordinates_of t.a in
    let q = coordinates_of t.b in
    let r = coordinates_of t.c in
    let start = at_point p in
    subst (AreBounds all) (sym e) (record {
      low_x = subst (IsLeast (map (λ (s : FloatCoordinates). s.x) all)) (sym (low_x start (t ∷ ts)))
          (least_from_first p.x (q.x ∷ r.x ∷ map (λ (s : FloatCoordinates). s.x) (corners_of ts)) (numbers_x all h));
      low_y = subst (IsLeast (map (λ (s : FloatCoordinates). s.y) all)) (sym (low_y start (t ∷ ts)))
          (least_from_first p.y (q.y ∷ r.y ∷ map (λ (s : FloatCoordinates). s.y) (corners_of ts)) (numbers_y all h));
      low_z = subst (IsLeast (map (λ (s : FloatCoordinates). s.z) all)) (sym (low_z start (t ∷ ts)))
          (least_from_first p.z (q.z ∷ r.z ∷ map (λ (s : FloatCoordinates). s.z) (corners_of ts)) (numbers_z all h));
      high_x = subst (IsGreatest (map (λ (s : FloatCoordinates). s.x) all)) (sym (high_x start (t ∷ ts)))
          (greatest_from_first p.x (q.x ∷ r.x ∷ map (λ (s : FloatCoordinates). s.x) (corners_of ts)) (numbers_x all h));
      high_y = subst (IsGreatest (map (λ (s : FloatCoordinates). s.y) all)) (sym (high_y start (t ∷ ts)))
          (greatest_from_first p.y (q.y ∷ r.y ∷ map (λ (s : FloatCoordinates). s.y) (corners_of ts)) (numbers_y all h));
      high_z = subst (IsGreatest (map (λ (s : FloatCoordinates). s.z) all)) (sym (high_z start (t ∷ ts)))
          (greatest_from_first p.z (q.z ∷ r.z ∷ map (λ (s : FloatCoordinates). s.z) (corners_of ts)) (numbers_z all h));
    })
