-- Corners move to their floats and decimals by at most the length that is shown.
use Rattle.std.proofs.Common.{◌≡◌, ◌≤◌, ◌<◌, ap, arith, cond, sym, subst, refl, le_refl, get_or, ℕ, zero, suc, ◌+◌, ◌-◌, ◌*◌, ◌^◌, max}
use Rattle.std.proofs.Common.{mul-le-mul, mul-pos, Bool, true, false, Option, Some, None, List, [], ◌∷◌, length, map, slice_get, ℤ, pos, negsuc, ◌*ℤ◌, ◌<ℤ◌, unsigned_abs}
use borrow.Author.Differences.{ints}
use Rattle.std.specs.List.{All, AllByRecursion}
use Rattle.std.proofs.lemmas.List.Elements.{All-head, All-tail}
use Rattle.std.proofs.lemmas.Nat.{pow_pos}
use Rattle.std.proofs.Math.Nat.{le_trans, le-max_left, le-max_right}
use Rattle.ember_algebra.proofs.Order.{pos_mul}
use Rattle.ember_model.specs.declared.plane.Plane.{Plane}
use Rattle.ember_model.specs.declared.point.Axis.TheVariants.{X, Y, Z}
use Rattle.ember_model.specs.declared.point.Spot.{Spot}
use Rattle.ember_model.proofs.Tuples.{same_spot}
use Rattle.mesh_point.specs.declared.space_point.SpacePoint.{SpacePoint}
use Rattle.mesh_certificate.specs.declared.certificate.triangle.Triangle.{Triangle}
use Rattle.mesh_certificate.specs.Certificate.Certificate.{FacesFrontOf, IsProper}
use Rattle.mesh_certificate.specs.Certificate.Facing.{spot_of}
use Rattle.mesh_effect.specs.declared.rounding.tick.Tick.{Tick}
use Rattle.mesh_effect.specs.Rounding.Greatest.{greatest_float_move, greatest_decimal_move}
use Rattle.mesh_effect.specs.Rounding.Floats.{top_place, value_or_zero, float_number}
use Rattle.mesh_effect.specs.Rounding.Maximum.{greatest_of}
use Rattle.mesh_effect.specs.Rounding.Shown.{move_from}
use Rattle.mesh_effect.specs.Rounding.Squares.{float_square, float_squares, decimal_square, triangle_square}
use Rattle.mesh_effect.specs.Rounding.Ticks.{ticks_between, power_tick, decimal_tick}
use Rattle.mesh_effect.proofs.Maxima.{none_is_greater}
use Rattle.mesh_effect.proofs.NotBelow.{ticks_not_below, move_not_below}
use Rattle.mesh_grid.specs.declared.grid.grid.Grid.{Grid}
use Rattle.mesh_grid.specs.declared.snap.offsets.Offset.{Offset}
use Rattle.mesh_grid.specs.declared.snap.steps.GridStep.{GridStep}
use Rattle.mesh_grid.specs.Snap.Steps.{IsStep}
use Rattle.mesh_number.specs.Number.Fractions.{Fraction}
use Rattle.mesh_number.proofs.DigitNumbers.{pow_ten_pos}
use Rattle.mesh_write.specs.declared.stl.triangle.FloatPoint.{FloatPoint}
use Rattle.mesh_write.specs.declared.vertices.point.DecimalPoint.{DecimalPoint}
use Rattle.mesh_write.specs.Vertices.Vertices as vertices
use Rattle.mesh_grid.proofs.StepTexts.{size_of_positive}
use Rattle.mesh_written.specs.Decimals.{decimal_point}
use Rattle.mesh_written.specs.Places.{place_of}
use Rattle.mesh_written.specs.Triangles.{point_at}
use Rattle.mesh_tolerance.specs.Distances.{IsWithin}
use Rattle.mesh_tolerance.specs.Files.{in_unit, point_of, point_of_floats, decimal_of_units, point_of_decimals}
use Rattle.mesh_tolerance.specs.Meshes.{numbers_of, corner_from, corner_at}
use Rattle.mesh_tolerance.specs.Moves.{MovesWithin, CornersMoveWithin}
use Rattle.mesh_tolerance.proofs.AxisTicks.{point_is_within}
use Rattle.mesh_tolerance.proofs.Numbers.{positive, none_is_some}

-- ---- numbers

size_is_positive : (z : ℤ) → pos 0 <ℤ z → 0 < unsigned_abs z
size_is_positive (pos n) p = omega (arith, ints, p)
size_is_positive (negsuc n) p = absurd (omega (arith, ints, p))

-- the denominator of a written float
pub float_denominator : (bits : ℕ) → 0 < (float_number bits).denominator
float_denominator bits = by _ _ _ _ (pow_pos 149) (pow_pos 149)
  where
    by : (b c : Bool) (v w : Fraction) → 0 < v.denominator → 0 < w.denominator →
        0 < (value_or_zero (cond b None (cond c (Some v) (Some w)))).denominator
    by true c v w p q = omega arith
    by false true v w p q = p
    by false false v w p q = q

-- a point whose coordinates are fractions has a weight
pub point_weight : (x y z : Fraction) → 0 < x.denominator → 0 < y.denominator → 0 < z.denominator → pos 0 <ℤ (point_of x y z).w
point_weight x y z p q r = pos_mul (positive p) (pos_mul (positive q) (positive r))

-- ---- one corner
abbrev with_weight : Spot → ℤ → Spot
with_weight u w = record { x = u.x; y = u.y; z = u.z; w = w }

module _ (g : Grid) (step : IsStep g.step) (c : SpacePoint) (tick : Tick) (pn : 0 < tick.numerator)
    (pd : 0 < tick.denominator) (x y z : Fraction) (dx : 0 < x.denominator) (dy : 0 < y.denominator) (dz : 0 < z.denominator) where
  abbrev r : ℕ
  r = ticks_between tick (place_of g.step g.offset X c) x

  abbrev s : ℕ
  s = ticks_between tick (place_of g.step g.offset Y c) y

  abbrev t : ℕ
  t = ticks_between tick (place_of g.step g.offset Z c) z

  under_positive : 0 < g.step.denominator * unsigned_abs c.w
  under_positive = mul-pos step.denominator_positive (size_is_positive c.w c.valid.positive)

  -- it is within the length that is shown for a square that isn't less than its own
  pub corner_is_near : (greatest : ℕ) → r * r + (s * s + t * t) ≤ greatest →
      IsWithin (move_from tick greatest).size (10 ^ (move_from tick greatest).places) (in_unit g (spot_of c)) (point_of x y z)
  corner_is_near greatest h =
      let move = move_from tick greatest in
      let unit = 10 ^ move.places in
      let under = g.step.denominator * unsigned_abs c.w in
      let square = tick.numerator * unit * (tick.numerator * unit) in
      let less : (r * r + (s * s + t * t)) * square ≤ greatest * square = mul-le-mul h (le_refl square) in
      let limit = move_not_below tick greatest pd in
      let there = in_unit g (spot_of c) in
      let weight : pos under ≡ pos g.step.denominator *ℤ c.w =
      ap (λ (w : ℤ). pos g.step.denominator *ℤ w) (size_of_positive c.w c.valid.positive) in
      let same : with_weight there (pos under) ≡ there = same_spot refl refl refl weight in
      subst (λ (u : Spot). IsWithin move.size unit u (point_of x y z)) same
      (point_is_within tick.denominator tick.numerator under move.size unit there.x there.y there.z x y z r s t (positive pd)
      (ticks_not_below tick (place_of g.step g.offset X c) x under_positive dx pn)
      (ticks_not_below tick (place_of g.step g.offset Y c) y under_positive dy pn)
      (ticks_not_below tick (place_of g.step g.offset Z c) z under_positive dz pn) (le_trans less limit))

-- ---- all triangles
-- each corner moves within a length if its square in the table isn't above the greatest one
module _ (g : Grid) (cs : List SpacePoint) (to : ℕ → Spot) (size unit : ℕ) (squares : List ℕ) (greatest : ℕ)
    (one : (n : ℕ) (c : SpacePoint) → slice_get cs n ≡ Some c → get_or squares n 0 ≤ greatest →
    MovesWithin size unit (λ n. in_unit g (corner_at cs n)) to n) where
  found : (t : Triangle) → triangle_square squares t ≤ greatest → (p : Option Plane) (u v w : Option SpacePoint) →
      slice_get cs t.first.start ≡ u → slice_get cs t.second.start ≡ v → slice_get cs t.third.start ≡ w →
      FacesFrontOf p u v w → CornersMoveWithin size unit (λ n. in_unit g (corner_at cs n)) to (numbers_of t)
  found t l (Some p) (Some u) (Some v) (Some w) e f g' front =
      let i = get_or squares t.first.start 0 in let j = get_or squares t.second.start 0 in
      let k = get_or squares t.third.start 0 in
      let h : max (max i j) k ≤ greatest = l in
      let x = le-max_left i j in let y = le-max_right i j in let z = le-max_left (max i j) k in
      let q = le-max_right (max i j) k in
      record {
        a = one t.first.start u e (le_trans x (le_trans z h));
        b = one t.second.start v f (le_trans y (le_trans z h));
        c = one t.third.start w g' (le_trans q h);
      }
  found t l None u v w e f h front = absurd front
  found t l (Some p) None v w e f h front = absurd front
  found t l (Some p) (Some u) None w e f h front = absurd front
  found t l (Some p) (Some u) (Some v) None e f h front = absurd front

  pub triangles_move : (ps : List Plane) (ts : List Triangle) → All (IsProper ps cs) ts →
      All (λ t. triangle_square squares t ≤ greatest) ts →
      AllByRecursion (CornersMoveWithin size unit (λ n. in_unit g (corner_at cs n)) to) (map numbers_of ts)
  triangles_move ps [] proper less = tt
  triangles_move ps (t ∷ ts) proper less =
      let front = (All-head (IsProper ps cs) t ts proper).front in (
        found t (All-head (λ t. triangle_square squares t ≤ greatest) t ts less) (slice_get ps t.first.plane)
            (slice_get cs t.first.start) (slice_get cs t.second.start) (slice_get cs t.third.start) refl refl refl front,
        triangles_move ps ts (All-tail (IsProper ps cs) t ts proper)
            (All-tail (λ t. triangle_square squares t ≤ greatest) t ts less),
      )

-- a corner of the table moves within a length if its point is near
moves_within : (g : Grid) (step : IsStep g.step) (cs : List SpacePoint) (to : ℕ → Spot) (size unit n : ℕ) (c : SpacePoint) →
    slice_get cs n ≡ Some c → pos 0 <ℤ (to n).w → IsWithin size unit (in_unit g (spot_of c)) (to n) →
    MovesWithin size unit (λ n. in_unit g (corner_at cs n)) to n
moves_within g step cs to size unit n c e weight near = record {
  weight = subst (λ (o : Option SpacePoint). pos 0 <ℤ (in_unit g (corner_from o)).w) (sym e)
      (pos_mul (positive step.denominator_positive) c.valid.positive);
  weight_after = weight;
  within = subst (λ (o : Option SpacePoint). IsWithin size unit (in_unit g (corner_from o)) (to n)) (sym e) near;
}

-- ---- floats
squares_at : (tick : Tick) (s : GridStep) (o : Offset) (cs : List SpacePoint) (ps : List FloatPoint) (n : ℕ)
    (c : SpacePoint) → slice_get cs n ≡ Some c → length ps ≡ length cs →
    get_or (float_squares tick s o cs ps) n 0 ≡ float_square tick s o c (point_at ps n)
squares_at tick s o [] ps n c e same = absurd (none_is_some e)
squares_at tick s o (d ∷ cs) [] n c e same = absurd (omega (arith, same))
squares_at tick s o (d ∷ cs) (p ∷ ps) zero c e same =
    let is : d ≡ c = cc in ap (λ (d : SpacePoint). float_square tick s o d p) is
squares_at tick s o (d ∷ cs) (p ∷ ps) (suc n) c e same = squares_at tick s o cs ps n c e (omega (arith, same))

module _ (g : Grid) (step : IsStep g.step) (cs : List SpacePoint) (planes : List Plane) (ts : List Triangle)
    (proper : All (IsProper planes cs) ts) where
  pub floats_move : (ps : List FloatPoint) → length ps ≡ length cs →
      AllByRecursion (CornersMoveWithin (greatest_float_move g.step g.offset cs ps ts).size
      (10 ^ (greatest_float_move g.step g.offset cs ps ts).places) (λ n. in_unit g (corner_at cs n))
      (λ n. point_of_floats (point_at ps n))) (map numbers_of ts)
  unfolding greatest_float_move
  floats_move ps same =
      let top = top_place ps in let tick = power_tick top in
      let squares = float_squares tick g.step g.offset cs ps in
      let greatest = greatest_of (triangle_square squares) ts in let move = move_from tick greatest in
      let to = λ (n : ℕ). point_of_floats (point_at ps n) in
      triangles_move g cs to move.size (10 ^ move.places) squares greatest
      (λ n c e h. let p = point_at ps n in let x = float_denominator p.x in let y = float_denominator p.y in
      let z = float_denominator p.z in let at = squares_at tick g.step g.offset cs ps n c e same in
      moves_within g step cs to move.size (10 ^ move.places) n c e
      (point_weight (float_number p.x) (float_number p.y) (float_number p.z) x y z)
      (corner_is_near g step c tick (pow_pos (top - 211)) (pow_pos (211 - top)) (float_number p.x) (float_number p.y)
      (float_number p.z) x y z greatest (subst (λ (m : ℕ). m ≤ greatest) at h))) planes ts proper
      (none_is_greater (triangle_square squares) ts)

  -- ---- decimals
  pub decimals_move : (places : ℕ) →
      AllByRecursion (CornersMoveWithin (greatest_decimal_move places g.step g.offset cs ts).size
      (10 ^ (greatest_decimal_move places g.step g.offset cs ts).places) (λ n. in_unit g (corner_at cs n))
      (λ n. point_of_decimals places (vertices.point_at (map (decimal_point places g.step g.offset) cs) n)))
      (map numbers_of ts)
  unfolding greatest_decimal_move
  decimals_move places =
      let tick = decimal_tick places in let point = decimal_point places g.step g.offset in
      let squares = map (decimal_square places g.step g.offset) cs in
      let greatest = greatest_of (triangle_square squares) ts in let move = move_from tick greatest in
      let to = λ (n : ℕ). point_of_decimals places (vertices.point_at (map point cs) n) in
      let ten = pow_ten_pos places in
      triangles_move g cs to move.size (10 ^ move.places) squares greatest
      (λ n c e h. let p = vertices.point_at (map point cs) n in let is = decimal_at cs n c e in
      let at = decimal_square_at cs n c e in
      moves_within g step cs to move.size (10 ^ move.places) n c e
      (point_weight (decimal_of_units places p.x) (decimal_of_units places p.y) (decimal_of_units places p.z) ten ten ten)
      (subst (λ (q : DecimalPoint). IsWithin move.size (10 ^ move.places) (in_unit g (spot_of c))
      (point_of_decimals places q)) (sym is)
      (corner_is_near g step c tick (omega arith) (mul-pos (pow_pos 62) ten) (decimal_of_units places (point c).x)
      (decimal_of_units places (point c).y) (decimal_of_units places (point c).z) ten ten ten greatest
      (subst (λ (m : ℕ). m ≤ greatest) at h)))) planes ts proper (none_is_greater (triangle_square squares) ts)
    where
      decimal_at : (cs : List SpacePoint) (n : ℕ) (c : SpacePoint) → slice_get cs n ≡ Some c →
          vertices.point_at (map (decimal_point places g.step g.offset) cs) n ≡ decimal_point places g.step g.offset c
      decimal_at [] n c e = absurd (none_is_some e)
      decimal_at (d ∷ cs) zero c e =
          let is : d ≡ c = cc in ap (decimal_point places g.step g.offset) is
      decimal_at (d ∷ cs) (suc n) c e = decimal_at cs n c e

      decimal_square_at : (cs : List SpacePoint) (n : ℕ) (c : SpacePoint) → slice_get cs n ≡ Some c →
          get_or (map (decimal_square places g.step g.offset) cs) n 0 ≡ decimal_square places g.step g.offset c
      decimal_square_at [] n c e = absurd (none_is_some e)
      decimal_square_at (d ∷ cs) zero c e =
          let is : d ≡ c = cc in ap (decimal_square places g.step g.offset) is
      decimal_square_at (d ∷ cs) (suc n) c e = decimal_square_at cs n c e
