-- Triangles as they are seen from a point, by vectors to their corners: the crossing with a ray along an axis, and with
-- its line, by the sides.
use Rattle.std.proofs.Common.{◌≡◌, ◌≢◌, sym, ap, subst, ◌∙◌, Bool, T, [], ◌∷◌, ℤ, pos, ◌+ℤ◌, ◌*ℤ◌, neg_ℤ, ◌<ℤ◌}
use lib.IntN.{*ℤ-zero}
use Rattle.ember_algebra.specs.declared.Sign.{Sign}
use Rattle.ember_algebra.specs.Sign.{sgn, times, is_pos}
use Rattle.ember_algebra.specs.Vector.{Vector, dot, cross, det}
use Rattle.ember_algebra.proofs.Ring.{◌⊕◌, ◌⊗◌, ◌≈◌, num, cancels}
use Rattle.ember_algebra.proofs.Signs.{both, pick, not_null, sum3, sum3_from, zero_sum_from, sgn-mul, sgn-neg}
use Rattle.ember_algebra.proofs.Vectors.{vector, identity, dotE, crossE, detE}
use Rattle.ember_model.specs.declared.point.Axis.{Axis}
use Rattle.ember_model.specs.declared.point.Axis.TheVariants.{X, Y, Z}
use Rattle.ember_model.specs.Planes.{unit}
use Rattle.ember_model.proofs.SignTests.{sgn_scaled}
use Rattle.ember_law.proofs.Directions.{turned_dot}
use Rattle.mesh_solid.proofs.Passings.{passing, passing_back}
use Rattle.mesh_tolerance.proofs.Rays.{ray_crossing, line_crossing, line_passes, level_signs, ray_by_direction}

-- ---- words
abbrev pub next : Axis → Axis
next X = Z
next Y = X
next Z = Y

-- a direction at right angles to the axis
abbrev pub upward : Axis → Vector
upward a = cross (unit (next a)) (unit a)

abbrev pub height_of : Axis → Vector → ℤ
height_of a u = dot (upward a) u

-- positive if the way from u to v leads to the left, seen against the axis
abbrev pub turn_of : Axis → Vector → Vector → ℤ
turn_of a u v = dot (unit a) (cross u v)

-- how a ray at right angles to the axis passes the way from u to v
abbrev pub side_passing : Axis → Vector → Vector → ℤ
side_passing a u v = passing (sgn (height_of a u)) (sgn (height_of a v)) (sgn (turn_of a u v))

-- the sign with which the ray along the axis crosses the triangle u, v, w, or 0
abbrev pub seen_crossing : Axis → Vector → Vector → Vector → ℤ
seen_crossing a u v w =
    ray_crossing (sgn (det u v w)) (sgn (turn_of a u v)) (sgn (turn_of a v w)) (sgn (turn_of a w u))

-- the same of the whole line
abbrev pub seen_by_line : Axis → Vector → Vector → Vector → ℤ
seen_by_line a u v w = line_crossing (sgn (turn_of a u v)) (sgn (turn_of a v w)) (sgn (turn_of a w u))

-- the line along the axis meets the way from u to v only if both are on one line along the axis, and neither is level
pub record IsGeneralSide (a : Axis) (u v : Vector) : Type 0 where
  pub first : height_of a u ≢ pos 0
  pub second : height_of a v ≢ pos 0
  pub alike : turn_of a u v ≡ pos 0 → sgn (height_of a u) ≡ sgn (height_of a v)

-- ---- the way back

pub side_passing_back : (a : Axis) (u v : Vector) → side_passing a v u ≡ neg_ℤ (side_passing a u v)
side_passing_back a u v =
    ap (λ (s : Sign). passing (sgn (height_of a v)) (sgn (height_of a u)) s)
    (ap sgn (turned_dot (unit a) u v) ∙ sgn-neg (turn_of a u v))
    ∙ passing_back (sgn (height_of a u)) (sgn (height_of a v)) (sgn (turn_of a u v))

pub side_back : (a : Axis) (u v : Vector) → IsGeneralSide a u v → IsGeneralSide a v u
side_back a u v h = record {
  first = h.second;
  second = h.first;
  alike = λ z. sym (h.alike (turned_dot (unit a) v u ∙ ap neg_ℤ z));
}

-- ---- the line by the sides
upward_across : (a : Axis) → dot (upward a) (unit a) ≡ pos 0
upward_across a =
    identity (vector ∷ vector ∷ []) (λ k e. dotE (crossE k e) e ≈ num (pos 0)) cancels (unit (next a)) (unit a)

heights_balance : (a : Axis) (u v w : Vector) → turn_of a v w *ℤ height_of a u +ℤ turn_of a w u *ℤ height_of a v +ℤ
    turn_of a u v *ℤ height_of a w ≡ pos 0
heights_balance a u v w =
    identity (vector ∷ vector ∷ vector ∷ vector ∷ vector ∷ [])
    (λ h e u v w. dotE e (crossE v w) ⊗ dotE h u ⊕ dotE e (crossE w u) ⊗ dotE h v ⊕ dotE e (crossE u v) ⊗ dotE h w ≈
    detE u v w ⊗ dotE h e) cancels (upward a) (unit a) u v w
    ∙ ap (λ (z : ℤ). det u v w *ℤ z) (upward_across a) ∙ *ℤ-zero (det u v w)

-- the line crosses a triangle as a ray at right angles passes its sides
pub line_by_sides : (a : Axis) (u v w : Vector) → IsGeneralSide a u v → IsGeneralSide a v w → IsGeneralSide a w u →
    side_passing a u v +ℤ side_passing a v w +ℤ side_passing a w u ≡ seen_by_line a u v w
line_by_sides a u v w f s t =
    line_passes (sgn (height_of a u)) (sgn (height_of a v)) (sgn (height_of a w)) (sgn (turn_of a u v))
    (sgn (turn_of a v w)) (sgn (turn_of a w u))
    (both _ _ (not_null (height_of a u) f.first) (both _ _ (not_null (height_of a v) s.first)
    (both _ _ (not_null (height_of a w) t.first)
    (both _ _ (zero_sum_from (turn_of a v w) (height_of a u) (turn_of a w u) (height_of a v) (turn_of a u v)
    (height_of a w) (heights_balance a u v w))
    (both _ _ (level_signs (height_of a u) (height_of a v) (turn_of a u v) f.alike)
    (both _ _ (level_signs (height_of a v) (height_of a w) (turn_of a v w) s.alike)
    (level_signs (height_of a w) (height_of a u) (turn_of a w u) t.alike)))))))

-- ---- the ray by its line
module _ (a : Axis) (d u v w : Vector) (pu : pos 0 <ℤ dot d u) (pv : pos 0 <ℤ dot d v) (pw : pos 0 <ℤ dot d w) where
  -- the ray's direction by those of the corners
  directions_balance : dot d u *ℤ turn_of a v w +ℤ dot d v *ℤ turn_of a w u +ℤ dot d w *ℤ turn_of a u v ≡
      det u v w *ℤ dot d (unit a)
  directions_balance =
      identity (vector ∷ vector ∷ vector ∷ vector ∷ vector ∷ [])
      (λ d e u v w. dotE d u ⊗ dotE e (crossE v w) ⊕ dotE d v ⊗ dotE e (crossE w u) ⊕ dotE d w ⊗ dotE e (crossE u v)
      ≈ detE u v w ⊗ dotE d e) cancels d (unit a) u v w

  fits : T (sum3 (sgn (turn_of a v w)) (sgn (turn_of a w u)) (sgn (turn_of a u v))
      (times (sgn (det u v w)) (sgn (dot d (unit a)))))
  fits =
      let x = sgn_scaled (turn_of a v w) pu in let y = sgn_scaled (turn_of a w u) pv in
      let z = sgn_scaled (turn_of a u v) pw in let t = sgn-mul (det u v w) (dot d (unit a)) in
      subst (λ (b : Bool). T b) (λ i. sum3 (x i) (y i) (z i) (t i))
      (sum3_from (dot d u *ℤ turn_of a v w) (dot d v *ℤ turn_of a w u) (dot d w *ℤ turn_of a u v)
      (det u v w *ℤ dot d (unit a)) directions_balance)

  -- where the corners lie ahead in some direction, the ray crosses the triangle as its line does if it leads ahead, and
  -- otherwise not at all
  pub ray_or_line : seen_crossing a u v w ≡ pick (is_pos (sgn (dot d (unit a)))) (seen_by_line a u v w)
  ray_or_line =
      ray_by_direction (sgn (det u v w)) (sgn (dot d (unit a))) (sgn (turn_of a u v)) (sgn (turn_of a v w))
      (sgn (turn_of a w u)) fits
