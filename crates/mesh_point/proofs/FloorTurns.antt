-- The turn of points whose floors clearly turn.
use Rattle.std.proofs.Common.{◌≡◌, Option, Some, None, ℤ, pos, ◌+ℤ◌, ◌-ℤ◌, ◌*ℤ◌, ◌<ℤ◌, sym, subst, arith}
use Rattle.std.specs.Prelude.{IfSome}
use Rattle.ember_algebra.specs.declared.Sign.{Sign}
use Rattle.ember_algebra.specs.declared.Sign.TheVariants.{Neg, Zero, Pos}
use Rattle.ember_algebra.specs.Det.{det3}
use Rattle.ember_algebra.proofs.Laws.{linear}
use Rattle.ember_algebra.proofs.Signs.{sgn_pos, sgn_neg}
use Rattle.mesh_point.specs.declared.plane_point.PlanePoint.{PlanePoint}
use Rattle.mesh_point.specs.FloorTurns.{IsClearTurn}
use Rattle.mesh_point.specs.Turns.{orientation, rows, numbers_of}
use Rattle.mesh_point.proofs.ClearTurns.{det_of, clear_to_left, clear_to_right}

module _ (p q r : PlanePoint) (a b c d : ℤ) (ea : a ≡ q.floor_x -ℤ p.floor_x) (eb : b ≡ q.floor_y -ℤ p.floor_y)
    (ec : c ≡ r.floor_x -ℤ p.floor_x) (ed : d ≡ r.floor_y -ℤ p.floor_y) where
  floor_a : p.floor_x +ℤ a ≡ q.floor_x
  floor_a = omega (arith, linear, ea)

  floor_b : p.floor_y +ℤ b ≡ q.floor_y
  floor_b = omega (arith, linear, eb)

  floor_c : p.floor_x +ℤ c ≡ r.floor_x
  floor_c = omega (arith, linear, ec)

  floor_d : p.floor_y +ℤ d ≡ r.floor_y
  floor_d = omega (arith, linear, ed)

  abbrev det : ℤ
  det = det_of p.floor_x p.floor_y a b c d p.x p.y q.x q.y r.x r.y p.w q.w r.w

  same_det : det ≡ rows (numbers_of p) (numbers_of q) (numbers_of r)
  same_det = λ n.
      det3 (p.floor_x *ℤ p.w +ℤ p.x) (p.floor_y *ℤ p.w +ℤ p.y) p.w (floor_a n *ℤ q.w +ℤ q.x) (floor_b n *ℤ q.w +ℤ q.y) q.w
      (floor_c n *ℤ r.w +ℤ r.x) (floor_d n *ℤ r.w +ℤ r.y) r.w

  -- the points turn as their floors do
  pub turn_by_floors : (o : Option Sign) → IfSome o (λ s. IsClearTurn a b c d s) → IfSome o (λ s. s ≡ orientation p q r)
  turn_by_floors None h = tt
  turn_by_floors (Some Pos) h =
      sym (sgn_pos (subst (λ (z : ℤ). pos 0 <ℤ z) same_det (clear_to_left p.floor_x p.floor_y a b c d p.x p.y q.x q.y r.x r.y p.w q.w
      r.w p.valid.positive q.valid.positive r.valid.positive p.valid.x p.valid.y q.valid.x q.valid.y r.valid.x r.valid.y h)))
  turn_by_floors (Some Neg) h =
      sym (sgn_neg (subst (λ (z : ℤ). z <ℤ pos 0) same_det (clear_to_right p.floor_x p.floor_y a b c d p.x p.y q.x q.y r.x r.y p.w q.w
      r.w p.valid.positive q.valid.positive r.valid.positive p.valid.x p.valid.y q.valid.x q.valid.y r.valid.x r.valid.y h)))
  turn_by_floors (Some Zero) h = absurd h
