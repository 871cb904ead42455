-- A triangle whose corners move: the change of its crossing is the sum of the crossings of the walls that its sides
-- leave behind, and the wall of a side changes its sign with the side's direction.
use Rattle.std.proofs.Common.{◌≡◌, sym, ap, ◌∙◌, arith, Bool, true, false, ℤ, pos, ◌+ℤ◌, ◌-ℤ◌, neg_ℤ, ◌<ℤ◌}
use Rattle.ember_algebra.specs.Sign.{sgn, is_pos}
use Rattle.ember_algebra.specs.Vector.{Vector, dot}
use Rattle.ember_algebra.proofs.Laws.{linear}
use Rattle.ember_algebra.proofs.Signs.{pick}
use Rattle.ember_model.specs.declared.point.Axis.{Axis}
use Rattle.ember_model.specs.Planes.{unit}
use Rattle.mesh_tolerance.proofs.Sides.{side_passing, seen_crossing, IsGeneralSide, side_passing_back, side_back, line_by_sides, ray_or_line}

-- ---- walls
-- the two triangles between the side from u to v and where it moves, from u' to v'
abbrev pub wall_crossing : Axis → Vector → Vector → Vector → Vector → ℤ
wall_crossing a u u' v v' = seen_crossing a u v v' +ℤ seen_crossing a u v' u'

-- all ways between the four corners are general
pub record IsGeneralWall (a : Axis) (u u' v v' : Vector) : Type 0 where
  pub before : IsGeneralSide a u v
  pub after : IsGeneralSide a u' v'
  pub start : IsGeneralSide a u u'
  pub end : IsGeneralSide a v v'
  pub there : IsGeneralSide a u v'
  pub back : IsGeneralSide a v u'

-- and those of the side the other way round
pub wall_back : (a : Axis) (u u' v v' : Vector) → IsGeneralWall a u u' v v' → IsGeneralWall a v v' u u'
wall_back a u u' v v' h = record {
  before = side_back a u v h.before;
  after = side_back a u' v' h.after;
  start = h.end;
  end = h.start;
  there = h.back;
  back = h.there;
}

-- ---- by numbers
wall_sum : (b : Bool) (f g p q r s t k r' k' : ℤ) → f ≡ pick b (p +ℤ q +ℤ r') → g ≡ pick b (r +ℤ s +ℤ k') →
    r' ≡ neg_ℤ r → s ≡ neg_ℤ t → k' ≡ neg_ℤ k → f +ℤ g ≡ pick b ((p -ℤ t) +ℤ (q -ℤ k))
wall_sum true f g p q r s t k r' k' ef eg er es ek = omega (arith, linear, ef, eg, er, es, ek)
wall_sum false f g p q r s t k r' k' ef eg er es ek = omega (arith, linear, ef, eg)

opposite_walls : (b : Bool) (f g p q p' q' k k' : ℤ) → f ≡ pick b ((p -ℤ q) +ℤ (k' -ℤ k)) →
    g ≡ pick b ((p' -ℤ q') +ℤ (k -ℤ k')) → p' ≡ neg_ℤ p → q' ≡ neg_ℤ q → g ≡ neg_ℤ f
opposite_walls true f g p q p' q' k k' ef eg ep eq = omega (arith, linear, ef, eg, ep, eq)
opposite_walls false f g p q p' q' k k' ef eg ep eq = omega (arith, linear, ef, eg)

prism_sum : (b : Bool) (x y f g h p q r p' q' r' i j k : ℤ) → x ≡ pick b (p +ℤ q +ℤ r) → y ≡ pick b (p' +ℤ q' +ℤ r') →
    f ≡ pick b ((p -ℤ p') +ℤ (j -ℤ i)) → g ≡ pick b ((q -ℤ q') +ℤ (k -ℤ j)) → h ≡ pick b ((r -ℤ r') +ℤ (i -ℤ k)) →
    x -ℤ y ≡ f +ℤ g +ℤ h
prism_sum true x y f g h p q r p' q' r' i j k ex ey ef eg eh = omega (arith, linear, ex, ey, ef, eg, eh)
prism_sum false x y f g h p q r p' q' r' i j k ex ey ef eg eh = omega (arith, linear, ex, ey, ef, eg, eh)

-- ---- where all corners lie ahead in one direction
module _ (a : Axis) (d : Vector) where
  abbrev leads : Bool
  leads = is_pos (sgn (dot d (unit a)))

  faced : (u v w : Vector) → pos 0 <ℤ dot d u → pos 0 <ℤ dot d v → pos 0 <ℤ dot d w → IsGeneralSide a u v →
      IsGeneralSide a v w → IsGeneralSide a w u →
      seen_crossing a u v w ≡ pick leads (side_passing a u v +ℤ side_passing a v w +ℤ side_passing a w u)
  faced u v w pu pv pw f s t =
      ray_or_line a d u v w pu pv pw ∙ ap (λ (z : ℤ). pick leads z) (sym (line_by_sides a u v w f s t))

  -- the wall of a side, by the ways between its corners
  wall_is : (u u' v v' : Vector) → pos 0 <ℤ dot d u → pos 0 <ℤ dot d u' → pos 0 <ℤ dot d v → pos 0 <ℤ dot d v' →
      IsGeneralWall a u u' v v' →
      wall_crossing a u u' v v' ≡ pick leads ((side_passing a u v -ℤ side_passing a u' v') +ℤ
      (side_passing a v v' -ℤ side_passing a u u'))
  wall_is u u' v v' pu pu' pv pv' g =
      wall_sum leads (seen_crossing a u v v') (seen_crossing a u v' u') (side_passing a u v) (side_passing a v v')
      (side_passing a u v') (side_passing a v' u') (side_passing a u' v') (side_passing a u u')
      (side_passing a v' u) (side_passing a u' u)
      (faced u v v' pu pv pv' g.before g.end (side_back a u v' g.there))
      (faced u v' u' pu pv' pu' g.there (side_back a u' v' g.after) (side_back a u u' g.start))
      (side_passing_back a u v') (side_passing_back a u' v') (side_passing_back a u u')

  -- the wall of a side changes its sign with the direction
  pub wall_is_odd : (u u' v v' : Vector) → pos 0 <ℤ dot d u → pos 0 <ℤ dot d u' → pos 0 <ℤ dot d v → pos 0 <ℤ dot d v' →
      IsGeneralWall a u u' v v' → wall_crossing a v v' u u' ≡ neg_ℤ (wall_crossing a u u' v v')
  wall_is_odd u u' v v' pu pu' pv pv' g =
      opposite_walls leads (wall_crossing a u u' v v') (wall_crossing a v v' u u') (side_passing a u v)
      (side_passing a u' v') (side_passing a v u) (side_passing a v' u') (side_passing a u u') (side_passing a v v')
      (wall_is u u' v v' pu pu' pv pv' g) (wall_is v v' u u' pv pv' pu pu' (wall_back a u u' v v' g))
      (side_passing_back a u v) (side_passing_back a u' v')

  -- the crossing of a triangle less that of where it moves is that of the walls of its sides
  pub prism_is_closed : (u u' v v' w w' : Vector) → pos 0 <ℤ dot d u → pos 0 <ℤ dot d u' → pos 0 <ℤ dot d v →
      pos 0 <ℤ dot d v' → pos 0 <ℤ dot d w → pos 0 <ℤ dot d w' → IsGeneralWall a u u' v v' →
      IsGeneralWall a v v' w w' → IsGeneralWall a w w' u u' →
      seen_crossing a u v w -ℤ seen_crossing a u' v' w' ≡ wall_crossing a u u' v v' +ℤ wall_crossing a v v' w w' +ℤ
      wall_crossing a w w' u u'
  prism_is_closed u u' v v' w w' pu pu' pv pv' pw pw' f g h =
      prism_sum leads (seen_crossing a u v w) (seen_crossing a u' v' w') (wall_crossing a u u' v v')
      (wall_crossing a v v' w w') (wall_crossing a w w' u u') (side_passing a u v) (side_passing a v w)
      (side_passing a w u) (side_passing a u' v') (side_passing a v' w') (side_passing a w' u') (side_passing a u u')
      (side_passing a v v') (side_passing a w w') (faced u v w pu pv pw f.before g.before h.before)
      (faced u' v' w' pu' pv' pw' f.after g.after h.after) (wall_is u u' v v' pu pu' pv pv' f)
      (wall_is v v' w w' pv pv' pw pw' g) (wall_is w w' u u' pw pw' pu pu' h)
