-- Scenes that are stretched over the broad grid
use Rattle.std.specs.Prelude.{cond, ℤ, pos, neg_ℤ}
use Rattle.std.specs.Ordering.{int_eq}
use Rattle.ember_model.specs.declared.point.Corner.{Corner}
use Rattle.ember_model.specs.declared.tri.Tri.{Tri}

-- 0, 5, 10 and 15 become equidistant
abbrev pub stretched : ℤ → ℤ
stretched x =
    cond (int_eq x (pos 0)) (neg_ℤ (pos 524280))
    (cond (int_eq x (pos 5)) (neg_ℤ (pos 174760)) (cond (int_eq x (pos 10)) (pos 174760) (pos 524280)))

abbrev pub stretched_corner : Corner → Corner
stretched_corner c = record { x = stretched c.x; y = stretched c.y; z = stretched c.z }

abbrev pub stretched_tri : Tri → Tri
stretched_tri t = record { a = stretched_corner t.a; b = stretched_corner t.b; c = stretched_corner t.c; mesh = t.mesh }
