-- Crossings of rays in a level plane with directed segments
use Rattle.std.specs.Prelude.{ℤ, pos, negsuc, neg_ℤ, ◌+ℤ◌, ◌-ℤ◌, ◌*ℤ◌, Bool, ◌&&◌, if◌then◌else◌}
use Rattle.ember_algebra.specs.Sign.{is_negative, is_positive}
use Rattle.ember_model.specs.declared.point.Spot.{Spot}
use Rattle.ember_slice.specs.Segments.{Directed}

-- the coordinate c, times the weight, is lower at u than at v
abbrev pub gap : (Spot → ℤ) → Spot → Spot → ℤ
gap c u v = v.w *ℤ c u -ℤ u.w *ℤ c v

abbrev pub is_lower : (Spot → ℤ) → Spot → Spot → Bool
is_lower c u v = is_negative (gap c u v)

-- seen from above p lies to the left of the way from u to v if this is positive, to the right if it is negative
abbrev pub orientation : Spot → Spot → Spot → ℤ
orientation u v p =
    u.x *ℤ (v.y *ℤ p.w -ℤ v.w *ℤ p.y) -ℤ u.y *ℤ (v.x *ℤ p.w -ℤ v.w *ℤ p.x) +ℤ u.w *ℤ (v.x *ℤ p.y -ℤ v.y *ℤ p.x)

-- 1 if the segment passes p on p's right upwards in c, -1 if it does so downwards
abbrev pub passing : (Spot → ℤ) → Spot → Directed → ℤ
passing c p s =
    if (is_lower c s.first p && is_lower c p s.last) && is_positive (orientation s.first s.last p) then pos 1
    else (if (is_lower c s.last p && is_lower c p s.first) && is_negative (orientation s.first s.last p)
    then negsuc 0 else pos 0)

-- the signed crossing of the ray from p along x: 1 if y grows from the first end to the last
abbrev pub ray_x : Spot → Directed → ℤ
ray_x p s = passing (λ v. v.y) p s

-- and of the ray along y: 1 if x falls
abbrev pub ray_y : Spot → Directed → ℤ
ray_y p s = passing (λ v. neg_ℤ v.x) p s
