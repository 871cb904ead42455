-- Signs alone: how a ray, and the whole line of the ray, cross a triangle.
use Rattle.std.proofs.Common.{◌≡◌, refl, Bool, true, not, T, ◌&&◌, cond, ℤ, pos, negsuc, zero, suc, ◌+ℤ◌}
use Rattle.ember_algebra.specs.declared.Sign.{Sign}
use Rattle.ember_algebra.specs.declared.Sign.TheVariants.{Neg, Zero, Pos}
use Rattle.ember_algebra.specs.Sign.{sgn, flip, times, number, is_pos, is_neg, is_nil, same_sgn}
use Rattle.ember_algebra.proofs.Quadrant.{crossing}
use Rattle.ember_algebra.proofs.Signs.{◌and◌, ◌⇒◌, use_if, pick, same_z, same_z_out, signs, given, use_given, zero_sum, sum3, level_if_null}
use Rattle.mesh_solid.proofs.Passings.{passing}

-- ---- the ray and its line
-- d is the sign of the determinant of the corners u, v, w as seen from the start of the ray; l, m, n are those of the
-- turns from u to v, from v to w and from w to u about the ray. The sign with which the ray crosses the triangle, or 0
abbrev pub ray_crossing : Sign → Sign → Sign → Sign → ℤ
ray_crossing d l m n =
    pick (is_pos d and (is_pos l and (is_pos m and is_pos n))) (pos 1) +ℤ
    pick (is_neg d and (is_neg l and (is_neg m and is_neg n))) (negsuc 0)

-- the same of the whole line
abbrev pub line_crossing : Sign → Sign → Sign → ℤ
line_crossing l m n =
    pick (is_pos l and (is_pos m and is_pos n)) (pos 1) +ℤ pick (is_neg l and (is_neg m and is_neg n)) (negsuc 0)

-- ---- by the sides
-- a, b, c are the signs of the corners' heights
abbrev pub may_pass : Sign → Sign → Sign → Sign → Sign → Sign → Bool
may_pass a b c l m n =
    not (is_nil a) and (not (is_nil b) and (not (is_nil c) and (zero_sum (times m a) (times n b) (times l c) and
    (level_if_null a b l and (level_if_null b c m and level_if_null c a n)))))

abbrev passed : Sign → Sign → Sign → Sign → Sign → Sign → Bool
passed a b c l m n =
    given (may_pass a b c l m n) (λ e. same_z (passing a b l +ℤ passing b c m +ℤ passing c a n) (line_crossing l m n))

-- the line crosses a triangle as a ray at right angles to it passes the triangle's sides
pub line_passes : (a b c l m n : Sign) → T (may_pass a b c l m n) →
    passing a b l +ℤ passing b c m +ℤ passing c a n ≡ line_crossing l m n
line_passes a b c l m n t =
    same_z_out (passing a b l +ℤ passing b c m +ℤ passing c a n) (line_crossing l m n)
    (use_given (may_pass a b c l m n) (λ e. same_z (passing a b l +ℤ passing b c m +ℤ passing c a n)
    (line_crossing l m n)) (signs 6 passed tt a b c l m n) t)

-- a side without a turn has its ends on one side
pub level_signs : (x y c : ℤ) → (c ≡ pos 0 → sgn x ≡ sgn y) → T (level_if_null (sgn x) (sgn y) (sgn c))
level_signs x y (pos zero) f = rw (f refl) (same_self (sgn y))
  where
    same_self : (s : Sign) → T (same_sgn s s)
    same_self Neg = tt
    same_self Zero = tt
    same_self Pos = tt
level_signs x y (pos (suc n)) f = tt
level_signs x y (negsuc n) f = tt

-- ---- in front of a plane
-- x is the sign of a direction's product with that of the ray. Where the corners lie ahead in the direction, a ray that
-- leads ahead crosses the triangle as its line does, and any other ray doesn't
pub ray_by_direction : (d x l m n : Sign) → T (sum3 m n l (times d x)) → ray_crossing d l m n ≡ pick (is_pos x) (line_crossing l m n)
ray_by_direction d x l m n t =
    same_z_out (ray_crossing d l m n) (pick (is_pos x) (line_crossing l m n))
    (use_if (sum3 m n l (times d x)) (same_z (ray_crossing d l m n) (pick (is_pos x) (line_crossing l m n)))
    (signs 5 (λ d x l m n. sum3 m n l (times d x) ⇒ same_z (ray_crossing d l m n) (pick (is_pos x) (line_crossing l m n)))
    tt d x l m n) t)

-- ---- other forms
-- without an area there is no crossing
pub no_area_no_crossing : (d l m n : Sign) → T (sum3 l m n Zero) → ray_crossing d l m n ≡ pos 0
no_area_no_crossing d l m n t =
    same_z_out (ray_crossing d l m n) (pos 0) (use_if (sum3 l m n Zero) (same_z (ray_crossing d l m n) (pos 0))
    (signs 4 (λ d l m n. sum3 l m n Zero ⇒ same_z (ray_crossing d l m n) (pos 0)) tt d l m n) t)

-- the crossing with a face whose plane has the sign s at the start and n along the ray, and whose sides turn so
pub face_crossing : (s n l m k : Sign) → T (sum3 l m k n) →
    cond (is_neg (times s n) && (is_neg (flip (times n l)) && (is_neg (flip (times n m)) &&
    (is_neg (flip (times n k)) && true)))) (number n) (pos 0) ≡ ray_crossing (flip s) l m k
face_crossing s n l m k t =
    same_z_out _ (ray_crossing (flip s) l m k) (use_if (sum3 l m k n) _ (signs 5 (λ s n l m k. sum3 l m k n ⇒ same_z
    (cond (is_neg (times s n) && (is_neg (flip (times n l)) && (is_neg (flip (times n m)) &&
    (is_neg (flip (times n k)) && true)))) (number n) (pos 0)) (ray_crossing (flip s) l m k)) tt s n l m k) t)

-- the crossing by the sign of the normal's entry, too
pub crossing_by_turns : (d n l m k : Sign) → T (sum3 l m k n) → crossing d n l m k ≡ ray_crossing d l m k
crossing_by_turns d n l m k t =
    same_z_out (crossing d n l m k) (ray_crossing d l m k) (use_if (sum3 l m k n)
    (same_z (crossing d n l m k) (ray_crossing d l m k)) (signs 5
    (λ d n l m k. sum3 l m k n ⇒ same_z (crossing d n l m k) (ray_crossing d l m k)) tt d n l m k) t)
