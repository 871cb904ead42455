-- Signs alone: how a ray passes the way from one corner to another, by the corners' sides of the ray and their turn.
use Rattle.std.proofs.Common.{◌≡◌, refl, sym, ap, ◌∙◌, Bool, true, false, not, ◌&&◌, cond, T, ℤ, pos, negsuc, ◌+ℤ◌, ◌-ℤ◌, ◌*ℤ◌, neg_ℤ}
use Rattle.ember_algebra.specs.declared.Sign.{Sign}
use Rattle.ember_algebra.specs.declared.Sign.TheVariants.{Neg, Zero, Pos}
use Rattle.ember_algebra.specs.Sign.{sgn, flip, times, is_pos, is_neg, is_nil, is_negative}
use Rattle.ember_algebra.proofs.Signs.{◌and◌, pick, same_z, same_z_out, signs, given, use_given, may_sum, zero_sum, sgn-mul}

-- h and k are the signs of the heights of two corners over the ray, l that of their turn as seen from its start.
-- 1 if the ray passes the way from the first to the second and the way leads up, -1 if it leads down
abbrev pub passing : Sign → Sign → Sign → ℤ
passing h k l =
    pick (is_neg h and (is_pos k and is_pos l)) (pos 1) +ℤ pick (is_pos h and (is_neg k and is_neg l)) (negsuc 0)

-- 1 for a corner below the ray
abbrev pub below : Sign → ℤ
below h = pick (is_neg h) (pos 1)

-- ---- the way back
pub passing_back : (h k l : Sign) → passing k h (flip l) ≡ neg_ℤ (passing h k l)
passing_back h k l =
    same_z_out (passing k h (flip l)) (neg_ℤ (passing h k l)) (signs 3 (λ h k l. same_z (passing k h (flip l)) (neg_ℤ (passing h k l))) tt h k l)

-- ---- on a line
-- s says whether the way runs along the line's direction, m how the direction turns as seen from the start of the ray,
-- and t whether it climbs. A ray meets a line that turns and climbs alike, and passes the ways on it that begin below
-- and end above, or the other way round
abbrev on_line_test : Sign → Sign → Sign → Sign → Sign → Bool
on_line_test h k s m t =
    given (not (is_nil h) and (not (is_nil k) and may_sum k (flip h) (times s t)))
    (λ e. same_z (passing h k (times s m)) (pick (is_pos (times m t)) (below h -ℤ below k)))

pub passing_on_line : (h k s m t : Sign) → T (not (is_nil h) and (not (is_nil k) and may_sum k (flip h) (times s t))) →
    passing h k (times s m) ≡ pick (is_pos (times m t)) (below h -ℤ below k)
passing_on_line h k s m t c =
    same_z_out (passing h k (times s m)) (pick (is_pos (times m t)) (below h -ℤ below k))
    (use_given (not (is_nil h) and (not (is_nil k) and may_sum k (flip h) (times s t)))
    (λ e. same_z (passing h k (times s m)) (pick (is_pos (times m t)) (below h -ℤ below k)))
    (signs 5 on_line_test tt h k s m t) c)

-- ---- round a triangle
-- a, b, c are the signs of the heights of its corners, l, m, n those of the turns of its sides
abbrev pub may_triangle : Sign → Sign → Sign → Sign → Sign → Sign → Bool
may_triangle a b c l m n =
    not (is_nil a) and (not (is_nil b) and (not (is_nil c) and
    (not (is_nil l) and (not (is_nil m) and (not (is_nil n) and
    (zero_sum (times m a) (times n b) (times l c) and not (is_neg l and (is_neg m and is_neg n))))))))

abbrev triangle_test : Sign → Sign → Sign → Sign → Sign → Sign → Bool
triangle_test a b c l m n =
    given (may_triangle a b c l m n) (λ e. same_z (passing a b l +ℤ passing b c m +ℤ passing c a n) (pick (is_pos l and (is_pos m and is_pos n)) (pos 1)))

-- a ray passes the sides of a triangle once in sum if its start is to the left of all three, and otherwise not at all
pub passing_triangle : (a b c l m n : Sign) → T (may_triangle a b c l m n) →
    passing a b l +ℤ passing b c m +ℤ passing c a n ≡ pick (is_pos l and (is_pos m and is_pos n)) (pos 1)
passing_triangle a b c l m n t =
    same_z_out (passing a b l +ℤ passing b c m +ℤ passing c a n) (pick (is_pos l and (is_pos m and is_pos n)) (pos 1))
    (use_given (may_triangle a b c l m n) (λ e. same_z (passing a b l +ℤ passing b c m +ℤ passing c a n)
    (pick (is_pos l and (is_pos m and is_pos n)) (pos 1))) (signs 6 triangle_test tt a b c l m n) t)

-- ---- small facts
-- a product with the opposite sign is positive where the product is negative
pub opposite_product : (a b : ℤ) → is_pos (times (flip (sgn a)) (sgn b)) ≡ is_negative (a *ℤ b)
opposite_product a b = by (sgn a) (sgn b) ∙ ap is_neg (sym (sgn-mul a b))
  where
    by : (s t : Sign) → is_pos (times (flip s) t) ≡ is_neg (times s t)
    by Neg Neg = refl
    by Neg Zero = refl
    by Neg Pos = refl
    by Zero t = refl
    by Pos Neg = refl
    by Pos Zero = refl
    by Pos Pos = refl

-- `pick` and `cond` choose alike
pub pick_is_cond : (b : Bool) (z : ℤ) → pick b z ≡ cond b z (pos 0)
pick_is_cond true z = refl
pick_is_cond false z = refl

pub pick_of_three : (a b c : Bool) → pick (a and (b and c)) (pos 1) ≡ cond (a && (b && (c && true))) (pos 1) (pos 0)
pick_of_three true true true = refl
pick_of_three true true false = refl
pick_of_three true false c = refl
pick_of_three false b c = refl
