-- What one region gives at a hit: the value before it less that beyond it.
use Rattle.std.proofs.Common.{◌≡◌, zero, suc, refl, sym, Bool, true, false, cond, ℤ, pos, negsuc, ◌-ℤ◌, neg_ℤ}
use Rattle.std.proofs.lemmas.Bool.{false≢true}
use Rattle.ember_algebra.specs.Sign.{sign, is_positive, is_zero}
use Rattle.ember_meaning.specs.Regions.Meaning.{one_if}
use Rattle.ember_meaning.proofs.HitConditions.{before_hit, after_hit}

-- ---- signs: the written face's amount, from the region's support along the ray and the values on
-- its two sides
-- a is the support's entry along the ray; ahead and back are the values on the side of the normal
-- and on the other
abbrev pub written_amount : ℤ → Bool → ℤ
written_amount a is_flipped = cond is_flipped (neg_ℤ (sign a)) (sign a)

-- if the values on the two sides differ, the change of the value at the hit is the written region's amount
pub written_jump : (a : ℤ) (ahead back : Bool) → is_zero a ≡ false → (ahead ≡ back → ⊥) →
    written_amount a ahead ≡ one_if (before_hit a ahead back) -ℤ one_if (after_hit a ahead back)
written_jump (pos zero) f b z n = absurd (false≢true (sym z))
written_jump (pos (suc m)) true true z n = absurd (n refl)
written_jump (pos (suc m)) true false z n = refl
written_jump (pos (suc m)) false true z n = refl
written_jump (pos (suc m)) false false z n = absurd (n refl)
written_jump (negsuc m) true true z n = absurd (n refl)
written_jump (negsuc m) true false z n = refl
written_jump (negsuc m) false true z n = refl
written_jump (negsuc m) false false z n = absurd (n refl)

-- if they agree, the value doesn't change
pub even_jump : (a : ℤ) (ahead back : Bool) → ahead ≡ back → one_if (before_hit a ahead back) -ℤ one_if (after_hit a ahead back) ≡ pos 0
even_jump a true true e = by (is_positive a)
  where
    by : (c : Bool) → one_if (cond c true true) -ℤ one_if (cond c true true) ≡ pos 0
    by true = refl
    by false = refl
even_jump a true false e = absurd (false≢true (sym e))
even_jump a false true e = absurd (false≢true e)
even_jump a false false e = by (is_positive a)
  where
    by : (c : Bool) → one_if (cond c false false) -ℤ one_if (cond c false false) ≡ pos 0
    by true = refl
    by false = refl
