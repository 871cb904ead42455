-- The steps of a text, from the trillionths of its value.
use Rattle.std.proofs.Common.{◌≡◌, ◌≤◌, ◌<◌, ℕ, true, Option, Some, None, refl, negsuc, List, ◌*◌, ◌-◌, ◌^◌, ◌∙◌, sym, subst, arith, ℤ, pos, ◌*ℤ◌, ◌<ℤ◌}
use borrow.Author.Differences.{ints}
use Rattle.std.specs.Prelude.{IfSome, IfNone}
use Rattle.std.specs.Int.RustNames.{unsigned_abs}
use Rattle.ember_algebra.proofs.Booleans.{same_some}
use Rattle.mesh_number.specs.Number.Fractions.{Fraction, is_below_limit}
use Rattle.mesh_number.specs.Number.Texts.{value_of_text}
use Rattle.mesh_grid.specs.declared.snap.steps.GridStep.{GridStep}
use Rattle.mesh_grid.specs.Snap.Decimals.{IsMultiple, IsStepOfTrillionths, IsStepOf, IsLeastStepOf}
use Rattle.mesh_grid.proofs.DecimalSteps.{trillionths_of_step, step_from_trillionths, step_has_trillionths, step_below_limit, step_positive}

-- a step of the text has the text's value
same_value : (text : List ℕ) (v : Fraction) (s : GridStep) → value_of_text text ≡ Some v → (o : IsStepOf text s) →
    (v.numerator *ℤ pos s.denominator) ≡ pos (s.numerator * v.denominator)
same_value text v s e o =
    subst (λ (w : Fraction). (w.numerator *ℤ pos s.denominator) ≡ pos (s.numerator * w.denominator)) (same_some (sym o.spells ∙ e)) o.same

-- and as many trillionths
in_trillionths : (text : List ℕ) (v : Fraction) (t : ℕ) (s : GridStep) → value_of_text text ≡ Some v → 0 < v.denominator →
    IsMultiple (10 ^ 12) v (pos t) → IsStepOf text s → IsStepOfTrillionths t s
in_trillionths text v t s e p m o =
    record {
      step = o.step;
      same = trillionths_of_step v.numerator (10 ^ 12) v.denominator t s.numerator s.denominator
          (omega arith) p m (same_value text v s e o);
    }

-- a step with as many trillionths is one of the text
of_trillionths : (text : List ℕ) (v : Fraction) (t : ℕ) (s : GridStep) → value_of_text text ≡ Some v →
    IsMultiple (10 ^ 12) v (pos t) → IsStepOfTrillionths t s → IsStepOf text s
of_trillionths text v t s e m o = record {
  step = o.step;
  value = v;
  spells = e;
  same = step_from_trillionths v.numerator (10 ^ 12) v.denominator t s.numerator s.denominator (omega arith) m o.same;
}

-- the least of so many trillionths is the least of the text
least_of_text : (text : List ℕ) (v : Fraction) (t : ℕ) (s : GridStep) → value_of_text text ≡ Some v → 0 < v.denominator →
    IsMultiple (10 ^ 12) v (pos t) → IsStepOfTrillionths t s →
    ((other : GridStep) → IsStepOfTrillionths t other → s.numerator ≤ other.numerator) → IsLeastStepOf text s
least_of_text text v t s e p m o least = record {
  of_text = of_trillionths text v t s e m o;
  least = λ other h. least other (in_trillionths text v t other e p m h);
}

-- the text of a step is a whole number of trillionths, above 0 and below the limit
whole_trillionths : (text : List ℕ) (v : Fraction) (s : GridStep) → value_of_text text ≡ Some v → (o : IsStepOf text s) →
    IsMultiple (10 ^ 12) v (pos (s.numerator * 10 ^ (12 - o.step.places)))
whole_trillionths text v s e o = step_has_trillionths v.numerator v.denominator s o.step (same_value text v s e o)

text_below_limit : (text : List ℕ) (v : Fraction) (s : GridStep) → value_of_text text ≡ Some v → 0 < v.denominator → (o : IsStepOf text s) → is_below_limit v ≡ true
text_below_limit text v s e p o = step_below_limit v s o.step.step p (same_value text v s e o)

pub text_positive : (text : List ℕ) (v : Fraction) (z : ℤ) (s : GridStep) → value_of_text text ≡ Some v →
    0 < v.denominator → IsMultiple (10 ^ 12) v z → (o : IsStepOf text s) → pos 0 <ℤ z
text_positive text v z s e p m o =
    step_positive v.numerator z (10 ^ 12) v.denominator s.numerator s.denominator (omega arith) p o.step.step.numerator_positive m (same_value text v s e o)

-- ---- what may be none
-- the least step of so many trillionths, if there is one
pub least_if_given : (text : List ℕ) (v : Fraction) (z : ℤ) (t : ℕ) (r : Option GridStep) → value_of_text text ≡ Some v →
    0 < v.denominator → IsMultiple (10 ^ 12) v z → pos t ≡ z → IfSome r (IsStepOfTrillionths t) →
    IfSome r (λ step. (other : GridStep) → IsStepOfTrillionths t other → step.numerator ≤ other.numerator) →
    IfSome r (IsLeastStepOf text)
least_if_given text v z t None e p m k o l = tt
least_if_given text v z t (Some s) e p m k o l =
    least_of_text text v t s e p (subst (λ (y : ℤ). IsMultiple (10 ^ 12) v y) (sym k) m) o l

-- no step of so many trillionths
pub no_step_if_none : (text : List ℕ) (v : Fraction) (z : ℤ) (t : ℕ) (r : Option GridStep) → value_of_text text ≡ Some v →
    0 < v.denominator → IsMultiple (10 ^ 12) v z → pos t ≡ z → IfNone r ((step : GridStep) → IsStepOfTrillionths t step → ⊥) →
    IfNone r ((step : GridStep) → IsStepOf text step → ⊥)
no_step_if_none text v z t None e p m k none = λ s o. none s (in_trillionths text v t s e p (subst (λ (y : ℤ). IsMultiple (10 ^ 12) v y) (sym k) m) o)
no_step_if_none text v z t (Some s) e p m k none = tt

-- no whole number of trillionths
pub no_step_if_not_whole : (text : List ℕ) (v : Fraction) (r : Option GridStep) → value_of_text text ≡ Some v →
    0 < v.denominator → ((z : ℤ) → IsMultiple (10 ^ 12) v z → is_below_limit v ≡ true → ⊥) →
    IfNone r ((step : GridStep) → IsStepOf text step → ⊥)
no_step_if_not_whole text v None e p none = λ s o.
    none (pos (s.numerator * 10 ^ (12 - o.step.places))) (whole_trillionths text v s e o) (text_below_limit text v s e p o)
no_step_if_not_whole text v (Some s) e p none = tt

-- the size of a number above 0 is the number
pub size_of_positive : (z : ℤ) → pos 0 <ℤ z → pos (unsigned_abs z) ≡ z
size_of_positive (pos n) p = refl
size_of_positive (negsuc n) p = absurd (omega (arith, ints))
