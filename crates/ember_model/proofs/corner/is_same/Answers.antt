use mir.Syntax.{w32}
use Rattle.std.proofs.Common.{◌≡◌, ⊎_elim, sym, ap, ◌∙◌, arith, eqb, ℤ, pos, ◌-ℤ◌, SFits, to_z, of_z, to_z-of_z}
use Rattle.std.proofs.lemmas.Bool.{cases_Bool, eqb-true, eqb-false, false_from_ne_true}
use Rattle.ember_algebra.specs.Sign.{is_zero}
use Rattle.ember_algebra.proofs.Laws.{linear}
use Rattle.ember_model.proofs.SignTests.{zero_in, zero_out}
use Rattle.ember_model.proofs.corner.is_same.Goals as goal

-- numbers are compared as they are stored
same_number : (a b : ℤ) → SFits w32 a → SFits w32 b → eqb (of_z w32 a) (of_z w32 b) ≡ is_zero (a -ℤ b)
same_number a b fa fb =
    ⊎_elim
    (λ e. e ∙ sym (zero_in (let s = same (eqb-true (of_z w32 a) (of_z w32 b) e) in let d : a -ℤ b ≡ pos 0 = omega (arith, linear, s) in d)))
    (λ e. e ∙ sym (false_from_ne_true (is_zero (a -ℤ b)) (λ z. eqb-false (of_z w32 a) (of_z w32 b) e
    (ap (λ (x : ℤ). of_z w32 x) (let d = zero_out (a -ℤ b) z in let s : a ≡ b = omega (arith, linear, d) in s)))))
    (cases_Bool (eqb (of_z w32 a) (of_z w32 b)))
  where
    same : of_z w32 a ≡ of_z w32 b → a ≡ b
    same e = sym (to_z-of_z fa) ∙ ap (to_z w32) e ∙ to_z-of_z fb

pub returns : goal.returns
returns c = same_number c.args.a c.args.b c.ranges.a c.ranges.b
