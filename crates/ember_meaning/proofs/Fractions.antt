-- Fractions are in an order.
use Rattle.std.proofs.Common.{◌≡◌, suc, true, ◌⊎◌, inl, inr, arith, ℤ, pos, ◌*ℤ◌, ◌<ℤ◌, ◌≤ℤ◌}
use Rattle.std.proofs.lemmas.Int.{by_lt_z}
use Rattle.ember_algebra.proofs.Laws.{linear}
use Rattle.ember_algebra.proofs.Order.{mul_lt, mul_le, cancel_lt, cross_trans}
use Rattle.ember_algebra.proofs.Ring.{◌⊗◌, ◌≈◌, solve, cancels}
use Rattle.ember_algebra.proofs.Numbers.{int_lt_in, int_lt_not, int_lt_out, suc_positive}
use Rattle.ember_meaning.proofs.Lines.{IsOrder, Fraction, is_below}

le_self : (a : ℤ) → a ≤ℤ a
le_self a = omega (arith, linear)

-- b/e ≤ a/d and a/d < c/f
cross_le : (a b c : ℤ) {d e f : ℤ} → pos 0 <ℤ d → pos 0 <ℤ e → pos 0 <ℤ f → (b *ℤ d) ≤ℤ (a *ℤ e) → (a *ℤ f) <ℤ (c *ℤ d) → (b *ℤ f) <ℤ (c *ℤ e)
cross_le a b c {d} {e} {f} pd pe pf h k =
    let nf : pos 0 ≤ℤ f = omega (arith, linear) in let x = mul_le nf h in let y = mul_lt pe k in
    cancel_lt pd (omega (
      arith,
      linear,
      x,
      y,
      solve 3 (λ d b f. d ⊗ (b ⊗ f) ≈ f ⊗ (b ⊗ d)) cancels d b f,
      solve 3 (λ f a e. f ⊗ (a ⊗ e) ≈ e ⊗ (a ⊗ f)) cancels f a e,
      solve 3 (λ d c e. e ⊗ (c ⊗ d) ≈ d ⊗ (c ⊗ e)) cancels d c e,
    ))

-- fractions are ordered by `is_below`
pub fractions_order : IsOrder is_below
fractions_order =
    record {
      irreflexive = λ a. int_lt_not _ _ (le_self (a.num *ℤ pos (suc a.den)));
      transitive =
          λ a b c h k. int_lt_in _ _ (cross_trans a.num b.num c.num (suc_positive a.den) (suc_positive b.den) (suc_positive c.den)
          (int_lt_out _ _ h) (int_lt_out _ _ k));
      between = λ a b c h. split a b c (int_lt_out _ _ h);
    }
  where
    split : (a b c : Fraction) → (a.num *ℤ pos (suc c.den)) <ℤ (c.num *ℤ pos (suc a.den)) → (is_below a b ≡ true) ⊎ (is_below b c ≡ true)
    split a b c h =
        by_lt_z (a.num *ℤ pos (suc b.den)) (b.num *ℤ pos (suc a.den)) (λ l. inl (int_lt_in _ _ l))
        (λ l. inr (int_lt_in _ _ (cross_le a.num b.num c.num (suc_positive a.den) (suc_positive b.den) (suc_positive c.den) l h)))
