use mir.Syntax.{w32, w64}
use Rattle.std.proofs.Common.{◌≡◌, ◌∙◌, sym, subst, arith, true, false, ℤ, pos, ◌-ℤ◌, ◌*ℤ◌, neg_ℤ, ◌<ℤ◌, ◌≤ℤ◌}
use Rattle.ember_algebra.specs.Sign.{is_negative}
use Rattle.ember_algebra.proofs.Laws.{linear}
use Rattle.ember_algebra.proofs.Exact.{Code, input, number, stored, ◌⊟◌, ◌⊠◌, ◌&◌, done, exact, no_overflow}
use Rattle.ember_model.proofs.SignTests.{negative_in, negative_not, less_out, not_less_out}
use Rattle.ember_box.proofs.near_parts.slope_of.Goals as goal

-- the entry times the half
abbrev times : Code
times = stored w64 (stored w64 (input 0) ⊠ stored w64 (stored w32 (input 1)))

minus : (z : ℤ) → pos 0 -ℤ z ≡ neg_ℤ z
minus z = omega (arith, linear)

pub overflow_cast-step : goal.overflow_cast-step
overflow_cast-step c = no_overflow (c.requires.half & done) w64 (stored w32 (input 0)) tt

pub overflow_mul-step : goal.overflow_mul-step
overflow_mul-step c =
    no_overflow (c.requires.n & c.requires.half & done) w64 (stored w64 (input 0) ⊠ stored w64 (stored w32 (input 1))) tt

pub overflow_sub-result : goal.overflow_sub-result
overflow_sub-result c = no_overflow (c.requires.n & c.requires.half & done) w64 (number (pos 0) ⊟ times) tt

pub returns-then-n-lt0 : goal.returns-then-n-lt0
returns-then-n-lt0 c =
    let e = exact (c.requires.n & done) (stored w64 (input 0)) tt in
    let n : is_negative c.args.n ≡ true = negative_in (subst (λ (z : ℤ). z <ℤ pos 0) e (less_out _ (pos 0) c.if-n-lt0.true)) in
    record {
      change_size = rw n (exact (c.requires.n & c.requires.half & done) (stored w64 (number (pos 0) ⊟ times)) tt ∙ minus (c.args.n *ℤ c.args.half));
      falls = sym n;
    }

pub returns-else-n-lt0 : goal.returns-else-n-lt0
returns-else-n-lt0 c =
    let e = exact (c.requires.n & done) (stored w64 (input 0)) tt in
    let n : is_negative c.args.n ≡ false = negative_not c.args.n (subst (λ (z : ℤ). pos 0 ≤ℤ z) e (not_less_out _ (pos 0) c.if-n-lt0.false)) in
    record {
      change_size = rw n (exact (c.requires.n & c.requires.half & done) times tt);
      falls = sym n;
    }
