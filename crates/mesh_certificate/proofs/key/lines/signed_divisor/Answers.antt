use Rattle.std.proofs.Common.{◌∙◌, ap, sym, subst, ⊎_elim, [], ◌∷◌, ℕ, pos, unsigned_abs}
use mir.Syntax.{w128}
use Rattle.ember_algebra.proofs.Exact.{Code, number, kept, stored, ◌⊟◌, ◌&◌, done, exact, no_overflow}
use Rattle.ember_algebra.proofs.Order.{sign_pos, sign_neg}
use Rattle.ember_algebra.proofs.Size.{fits_small}
use Rattle.ember_algebra.proofs.Vectors.{same_v}
use Rattle.mesh_certificate.specs.Key.Divisors.{IsGreatestDivisor}
use Rattle.mesh_certificate.specs.Key.LineKeys.{coordinates}
use Rattle.mesh_certificate.proofs.LineLaws.{divisor_nonzero, divisor_small}
use Rattle.mesh_certificate.proofs.Quotients.{minus_size, minus_zero, minus_negative, plus_positive, plus_zero}
use Rattle.mesh_certificate.proofs.Signs.{backward_is_minus_one, forward_or_zero}
use Rattle.mesh_certificate.proofs.key.lines.signed_divisor.Goals as goal

abbrev code : Code
code = number (pos 0) ⊟ kept 0

pub overflow_cast-divisor : goal.overflow_cast-divisor
overflow_cast-divisor c =
    fits_small w128 (divisor_small c.args.line.now c.requires.direction _ c.requires.sized c.divisor_of_line-divisor.ensures.divides) tt

pub overflow_sub-result : goal.overflow_sub-result
overflow_sub-result c =
    no_overflow (divisor_small c.args.line.now c.requires.direction _ c.requires.sized c.divisor_of_line-divisor.ensures.divides & done) w128 code tt

pub returns-then-is_backward : goal.returns-then-is_backward
returns-then-is_backward c =
    let l = c.args.line.now in let i = c.divisor_of_line-divisor.ensures in let g = c.divisor_of_line-divisor.result in
    let n = divisor_nonzero l c.requires.direction i.divides.0 i.divides.1.0 i.divides.1.1.0 in
    let e = exact (divisor_small l c.requires.direction g c.requires.sized i.divides & done) (stored w128 code) tt in
    let b = backward_is_minus_one (l.dx ∷ l.dy ∷ l.dz ∷ []) (sym c.is_backward.ensures ∙ c.if-is_backward.true) in
    record {
      divisor = subst (λ (n : ℕ). IsGreatestDivisor (coordinates l) n) (sym (minus_size g _ e)) i;
      nonzero =
          λ z. n (minus_zero g _ e z);
      sign = sign_neg (minus_negative g _ e n) ∙ sym b;
    }

pub returns-else-is_backward : goal.returns-else-is_backward
returns-else-is_backward c =
    let l = c.args.line.now in let i = c.divisor_of_line-divisor.ensures in let g = c.divisor_of_line-divisor.result in
    let n = divisor_nonzero l c.requires.direction i.divides.0 i.divides.1.0 i.divides.1.1.0 in
    let e = exact (divisor_small l c.requires.direction g c.requires.sized i.divides & done) (kept 0) tt in
    let b = forward_or_zero (l.dx ∷ l.dy ∷ l.dz ∷ []) (sym c.is_backward.ensures ∙ c.if-is_backward.false) in
    record {
      divisor = subst (λ (n : ℕ). IsGreatestDivisor (coordinates l) n) (sym (ap unsigned_abs e)) i;
      nonzero =
          λ z. n (plus_zero g _ e z);
      sign = sign_pos (plus_positive g _ e n)
          ∙ ⊎_elim (λ f. sym f) (λ z. absurd (c.requires.direction (same_v z.0 z.1.0 z.1.1.0))) b;
    }
