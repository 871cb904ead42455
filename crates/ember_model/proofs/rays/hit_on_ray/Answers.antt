use mir.Syntax.{w64, w128}
use Rattle.ember_algebra.proofs.Exact.{input, number, stored, ◌⊠◌, ◌⊟◌, ◌&◌, done, exact, bounded, no_overflow}
use Rattle.std.proofs.Common.{◌^◌, ap, sym, ◌∙◌, ℤ, pos, ◌-ℤ◌, ◌*ℤ◌}
use Rattle.ember_algebra.specs.Sign.{sign}
use Rattle.ember_algebra.proofs.Ring.{◌⊖◌, ◌⊗◌, ◌≈◌, num, neg, solve, cancels}
use Rattle.ember_model.proofs.PlaneValues.{size-is}
use Rattle.ember_model.proofs.rays.hit_on_ray.Goals as goal

pub overflow_mul-result : goal.overflow_mul-result
overflow_mul-result c = no_overflow (c.sign_number-s.ensures.small & c.requires.slope & done) w64 (stored w64 (input 0) ⊠ stored w64 (input 1)) tt

pub overflow_cast-result : goal.overflow_cast-result
overflow_cast-result c = no_overflow (c.sign_number-s.ensures.small & done) w128 (stored w64 (input 0)) tt

pub overflow_mul-result-2 : goal.overflow_mul-result-2
overflow_mul-result-2 c = no_overflow (c.sign_number-s.ensures.small & c.requires.front & done) w128
    (stored w128 (stored w64 (input 0)) ⊠ stored w128 (input 1)) tt

pub overflow_sub-result : goal.overflow_sub-result
overflow_sub-result c = no_overflow (c.sign_number-s.ensures.small & c.requires.front & done) w128
    (number (pos 0) ⊟ stored w128 (stored w128 (stored w64 (input 0)) ⊠ stored w128 (input 1))) tt

pub returns-clause-value : goal.returns-clause-value
returns-clause-value c = let s = c.sign_number-s.ensures.value ∙ ap sign (exact (c.requires.slope & done) (stored w64 (input 0)) tt) in
    let k = c.args.slope in let v = c.args.front in
    let f = exact (c.sign_number-s.ensures.small & c.requires.slope & done)
    (stored w64 (stored w64 (input 0) ⊠ stored w64 (input 1))) tt ∙ ap (λ (s : ℤ). s *ℤ k) s ∙ sym (size-is k) in
    let w = exact (c.sign_number-s.ensures.small & c.requires.front & done)
    (stored w128 (number (pos 0) ⊟ stored w128 (stored w128 (stored w64 (input 0)) ⊠ stored w128 (input 1)))) tt
    ∙ ap (λ (s : ℤ). pos 0 -ℤ s *ℤ v) s ∙ solve 2 (λ s v. num (pos 0) ⊖ s ⊗ v ≈ neg (s ⊗ v)) cancels (sign k) v in
    λ i. record { axis = c.args.axis; factor = f i; offset = w i }

pub returns-clause-sized : goal.returns-clause-sized
returns-clause-sized c = record {
  factor = bounded (c.sign_number-s.ensures.small & c.requires.slope & done) 33554431
      (stored w64 (stored w64 (input 0) ⊠ stored w64 (input 1))) tt;
  offset =
      bounded (c.sign_number-s.ensures.small & c.requires.front & done) (2 ^ 80)
      (stored w128 (number (pos 0) ⊟ stored w128 (stored w128 (stored w64 (input 0)) ⊠ stored w128 (input 1)))) tt;
}
