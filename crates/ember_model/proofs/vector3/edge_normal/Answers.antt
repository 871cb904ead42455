use mir.Syntax.{w64}
use Rattle.ember_algebra.proofs.Exact.{input, number, stored, ◌⊠◌, ◌⊟◌, ◌&◌, done, exact, bounded, no_overflow}
use Rattle.std.proofs.Common.{◌≡◌, ap, sym, ◌∙◌, ◌*◌, ℤ, pos, ◌-ℤ◌, ◌*ℤ◌, arith}
use Rattle.ember_algebra.specs.Vector.{Vector, cross, scale_v}
use Rattle.ember_algebra.proofs.Ring.{◌⊖◌, ◌⊗◌, ◌≈◌, num, solve, cancels}
use Rattle.ember_algebra.proofs.Vectors.{same_v}
use Rattle.ember_model.specs.declared.point.Axis.{Axis}
use Rattle.ember_model.specs.declared.point.Axis.TheVariants.{X, Y, Z}
use Rattle.ember_model.specs.Limits.{broad_limit}
use Rattle.ember_model.specs.Planes.{unit}
use Rattle.ember_model.specs.Vectors3.{as_vector}
use Rattle.ember_model.proofs.vector3.edge_normal.Goals as goal

-- the normals of formats, axis by axis
along_x : (s : ℤ) (u : Vector) → record { x = pos 0; y = s *ℤ u.z; z = pos 0 -ℤ s *ℤ u.y } ≡ scale_v s (cross u (unit X))
along_x s u =
    same_v (solve 4 (λ s p q r. num (pos 0) ≈ s ⊗ (q ⊗ num (pos 0) ⊖ r ⊗ num (pos 0))) cancels s u.x u.y u.z)
    (solve 4 (λ s p q r. s ⊗ r ≈ s ⊗ (r ⊗ num (pos 1) ⊖ p ⊗ num (pos 0))) cancels s u.x u.y u.z)
    (solve 4 (λ s p q r. num (pos 0) ⊖ s ⊗ q ≈ s ⊗ (p ⊗ num (pos 0) ⊖ q ⊗ num (pos 1))) cancels s u.x u.y u.z)

along_y : (s : ℤ) (u : Vector) → record { x = pos 0 -ℤ s *ℤ u.z; y = pos 0; z = s *ℤ u.x } ≡ scale_v s (cross u (unit Y))
along_y s u =
    same_v (solve 4 (λ s p q r. num (pos 0) ⊖ s ⊗ r ≈ s ⊗ (q ⊗ num (pos 0) ⊖ r ⊗ num (pos 1))) cancels s u.x u.y u.z)
    (solve 4 (λ s p q r. num (pos 0) ≈ s ⊗ (r ⊗ num (pos 0) ⊖ p ⊗ num (pos 0))) cancels s u.x u.y u.z)
    (solve 4 (λ s p q r. s ⊗ p ≈ s ⊗ (p ⊗ num (pos 1) ⊖ q ⊗ num (pos 0))) cancels s u.x u.y u.z)

along_z : (s : ℤ) (u : Vector) → record { x = s *ℤ u.y; y = pos 0 -ℤ s *ℤ u.x; z = pos 0 } ≡ scale_v s (cross u (unit Z))
along_z s u =
    same_v (solve 4 (λ s p q r. s ⊗ q ≈ s ⊗ (q ⊗ num (pos 1) ⊖ r ⊗ num (pos 0))) cancels s u.x u.y u.z)
    (solve 4 (λ s p q r. num (pos 0) ⊖ s ⊗ p ≈ s ⊗ (r ⊗ num (pos 0) ⊖ p ⊗ num (pos 1))) cancels s u.x u.y u.z)
    (solve 4 (λ s p q r. num (pos 0) ≈ s ⊗ (p ⊗ num (pos 0) ⊖ q ⊗ num (pos 0))) cancels s u.x u.y u.z)

pub overflow_mul-x : goal.overflow_mul-x
overflow_mul-x c = no_overflow (c.requires.s & c.requires.step.x & done) w64 (stored w64 (input 0) ⊠ stored w64 (input 1)) tt

pub overflow_mul-y : goal.overflow_mul-y
overflow_mul-y c = no_overflow (c.requires.s & c.requires.step.y & done) w64 (stored w64 (input 0) ⊠ stored w64 (input 1)) tt

pub overflow_mul-z : goal.overflow_mul-z
overflow_mul-z c = no_overflow (c.requires.s & c.requires.step.z & done) w64 (stored w64 (input 0) ⊠ stored w64 (input 1)) tt

pub overflow_sub-result : goal.overflow_sub-result
overflow_sub-result c = no_overflow (c.requires.s & c.requires.step.y & done) w64 (number (pos 0) ⊟ stored w64 (stored w64 (input 0) ⊠ stored w64 (input 1))) tt

pub overflow_sub-result-in-Y : goal.overflow_sub-result-in-Y
overflow_sub-result-in-Y c = no_overflow (c.requires.s & c.requires.step.z & done) w64
    (number (pos 0) ⊟ stored w64 (stored w64 (input 0) ⊠ stored w64 (input 1))) tt

pub overflow_sub-result-in-Z : goal.overflow_sub-result-in-Z
overflow_sub-result-in-Z c = no_overflow (c.requires.s & c.requires.step.x & done) w64
    (number (pos 0) ⊟ stored w64 (stored w64 (input 0) ⊠ stored w64 (input 1))) tt

pub returns-in-X-clause-value : goal.returns-in-X-clause-value
returns-in-X-clause-value c = let y = exact (c.requires.s & c.requires.step.z & done)
    (stored w64 (stored w64 (input 0) ⊠ stored w64 (input 1))) tt in let z =
    exact (c.requires.s & c.requires.step.y & done)
    (stored w64 (number (pos 0) ⊟ stored w64 (stored w64 (input 0) ⊠ stored w64 (input 1)))) tt in
    (λ i. record { x = pos 0; y = y i; z = z i }) ∙ along_x c.args.s (as_vector c.args.step.now)
    ∙ ap (λ (k : Axis). scale_v c.args.s (cross (as_vector c.args.step.now) (unit k))) (sym c.in-X.is)

pub returns-in-X-clause-small : goal.returns-in-X-clause-small
returns-in-X-clause-small c = record {
  x = record { small = omega arith };
  y =
      bounded (c.requires.s & c.requires.step.z & done) (2 * broad_limit) (stored w64 (stored w64 (input 0) ⊠ stored w64 (input 1))) tt;
  z = bounded (c.requires.s & c.requires.step.y & done) (2 * broad_limit)
      (stored w64 (number (pos 0) ⊟ stored w64 (stored w64 (input 0) ⊠ stored w64 (input 1)))) tt;
}

pub returns-in-Y-clause-value : goal.returns-in-Y-clause-value
returns-in-Y-clause-value c = let x = exact (c.requires.s & c.requires.step.z & done)
    (stored w64 (number (pos 0) ⊟ stored w64 (stored w64 (input 0) ⊠ stored w64 (input 1)))) tt in let z =
    exact (c.requires.s & c.requires.step.x & done) (stored w64 (stored w64 (input 0) ⊠ stored w64 (input 1))) tt in
    (λ i. record { x = x i; y = pos 0; z = z i }) ∙ along_y c.args.s (as_vector c.args.step.now)
    ∙ ap (λ (k : Axis). scale_v c.args.s (cross (as_vector c.args.step.now) (unit k))) (sym c.in-Y.is)

pub returns-in-Y-clause-small : goal.returns-in-Y-clause-small
returns-in-Y-clause-small c = record {
  x = bounded (c.requires.s & c.requires.step.z & done) (2 * broad_limit)
      (stored w64 (number (pos 0) ⊟ stored w64 (stored w64 (input 0) ⊠ stored w64 (input 1)))) tt;
  y =
      record { small = omega arith };
  z = bounded (c.requires.s & c.requires.step.x & done) (2 * broad_limit)
      (stored w64 (stored w64 (input 0) ⊠ stored w64 (input 1))) tt;
}

pub returns-in-Z-clause-value : goal.returns-in-Z-clause-value
returns-in-Z-clause-value c = let x = exact (c.requires.s & c.requires.step.y & done)
    (stored w64 (stored w64 (input 0) ⊠ stored w64 (input 1))) tt in let y =
    exact (c.requires.s & c.requires.step.x & done)
    (stored w64 (number (pos 0) ⊟ stored w64 (stored w64 (input 0) ⊠ stored w64 (input 1)))) tt in
    (λ i. record { x = x i; y = y i; z = pos 0 }) ∙ along_z c.args.s (as_vector c.args.step.now)
    ∙ ap (λ (k : Axis). scale_v c.args.s (cross (as_vector c.args.step.now) (unit k))) (sym c.in-Z.is)

pub returns-in-Z-clause-small : goal.returns-in-Z-clause-small
returns-in-Z-clause-small c = record {
  x = bounded (c.requires.s & c.requires.step.y & done) (2 * broad_limit)
      (stored w64 (stored w64 (input 0) ⊠ stored w64 (input 1))) tt;
  y =
      bounded (c.requires.s & c.requires.step.x & done) (2 * broad_limit)
      (stored w64 (number (pos 0) ⊟ stored w64 (stored w64 (input 0) ⊠ stored w64 (input 1)))) tt;
  z =
      record { small = omega arith };
}
