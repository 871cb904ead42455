use mir.Syntax.{w32, w64}
use Rattle.std.proofs.Common.{◌≡◌, ℕ, ◌*◌, ℤ, ◌-ℤ◌, [], ◌∷◌, sym, subst, arith}
use Rattle.ember_algebra.specs.Size.{Small}
use Rattle.ember_algebra.proofs.Size.{small_within, small_sub}
use Rattle.ember_algebra.proofs.Exact.{Code, run, input, stored, ◌⊟◌, ◌&◌, done, exact, no_overflow}
use Rattle.ember_model.proofs.vector3.vector_between.Goals as goal

pub overflow_cast-result : goal.overflow_cast-result
overflow_cast-result c = no_overflow (c.requires.to.x & done) w64 (stored w32 (input 0)) tt

pub overflow_cast-result-2 : goal.overflow_cast-result-2
overflow_cast-result-2 c = no_overflow (c.requires.from.x & done) w64 (stored w32 (input 0)) tt

pub overflow_sub-result : goal.overflow_sub-result
overflow_sub-result c = no_overflow (c.requires.to.x & c.requires.from.x & done) w64 (stored w64 (stored w32 (input 0)) ⊟ stored w64 (stored w32 (input 1))) tt

pub overflow_cast-result-3 : goal.overflow_cast-result-3
overflow_cast-result-3 c = no_overflow (c.requires.to.y & done) w64 (stored w32 (input 0)) tt

pub overflow_cast-result-4 : goal.overflow_cast-result-4
overflow_cast-result-4 c = no_overflow (c.requires.from.y & done) w64 (stored w32 (input 0)) tt

pub overflow_sub-result-2 : goal.overflow_sub-result-2
overflow_sub-result-2 c = no_overflow (c.requires.to.y & c.requires.from.y & done) w64
    (stored w64 (stored w32 (input 0)) ⊟ stored w64 (stored w32 (input 1))) tt

pub overflow_cast-result-5 : goal.overflow_cast-result-5
overflow_cast-result-5 c = no_overflow (c.requires.to.z & done) w64 (stored w32 (input 0)) tt

pub overflow_cast-result-6 : goal.overflow_cast-result-6
overflow_cast-result-6 c = no_overflow (c.requires.from.z & done) w64 (stored w32 (input 0)) tt

pub overflow_sub-result-3 : goal.overflow_sub-result-3
overflow_sub-result-3 c = no_overflow (c.requires.to.z & c.requires.from.z & done) w64
    (stored w64 (stored w32 (input 0)) ⊟ stored w64 (stored w32 (input 1))) tt

abbrev code : Code
code = stored w64 (stored w64 (stored w32 (input 0)) ⊟ stored w64 (stored w32 (input 1)))

pub returns-clause-value : goal.returns-clause-value
returns-clause-value c =
    let x = exact (c.requires.to.x & c.requires.from.x & done) code tt in
    let y = exact (c.requires.to.y & c.requires.from.y & done) code tt in
    let z = exact (c.requires.to.z & c.requires.from.z & done) code tt in
    λ i. record { x = x i; y = y i; z = z i }

-- a difference as it is kept
difference_within : {k : ℕ} {a b : ℤ} → run (a ∷ b ∷ []) code ≡ a -ℤ b → Small k a → Small k b → Small (2 * k) (run (a ∷ b ∷ []) code)
difference_within {k} {a} {b} e p q =
    subst (λ (z : ℤ). Small (2 * k) z) (sym e) (small_within (omega arith) (small_sub p q))

pub returns-clause-within : goal.returns-clause-within
returns-clause-within c m p q =
    let r = c.requires in
    record {
      x = difference_within (exact (r.to.x & r.from.x & done) code tt) q.x p.x;
      y = difference_within (exact (r.to.y & r.from.y & done) code tt) q.y p.y;
      z = difference_within (exact (r.to.z & r.from.z & done) code tt) q.z p.z;
    }
