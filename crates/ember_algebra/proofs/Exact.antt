-- Signed code that does not overflow gives the integer that its formula means.
use Rattle.std.proofs.Common.{◌≡◌, ℕ, zero, suc, ◌+◌, ◌*◌, ◌^◌, refl, sym, ap, ◌∙◌, subst, arith, Bool, true, false, T}
use Rattle.std.proofs.Common.{ltb, leb, leb→le, List, [], ◌∷◌, ℤ, pos, ◌+ℤ◌, ◌-ℤ◌, ◌*ℤ◌, neg_ℤ, unsigned_abs, SFits}
use Rattle.std.proofs.Common.{to_z, of_z, to_z-of_z, le_refl}
use mir.Syntax.{Width, w64, w128}
use mir.Val.{hbits}
use Rattle.ember_algebra.specs.Size.{Small}
use Rattle.ember_algebra.proofs.Size.{small_within, small_mul, small_add, small_sub, small_neg, fits_small, same_add, same_sub, same_mul}
use Rattle.ember_algebra.proofs.Ring.{at}

-- what a goal says of code: each operation's result is stored at a width, and read again
infixl 6 ◌⊞◌ ◌⊟◌
infixl 7 ◌⊠◌
pub data Code : Type 0 where
  input : ℕ → Code
  number : ℤ → Code
  ◌⊞◌ : Code → Code → Code
  ◌⊟◌ : Code → Code → Code
  ◌⊠◌ : Code → Code → Code
  minus : Code → Code
  stored : Width → Code → Code

-- the value that the code computes, and the one that its formula means
abbrev pub run : List ℤ → Code → ℤ
run env (input i) = at env i
run env (number z) = z
run env (e ⊞ f) = run env e +ℤ run env f
run env (e ⊟ f) = run env e -ℤ run env f
run env (e ⊠ f) = run env e *ℤ run env f
run env (minus e) = neg_ℤ (run env e)
run env (stored w e) = to_z w (of_z w (run env e))

abbrev pub meant : List ℤ → Code → ℤ
meant env (input i) = at env i
meant env (number z) = z
meant env (e ⊞ f) = meant env e +ℤ meant env f
meant env (e ⊟ f) = meant env e -ℤ meant env f
meant env (e ⊠ f) = meant env e *ℤ meant env f
meant env (minus e) = neg_ℤ (meant env e)
meant env (stored w e) = meant env e

-- a bound on the absolute value, from bounds on the inputs
abbrev pub limit : List ℕ → ℕ → ℕ
limit [] i = 0
limit (m ∷ ms) zero = m
limit (m ∷ ms) (suc i) = limit ms i

abbrev pub bound : List ℕ → Code → ℕ
bound ms (input i) = limit ms i
bound ms (number z) = unsigned_abs z
bound ms (e ⊞ f) = bound ms e + bound ms f
bound ms (e ⊟ f) = bound ms e + bound ms f
bound ms (e ⊠ f) = bound ms e * bound ms f
bound ms (minus e) = bound ms e
bound ms (stored w e) = bound ms e

-- nothing that is stored overflows
abbrev pub both : Bool → Bool → Bool
both true b = b
both false b = false

abbrev pub fit : List ℕ → Code → Bool
fit ms (input i) = true
fit ms (number z) = true
fit ms (e ⊞ f) = both (fit ms e) (fit ms f)
fit ms (e ⊟ f) = both (fit ms e) (fit ms f)
fit ms (e ⊠ f) = both (fit ms e) (fit ms f)
fit ms (minus e) = fit ms e
fit ms (stored w e) = both (ltb (bound ms e) (2 ^ hbits w)) (fit ms e)

-- the inputs of a piece of code, with a bound on each: `f & g & done`, by the facts that bound them
infixr 5 ◌&◌
pub data Inputs : List ℕ → List ℤ → Type 0 where
  done : Inputs [] []
  ◌&◌ : {m : ℕ} {x : ℤ} {ms : List ℕ} {env : List ℤ} → Small m x → Inputs ms env → Inputs (m ∷ ms) (x ∷ env)

both_out : (a b : Bool) → T (both a b) → T a × T b
both_out true b t = (tt, t)
both_out false b t = absurd t

-- 0 is small
pub small_zero : (m : ℕ) → Small m (pos 0)
small_zero m = record { small = omega arith }

small_at : {ms : List ℕ} {env : List ℤ} → Inputs ms env → (i : ℕ) → Small (limit ms i) (at env i)
small_at done i = small_zero 0
small_at (p & ps) zero = p
small_at (p & ps) (suc i) = small_at ps i

sound : (ms : List ℕ) (env : List ℤ) → ((i : ℕ) → Small (limit ms i) (at env i)) → (e : Code) → T (fit ms e) →
    (run env e ≡ meant env e) × Small (bound ms e) (meant env e)
sound ms env a (input i) t = (refl, a i)
sound ms env a (number z) t = (refl, record { small = le_refl (unsigned_abs z) })
sound ms env a (e ⊞ f) t =
    let b = both_out (fit ms e) (fit ms f) t in let p = sound ms env a e b.0 in let q = sound ms env a f b.1 in
    (same_add p.0 q.0, small_add p.1 q.1)
sound ms env a (e ⊟ f) t =
    let b = both_out (fit ms e) (fit ms f) t in let p = sound ms env a e b.0 in let q = sound ms env a f b.1 in
    (same_sub p.0 q.0, small_sub p.1 q.1)
sound ms env a (e ⊠ f) t =
    let b = both_out (fit ms e) (fit ms f) t in let p = sound ms env a e b.0 in let q = sound ms env a f b.1 in
    (same_mul p.0 q.0, small_mul p.1 q.1)
sound ms env a (minus e) t = let p = sound ms env a e t in (ap neg_ℤ p.0, small_neg p.1)
sound ms env a (stored w e) t =
    let b = both_out (ltb (bound ms e) (2 ^ hbits w)) (fit ms e) t in let p = sound ms env a e b.1 in
    (to_z-of_z (subst (λ (z : ℤ). SFits w z) (sym p.0) (fits_small w p.1 b.0)) ∙ p.0, p.1)

-- what the code computes is what its formula means; the last argument is `tt`
pub exact : {ms : List ℕ} {env : List ℤ} → Inputs ms env → (e : Code) → T (fit ms e) → run env e ≡ meant env e
exact {ms} {env} a e t = (sound ms env (small_at a) e t).0

-- a bound on it
pub bounded : {ms : List ℕ} {env : List ℤ} → Inputs ms env → (n : ℕ) (e : Code) → T (both (leb (bound ms e) n) (fit ms e)) → Small n (run env e)
bounded {ms} {env} a n e t =
    let b = both_out (leb (bound ms e) n) (fit ms e) t in let p = sound ms env (small_at a) e b.1 in
    small_within (leb→le (bound ms e) n b.0) (subst (λ (z : ℤ). Small (bound ms e) z) (sym p.0) p.1)

-- the code's last operation does not overflow
pub no_overflow : {ms : List ℕ} {env : List ℤ} → Inputs ms env → (w : Width) (e : Code) → T (fit ms (stored w e)) → SFits w (run env e)
no_overflow {ms} {env} a w e t =
    let b = both_out (ltb (bound ms e) (2 ^ hbits w)) (fit ms e) t in let p = sound ms env (small_at a) e b.1 in
    subst (λ (z : ℤ). SFits w z) (sym p.0) (fits_small w p.1 b.0)

-- how a goal shows an integer of 64 bits that is cast to 128, and one of 128 bits that is read
abbrev pub wide : ℕ → Code
wide i = stored w128 (stored w64 (input i))

abbrev pub kept : ℕ → Code
kept i = stored w128 (input i)

-- and one of 64 bits that is passed on
abbrev pub narrow : ℕ → Code
narrow i = stored w64 (input i)
