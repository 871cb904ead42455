-- Conjunctions, and tests that agree
use Rattle.std.proofs.Common.{◌≡◌, Bool, true, false, ◌&&◌, refl, sym, cond, ℤ, pos, Some}
use Rattle.std.proofs.lemmas.Bool.{false≢true, and_parts}

-- the parts of a conjunction change places
pub and_swapped : (a b : Bool) → a && b ≡ b && a
and_swapped true true = refl
and_swapped true false = refl
and_swapped false true = refl
and_swapped false false = refl

-- a conjunction with a true part is the other part
pub and_with_true : (b t : Bool) → t ≡ true → b ≡ b && t
and_with_true true t e = sym e
and_with_true false t e = refl

-- a test that follows from another adds nothing to it
pub and_implied : (s t : Bool) → (s ≡ true → t ≡ true) → s ≡ s && t
and_implied true t f = sym (f refl)
and_implied false t f = refl

-- two tests that follow from each other are one
pub same_test : (s t : Bool) → (s ≡ true → t ≡ true) → (t ≡ true → s ≡ true) → s ≡ t
same_test true t f g = sym (f refl)
same_test false true f g = g refl
same_test false false f g = refl

-- the first part of a true conjunction is true
pub and_first : (a b : Bool) → a && b ≡ true → a ≡ true
and_first true b e = refl
and_first false b e = absurd (false≢true e)

-- the second part of a true conjunction is true
pub and_second : (a b : Bool) → a && b ≡ true → b ≡ true
and_second true b e = e
and_second false b e = absurd (false≢true e)

-- a condition on a conjunction is two conditions, one in the other
pub cond_and_nested : (m b : Bool) (v : ℤ) → cond (m && b) v (pos 0) ≡ cond b (cond m v (pos 0)) (pos 0)
cond_and_nested true true v = refl
cond_and_nested true false v = refl
cond_and_nested false true v = refl
cond_and_nested false false v = refl

-- three facts
pub record Three (A B C : Type 0) : Type 0 where
  pub a : A
  pub b : B
  pub c : C

-- all parts of a true conjunction of three are true
pub and_three : (x y z : Bool) → x && (y && z) ≡ true → Three (x ≡ true) (y ≡ true) (z ≡ true)
and_three x y z e =
    let p = and_parts x (y && z) e in let q = and_parts y z p.1 in record { a = p.0; b = q.0; c = q.1 }

-- ---- options
-- what two equal options hold is equal
pub same_some : {X : Type 0} {x y : X} → Some x ≡ Some y → x ≡ y
same_some e = cc
