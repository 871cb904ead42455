-- Tests of order, and what the least and the greatest of three numbers say.
use Rattle.std.proofs.Common.{◌≡◌, ◌⊎◌, inl, inr, refl, ap, ◌∙◌, arith, Bool, true, false, ◌&&◌, ◌||◌, cond, ℤ, int_le, int_lt}
use Rattle.std.specs.Int.{int_min, int_max}
use Rattle.std.proofs.lemmas.Bool.{and_parts, and_from}
use borrow.Author.Differences.{ints}
use Rattle.ember_box.specs.declared.aabb.Interval.{Interval}
use Rattle.ember_box.specs.Aabbs.{interval_over, intervals_meet}

-- `&&` is associative
pub and_assoc : (s t u : Bool) → s && t && u ≡ s && (t && u)
and_assoc true t u = refl
and_assoc false t u = refl

-- ---- of three numbers
-- if one of three tests holds, it is the first, the second or the third
pub one_of_three : (s t u : Bool) → s || (t || u) ≡ true → (s ≡ true) ⊎ ((t ≡ true) ⊎ (u ≡ true))
one_of_three true t u e = inl refl
one_of_three false true u e = inr (inl refl)
one_of_three false false u e = inr (inr e)

-- the least is at most h if one of them is
at_most_one : (a b h : ℤ) → int_le (int_min a b) h ≡ (int_le a h || int_le b h)
at_most_one a b h = by (int_lt b a) refl
  where
    left : (s t : Bool) → (t ≡ true → s ≡ true) → s ≡ (s || t)
    left true t f = refl
    left false true f = f refl
    left false false f = refl

    right : (s t : Bool) → (s ≡ true → t ≡ true) → t ≡ (s || t)
    right true t f = f refl
    right false t f = refl

    by : (t : Bool) → int_lt b a ≡ t → int_le (cond t b a) h ≡ (int_le a h || int_le b h)
    by true e = right (int_le a h) (int_le b h) (λ p. grind (arith, ints))
    by false e = left (int_le a h) (int_le b h) (λ p. grind (arith, ints))

at_least_one : (a b l : ℤ) → int_le l (int_max a b) ≡ (int_le l a || int_le l b)
at_least_one a b l = by (int_lt b a) refl
  where
    left : (s t : Bool) → (t ≡ true → s ≡ true) → s ≡ (s || t)
    left true t f = refl
    left false true f = f refl
    left false false f = refl

    right : (s t : Bool) → (s ≡ true → t ≡ true) → t ≡ (s || t)
    right true t f = f refl
    right false t f = refl

    by : (t : Bool) → int_lt b a ≡ t → int_le l (cond t a b) ≡ (int_le l a || int_le l b)
    by true e = left (int_le l a) (int_le l b) (λ p. grind (arith, ints))
    by false e = right (int_le l a) (int_le l b) (λ p. grind (arith, ints))

or_assoc : (s t u : Bool) → s || t || u ≡ s || (t || u)
or_assoc true t u = refl
or_assoc false t u = refl

-- the least of three numbers is at most h exactly if one of them is
pub least_of : (a b c h : ℤ) → int_le (int_min (int_min a b) c) h ≡ int_le a h || (int_le b h || int_le c h)
least_of a b c h =
    at_most_one (int_min a b) c h ∙ ap (λ t. t || int_le c h) (at_most_one a b h) ∙ or_assoc (int_le a h) (int_le b h) (int_le c h)

-- the greatest of three numbers is at least l exactly if one of them is
pub greatest_of : (a b c l : ℤ) → int_le l (int_max (int_max a b) c) ≡ int_le l a || (int_le l b || int_le l c)
greatest_of a b c l =
    at_least_one (int_max a b) c l ∙ ap (λ t. t || int_le l c) (at_least_one a b l) ∙ or_assoc (int_le l a) (int_le l b) (int_le l c)

-- the interval over three numbers meets another one exactly if some number isn't above its end and some isn't below its
-- start
pub reaches_is : (a b c : ℤ) (s : Interval) → intervals_meet (interval_over a b c) s
    ≡ (int_le a s.high || (int_le b s.high || int_le c s.high)) && (int_le s.low a || (int_le s.low b || int_le s.low c))
reaches_is a b c s = λ i. least_of a b c s.high i && greatest_of a b c s.low i

-- ---- tests of several
pub record All3 (s t u : Bool) : Type 0 where
  pub one : s ≡ true
  pub two : t ≡ true
  pub three : u ≡ true

-- the three parts of a conjunction
pub all3 : (s t u : Bool) → s && t && u ≡ true → All3 s t u
all3 s t u e =
    let p = and_parts (s && t) u e in let q = and_parts s t p.0 in
    record { one = q.0; two = q.1; three = p.1 }

-- a conjunction of three true parts
pub from3 : (s t u : Bool) → s ≡ true → t ≡ true → u ≡ true → s && t && u ≡ true
from3 s t u p q r = and_from (s && t) u (and_from s t p q) r
