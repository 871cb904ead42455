-- Identities of vectors and tuples: `identity (vector ∷ vector ∷ []) (λ u v. dotE u v ≈ dotE v u) cancels`.
use Rattle.std.proofs.Common.{◌≡◌, ℕ, ◌+◌, List, [], ◌∷◌, reverse, ℤ, ◌≢◌, arith, pos, ◌*ℤ◌, ◌<ℤ◌}
use Rattle.ember_algebra.specs.Vector.{Vector, Tuple, zero_v, dot}
use Rattle.ember_algebra.proofs.Ring.{Expr, var, ◌⊕◌, ◌⊖◌, ◌⊗◌, Equation, Meaning, cancelled_equation_holds, difference}
use Rattle.ember_algebra.proofs.Ring.{Cancels, cancels, Sum, none, norm, eval, ring}
use Rattle.ember_algebra.proofs.Laws.{linear}
use Rattle.ember_algebra.proofs.Order.{by_sign, square_nonneg, pos_mul, mul_neg_neg}

pub data Shape : Type 0 where
  scalar : Shape
  vector : Shape
  tuple : Shape

pub record VectorE : Type 0 where
  pub x : Expr
  pub y : Expr
  pub z : Expr

pub record TupleE : Type 0 where
  pub x : Expr
  pub y : Expr
  pub z : Expr
  pub w : Expr

abbrev pub Arg : Shape → Type 0
Arg scalar = Expr
Arg vector = VectorE
Arg tuple = TupleE

abbrev pub Value : Shape → Type 0
Value scalar = ℤ
Value vector = Vector
Value tuple = Tuple

abbrev pub arg_at : (s : Shape) → ℕ → Arg s
arg_at scalar i = var i
arg_at vector i = record { x = var i; y = var (i + 1); z = var (i + 2) }
arg_at tuple i = record { x = var i; y = var (i + 1); z = var (i + 2); w = var (i + 3) }

abbrev pub size : Shape → ℕ
size scalar = 1
size vector = 3
size tuple = 4

abbrev pub push : (s : Shape) → Value s → List ℤ → List ℤ
push scalar a env = a ∷ env
push vector v env = v.z ∷ v.y ∷ v.x ∷ env
push tuple v env = v.w ∷ v.z ∷ v.y ∷ v.x ∷ env

abbrev pub Of : List Shape → Type 0
Of [] = Equation
Of (s ∷ ss) = Arg s → Of ss

abbrev pub at_args : (ss : List Shape) → ℕ → Of ss → Equation
at_args [] i q = q
at_args (s ∷ ss) i f = at_args ss (i + size s) (f (arg_at s i))

abbrev pub ForAll : List Shape → List ℤ → Equation → Type 0
ForAll [] env q = Meaning (reverse env) q
ForAll (s ∷ ss) env q = (x : Value s) → ForAll ss (push s x env) q

for_all : (ss : List Shape) (env : List ℤ) (q : Equation) → Cancels (difference q) → ForAll ss env q
for_all [] env q t = cancelled_equation_holds (reverse env) q t
for_all (s ∷ ss) env q t = λ x. for_all ss (push s x env) q t

-- `identity shapes (λ u v. left ≈ right) cancels` proves an identity of numbers and vectors
pub identity : (ss : List Shape) (f : Of ss) → Cancels (difference (at_args ss 0 f)) → ForAll ss [] (at_args ss 0 f)
identity ss f t = for_all ss [] (at_args ss 0 f) t

-- ---- the words of specs/Vector.antt, on expressions
abbrev pub minusE : VectorE → VectorE → VectorE
minusE u v = record { x = u.x ⊖ v.x; y = u.y ⊖ v.y; z = u.z ⊖ v.z }

abbrev pub plusE : VectorE → VectorE → VectorE
plusE u v = record { x = u.x ⊕ v.x; y = u.y ⊕ v.y; z = u.z ⊕ v.z }

abbrev pub scaleE : Expr → VectorE → VectorE
scaleE k v = record { x = k ⊗ v.x; y = k ⊗ v.y; z = k ⊗ v.z }

abbrev pub dotE : VectorE → VectorE → Expr
dotE u v = u.x ⊗ v.x ⊕ u.y ⊗ v.y ⊕ u.z ⊗ v.z

abbrev pub crossE : VectorE → VectorE → VectorE
crossE u v =
    record { x = u.y ⊗ v.z ⊖ u.z ⊗ v.y; y = u.z ⊗ v.x ⊖ u.x ⊗ v.z; z = u.x ⊗ v.y ⊖ u.y ⊗ v.x }

abbrev pub detE : VectorE → VectorE → VectorE → Expr
detE u v w = dotE u (crossE v w)

abbrev pub valueE : TupleE → TupleE → Expr
valueE p v = p.x ⊗ v.x ⊕ p.y ⊗ v.y ⊕ p.z ⊗ v.z ⊖ p.w ⊗ v.w

abbrev pub normalE : VectorE → VectorE → VectorE → VectorE
normalE u v w = plusE (plusE (crossE u v) (crossE v w)) (crossE w u)

abbrev pub vector_partE : TupleE → VectorE
vector_partE v = record { x = v.x; y = v.y; z = v.z }

-- ---- vectors are equal entry by entry
-- vectors with equal coordinates are equal
pub same_v : {u v : Vector} → u.x ≡ v.x → u.y ≡ v.y → u.z ≡ v.z → u ≡ v
same_v {u} {v} p q r = λ i. record { x = p i; y = q i; z = r i }

-- ---- identities between vectors: `vector_identity (vector ∷ vector ∷ []) (λ u v. crossE u v ≈v crossE (minusE u v) v) cancels_v`
infix 4 ◌≈v◌
pub data EquationV : Type 0 where
  ◌≈v◌ : VectorE → VectorE → EquationV

abbrev pub eval_v : List ℤ → VectorE → Vector
eval_v env u = record { x = eval env u.x; y = eval env u.y; z = eval env u.z }

abbrev pub MeaningV : List ℤ → EquationV → Type 0
MeaningV env (u ≈v v) = eval_v env u ≡ eval_v env v

-- what is left of the differences of the entries
pub data CancelsV : Sum → Sum → Sum → Type 0 where
  cancels_v : CancelsV none none none

abbrev pub VectorCancels : EquationV → Type 0
VectorCancels (u ≈v v) = CancelsV (norm (u.x ⊖ v.x)) (norm (u.y ⊖ v.y)) (norm (u.z ⊖ v.z))

abbrev pub OfV : List Shape → Type 0
OfV [] = EquationV
OfV (s ∷ ss) = Arg s → OfV ss

abbrev pub at_args_v : (ss : List Shape) → ℕ → OfV ss → EquationV
at_args_v [] i q = q
at_args_v (s ∷ ss) i f = at_args_v ss (i + size s) (f (arg_at s i))

abbrev pub ForAllV : List Shape → List ℤ → EquationV → Type 0
ForAllV [] env q = MeaningV (reverse env) q
ForAllV (s ∷ ss) env q = (x : Value s) → ForAllV ss (push s x env) q

entries_cancel : {a b c : Sum} → CancelsV a b c → Cancels a × Cancels b × Cancels c
entries_cancel cancels_v = (cancels, cancels, cancels)

meant_v : (env : List ℤ) (q : EquationV) → VectorCancels q → MeaningV env q
meant_v env (u ≈v v) t =
    let c = entries_cancel t in same_v (ring env u.x v.x c.0) (ring env u.y v.y c.1) (ring env u.z v.z c.2)

for_all_v : (ss : List Shape) (env : List ℤ) (q : EquationV) → VectorCancels q → ForAllV ss env q
for_all_v [] env q t = meant_v (reverse env) q t
for_all_v (s ∷ ss) env q t = λ x. for_all_v ss (push s x env) q t

-- the same for an identity whose two sides are vectors
pub vector_identity : (ss : List Shape) (f : OfV ss) → VectorCancels (at_args_v ss 0 f) → ForAllV ss [] (at_args_v ss 0 f)
vector_identity ss f t = for_all_v ss [] (at_args_v ss 0 f) t

-- the square of a vector that isn't 0
pub square_positive : (v : Vector) → v ≢ zero_v → pos 0 <ℤ dot v v
square_positive v n =
    by_sign v.x
    (λ l. one (pos_mul l l))
    (λ x. by_sign v.y (λ l. two (pos_mul l l))
    (λ y. by_sign v.z (λ l. three (pos_mul l l)) (λ z. absurd (n (same_v x y z)))
    (λ l. three (mul_neg_neg l l))) (λ l. two (mul_neg_neg l l)))
    (λ l. one (mul_neg_neg l l))
  where
    one : pos 0 <ℤ (v.x *ℤ v.x) → pos 0 <ℤ dot v v
    one l = omega (arith, linear, l, square_nonneg v.y, square_nonneg v.z)

    two : pos 0 <ℤ (v.y *ℤ v.y) → pos 0 <ℤ dot v v
    two l = omega (arith, linear, l, square_nonneg v.x, square_nonneg v.z)

    three : pos 0 <ℤ (v.z *ℤ v.z) → pos 0 <ℤ dot v v
    three l = omega (arith, linear, l, square_nonneg v.x, square_nonneg v.y)
