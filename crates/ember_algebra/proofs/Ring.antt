-- A decision procedure for identities of commutative rings, over ℤ.
use Rattle.std.proofs.Common.{◌≡◌, ℕ, zero, suc, refl, sym, ap, ◌∙◌, subst, List, [], ◌∷◌, reverse, T, arith, ℤ, pos, negsuc, ◌+ℤ◌, ◌-ℤ◌, ◌*ℤ◌, neg_ℤ, eqb→eq}
use Prim.Native.Nat.{compare, Ordering}
use lib.Dec.{compare_is_eq}
use lib.IntN.{*ℤ_comm, +ℤ_idl, +ℤ_idr, zero-*ℤ, *ℤ-zero}
use Rattle.ember_algebra.proofs.Laws.{*ℤ-+ℤ, +ℤ-*ℤ, *ℤ_assoc, neg-*ℤ, one-*ℤ, linear, same_from_difference}
use Rattle.ember_algebra.proofs.Laws.{*ℤ_left_comm}

infixl 6 ◌⊕◌ ◌⊖◌
infixl 7 ◌⊗◌
pub data Expr : Type 0 where
  var : ℕ → Expr
  num : ℤ → Expr
  ◌⊕◌ : Expr → Expr → Expr
  ◌⊖◌ : Expr → Expr → Expr
  ◌⊗◌ : Expr → Expr → Expr
  neg : Expr → Expr

-- the value of the variable with this index
abbrev pub at : List ℤ → ℕ → ℤ
at [] i = pos 0
at (x ∷ xs) zero = x
at (x ∷ xs) (suc i) = at xs i

-- the value of an expression, if its variables have these values
abbrev pub eval : List ℤ → Expr → ℤ
eval env (var i) = at env i
eval env (num c) = c
eval env (e ⊕ f) = eval env e +ℤ eval env f
eval env (e ⊖ f) = eval env e -ℤ eval env f
eval env (e ⊗ f) = eval env e *ℤ eval env f
eval env (neg e) = neg_ℤ (eval env e)

-- ---- normal forms: a sum of terms, each a coefficient times a sorted list of variables
pub data Sum : Type 0 where
  none : Sum
  term : ℤ → List ℕ → Sum → Sum

abbrev mono : List ℤ → List ℕ → ℤ
mono env [] = pos 1
mono env (i ∷ m) = at env i *ℤ mono env m

abbrev value : List ℤ → Sum → ℤ
value env none = pos 0
value env (term c m s) = c *ℤ mono env m +ℤ value env s

-- the order of the lengths; of lists of one length, the order o
abbrev pub by_length : List ℕ → List ℕ → Ordering → Ordering
by_length [] [] o = o
by_length [] (j ∷ n) o = Ordering.lt
by_length (i ∷ m) [] o = Ordering.gt
by_length (i ∷ m) (j ∷ n) o = by_length m n o

-- monomials by their degree, those of one degree in the order of words: a common factor keeps this order
abbrev pub cmpM : List ℕ → List ℕ → Ordering
cmpM [] [] = Ordering.eq
cmpM [] (j ∷ n) = Ordering.lt
cmpM (i ∷ m) [] = Ordering.gt
cmpM (i ∷ m) (j ∷ n) =
    elim (compare i j) [ Ordering.lt ↦ by_length m n Ordering.lt | Ordering.eq ↦ cmpM m n | Ordering.gt ↦ by_length m n Ordering.gt ]

abbrev pub slide : ℕ → (List ℕ → List ℕ) → List ℕ → List ℕ
slide i k [] = i ∷ k []
slide i k (j ∷ n) =
    elim (compare i j) [ Ordering.lt ↦ i ∷ k (j ∷ n) | Ordering.eq ↦ i ∷ k (j ∷ n) | Ordering.gt ↦ j ∷ slide i k n ]

abbrev pub mulM : List ℕ → List ℕ → List ℕ
mulM [] n = n
mulM (i ∷ m) n = slide i (mulM m) n

abbrev pub put : ℤ → List ℕ → Sum → Sum
put (pos zero) m s = s
put (pos (suc c)) m s = term (pos (suc c)) m s
put (negsuc c) m s = term (negsuc c) m s

abbrev pub place : ℤ → List ℕ → (Sum → Sum) → Sum → Sum
place c m k none = term c m (k none)
place c m k (term d n s) =
    elim (cmpM m n) [ Ordering.lt ↦ term c m (k (term d n s)) | Ordering.eq ↦ put (c +ℤ d) m (k s) | Ordering.gt ↦ term d n (place c m k s) ]

-- the sum of two sums
abbrev pub addS : Sum → Sum → Sum
addS none q = q
addS (term c m p) q = place c m (addS p) q

abbrev pub scale : ℤ → List ℕ → Sum → Sum
scale c m none = none
scale c m (term d n s) = term (c *ℤ d) (mulM m n) (scale c m s)

-- the product of two sums
abbrev pub mulS : Sum → Sum → Sum
mulS none q = none
mulS (term c m p) q = addS (scale c m q) (mulS p q)

-- the negative of a sum
abbrev pub negS : Sum → Sum
negS none = none
negS (term c m s) = term (neg_ℤ c) m (negS s)

-- the normal form of an expression: a sum of monomials
abbrev pub norm : Expr → Sum
norm (var i) = term (pos 1) (i ∷ []) none
norm (num c) = put c [] none
norm (e ⊕ f) = addS (norm e) (norm f)
norm (e ⊖ f) = addS (norm e) (negS (norm f))
norm (e ⊗ f) = mulS (norm e) (norm f)
norm (neg e) = negS (norm e)

-- nothing is left: the error of a wrong identity shows the normal form of the difference
pub data Cancels : Sum → Type 0 where
  cancels : Cancels none

-- ---- soundness
same_length : (m n : List ℕ) (o : Ordering) → by_length m n o ≡ Ordering.eq → o ≡ Ordering.eq
same_length [] [] o e = e
same_length [] (j ∷ n) o e = cc
same_length (i ∷ m) [] o e = cc
same_length (i ∷ m) (j ∷ n) o e = same_length m n o e

same_mono : (m n : List ℕ) → cmpM m n ≡ Ordering.eq → m ≡ n
same_mono [] [] e = refl
same_mono [] (j ∷ n) e = cc
same_mono (i ∷ m) [] e = cc
same_mono (i ∷ m) (j ∷ n) e = by (compare i j) refl (same_mono m n) e
  where
    by : (o : Ordering) → compare i j ≡ o → (cmpM m n ≡ Ordering.eq → m ≡ n) →
        elim o [
          | Ordering.lt ↦ by_length m n Ordering.lt
          | Ordering.eq ↦ cmpM m n
          | Ordering.gt ↦ by_length m n
              Ordering.gt
        ] ≡ Ordering.eq → i ∷ m ≡ j ∷ n
    by Ordering.lt p r q = let e : Ordering.lt ≡ Ordering.eq = same_length m n Ordering.lt q in cc
    by Ordering.eq p r q =
        let a : i ≡ j = eqb→eq i j (subst (λ (o : Ordering). T (compare_is_eq o)) (sym p) tt) in let b : m ≡ n = r q in cc
    by Ordering.gt p r q = let e : Ordering.gt ≡ Ordering.eq = same_length m n Ordering.gt q in cc

mono_slide : (env : List ℤ) (i : ℕ) (k : List ℕ → List ℕ) (x : ℤ) → ((n : List ℕ) → mono env (k n) ≡ x *ℤ mono env n) →
    (n : List ℕ) → mono env (slide i k n) ≡ (at env i *ℤ x) *ℤ mono env n
mono_slide env i k x h [] = ap (λ (z : ℤ). at env i *ℤ z) (h []) ∙ sym (*ℤ_assoc (at env i) x (pos 1))
mono_slide env i k x h (j ∷ n) = by (compare i j) (mono_slide env i k x h n)
  where
    by : (o : Ordering) → mono env (slide i k n) ≡ (at env i *ℤ x) *ℤ mono env n →
        mono env (elim o [ Ordering.lt ↦ i ∷ k (j ∷ n) | Ordering.eq ↦ i ∷ k (j ∷ n) | Ordering.gt ↦ j ∷ slide i k n ])
        ≡ (at env i *ℤ x) *ℤ mono env (j ∷ n)
    by Ordering.lt r = ap (λ (z : ℤ). at env i *ℤ z) (h (j ∷ n)) ∙ sym (*ℤ_assoc (at env i) x (mono env (j ∷ n)))
    by Ordering.eq r = ap (λ (z : ℤ). at env i *ℤ z) (h (j ∷ n)) ∙ sym (*ℤ_assoc (at env i) x (mono env (j ∷ n)))
    by Ordering.gt r = ap (λ (z : ℤ). at env j *ℤ z) r ∙ *ℤ_left_comm (at env j) (at env i *ℤ x) (mono env n)

mono_mul : (env : List ℤ) (m n : List ℕ) → mono env (mulM m n) ≡ mono env m *ℤ mono env n
mono_mul env [] n = sym (one-*ℤ (mono env n))
mono_mul env (i ∷ m) n = mono_slide env i (mulM m) (mono env m) (mono_mul env m) n

value_put : (env : List ℤ) (c : ℤ) (m : List ℕ) (s : Sum) → value env (put c m s) ≡ c *ℤ mono env m +ℤ value env s
value_put env (pos zero) m s = omega (arith, linear, zero-*ℤ (mono env m))
value_put env (pos (suc c)) m s = refl
value_put env (negsuc c) m s = refl

value_place : (env : List ℤ) (c : ℤ) (m : List ℕ) (k : Sum → Sum) (v : ℤ) →
    ((s : Sum) → value env (k s) ≡ v +ℤ value env s) → (s : Sum) →
    value env (place c m k s) ≡ (c *ℤ mono env m +ℤ v) +ℤ value env s
value_place env c m k v h none = omega (arith, linear, h none)
value_place env c m k v h (term d n s) = by (cmpM m n) refl (value_place env c m k v h s)
  where
    by : (o : Ordering) → cmpM m n ≡ o → value env (place c m k s) ≡ (c *ℤ mono env m +ℤ v) +ℤ value env s →
        value env (elim o [
          | Ordering.lt ↦ term c m (k (term d n s))
          | Ordering.eq ↦ put (c +ℤ d) m (k s)
          | Ordering.gt ↦
              term d n (place c m k s)
        ]) ≡ (c *ℤ mono env m +ℤ v) +ℤ value env (term d n s)
    by Ordering.lt p r = omega (arith, linear, h (term d n s))
    by Ordering.eq p r =
        omega (arith, linear, value_put env (c +ℤ d) m (k s), +ℤ-*ℤ c d (mono env m), ap (λ (l : List ℕ). d *ℤ mono env l) (same_mono m n p), h s)
    by Ordering.gt p r = omega (arith, linear, r)

value_add : (env : List ℤ) (p q : Sum) → value env (addS p q) ≡ value env p +ℤ value env q
value_add env none q = sym (+ℤ_idl (value env q))
value_add env (term c m p) q = value_place env c m (addS p) (value env p) (value_add env p) q

swap_inner : (c m d n : ℤ) → (c *ℤ d) *ℤ (m *ℤ n) ≡ (c *ℤ m) *ℤ (d *ℤ n)
swap_inner c m d n =
    *ℤ_assoc c d (m *ℤ n) ∙ ap (λ (z : ℤ). c *ℤ z) (*ℤ_left_comm d m n) ∙ sym (*ℤ_assoc c m (d *ℤ n))

value_scale : (env : List ℤ) (c : ℤ) (m : List ℕ) (s : Sum) → value env (scale c m s) ≡ (c *ℤ mono env m) *ℤ value env s
value_scale env c m none = sym (*ℤ-zero (c *ℤ mono env m))
value_scale env c m (term d n s) =
    let a : (c *ℤ d) *ℤ mono env (mulM m n) ≡ (c *ℤ mono env m) *ℤ (d *ℤ mono env n) =
    ap (λ (z : ℤ). (c *ℤ d) *ℤ z) (mono_mul env m n) ∙ swap_inner c (mono env m) d (mono env n) in
    omega (arith, linear, a, value_scale env c m s, *ℤ-+ℤ (c *ℤ mono env m) (d *ℤ mono env n) (value env s))

value_mul : (env : List ℤ) (p q : Sum) → value env (mulS p q) ≡ value env p *ℤ value env q
value_mul env none q = sym (zero-*ℤ (value env q))
value_mul env (term c m p) q =
    omega (arith, linear, value_add env (scale c m q) (mulS p q), value_scale env c m q, value_mul env p q, +ℤ-*ℤ (c *ℤ mono env m) (value env p) (value env q))

value_neg : (env : List ℤ) (s : Sum) → value env (negS s) ≡ neg_ℤ (value env s)
value_neg env none = refl
value_neg env (term c m s) = omega (arith, linear, neg-*ℤ c (mono env m), value_neg env s)

value_norm : (env : List ℤ) (e : Expr) → value env (norm e) ≡ eval env e
value_norm env (var i) = +ℤ_idr (pos 1 *ℤ (at env i *ℤ pos 1)) ∙ one-*ℤ (at env i *ℤ pos 1) ∙ *ℤ_comm (at env i) (pos 1) ∙ one-*ℤ (at env i)
value_norm env (num c) = value_put env c [] none ∙ +ℤ_idr (c *ℤ pos 1) ∙ *ℤ_comm c (pos 1) ∙ one-*ℤ c
value_norm env (e ⊕ f) =
    omega (arith, linear, value_add env (norm e) (norm f), value_norm env e, value_norm env f)
value_norm env (e ⊖ f) =
    omega (arith, linear, value_add env (norm e) (negS (norm f)), value_neg env (norm f), value_norm env e, value_norm env f)
value_norm env (e ⊗ f) =
    value_mul env (norm e) (norm f) ∙ ap (λ (z : ℤ). z *ℤ value env (norm f)) (value_norm env e) ∙ ap (λ (z : ℤ). eval env e *ℤ z) (value_norm env f)
value_norm env (neg e) = value_neg env (norm e) ∙ ap neg_ℤ (value_norm env e)

value_none : (env : List ℤ) {s : Sum} → Cancels s → value env s ≡ pos 0
value_none env cancels = refl

-- the identity `e ≡ f` at the values `env` of the variables; the last argument is `cancels`
pub ring : (env : List ℤ) (e f : Expr) → Cancels (norm (e ⊖ f)) → eval env e ≡ eval env f
ring env e f t =
    same_from_difference (eval env e) (eval env f) (sym (value_norm env (e ⊖ f)) ∙ value_none env t)

-- ---- an identity in n variables, as a function of them
infix 4 ◌≈◌
pub data Equation : Type 0 where
  ◌≈◌ : Expr → Expr → Equation

abbrev pub Of : ℕ → Type 0
Of zero = Equation
Of (suc n) = Expr → Of n

abbrev pub at_vars : (n i : ℕ) → Of n → Equation
at_vars zero i q = q
at_vars (suc n) i f = at_vars n (suc i) (f (var i))

-- the normal form of the left side less the right side
abbrev pub difference : Equation → Sum
difference (e ≈ f) = norm (e ⊖ f)

-- both sides of the equation have the same value, if the variables have these values
abbrev pub Meaning : List ℤ → Equation → Type 0
Meaning env (e ≈ f) = eval env e ≡ eval env f

-- the statement, with the values read so far in reverse
abbrev pub ForAll : ℕ → List ℤ → Equation → Type 0
ForAll zero env q = Meaning (reverse env) q
ForAll (suc n) env q = (x : ℤ) → ForAll n (x ∷ env) q

-- an equation whose difference cancels holds for all values of its variables
pub cancelled_equation_holds : (env : List ℤ) (q : Equation) → Cancels (difference q) → Meaning env q
cancelled_equation_holds env (e ≈ f) t = ring env e f t

for_all : (n : ℕ) (env : List ℤ) (q : Equation) → Cancels (difference q) → ForAll n env q
for_all zero env q t = cancelled_equation_holds (reverse env) q t
for_all (suc n) env q t = λ x. for_all n (x ∷ env) q t

-- `solve 2 (λ a b. (a ⊕ b) ⊗ (a ⊖ b) ≈ a ⊗ a ⊖ b ⊗ b) cancels` proves it for all a and b
pub solve : (n : ℕ) (f : Of n) → Cancels (difference (at_vars n 0 f)) → ForAll n [] (at_vars n 0 f)
solve n f t = for_all n [] (at_vars n 0 f) t
