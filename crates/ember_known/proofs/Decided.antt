-- If the three-valued truth is decided, it is the truth, whatever the undecided meshes count.
use Rattle.std.proofs.Common.{◌≡◌, ℕ, suc, ◌≤◌, ◌==◌, ℤ, pos, int_le, ◌+ℤ◌, ◌*ℤ◌, Bool, true, false, not, ◌&&◌, ◌||◌}
use Rattle.std.proofs.Common.{inl, inr, List, [], ◌∷◌, All, Option, Some, None, IfSome, refl, sym, ap, ap₂, ◌∙◌, subst}
use Rattle.std.proofs.Common.{arith}
use Rattle.std.proofs.lemmas.Bool.Decides.{eqb_tells}
use Rattle.std.proofs.lemmas.Bool.{or_parts}
use Rattle.ember_expr.specs.declared.trees.Term.{Term}
use Rattle.ember_expr.specs.Formula.{Formula, Or, Xor, And, Not, Mesh, Odd, Compare, IsFit, IsFitTerm, IsMeshNumber}
use Rattle.ember_expr.specs.Truth.{mesh_factor, signed, term_value, sum_from, is_odd, holds_between, differ, truth}
use Rattle.ember_known.specs.Known.{mentions, truth_unless, known_and, known_or, known_xor, known_not, known}
use Rattle.ember_known.specs.Laws.{AgreeOutside}

-- if it is decided, it is this truth
abbrev pub Tells : Option Bool → Bool → Type 0
Tells (Some x) t = t ≡ x
Tells None t = Unit {0}

and_tells : (x y : Option Bool) (s t : Bool) → Tells x s → Tells y t → Tells (known_and x y) (s && t)
and_tells (Some true) y s t a b = subst (λ r. Tells y (r && t)) (sym a) b
and_tells (Some false) y s t a b = ap (λ r. r && t) a
and_tells None (Some false) true t a b = b
and_tells None (Some false) false t a b = refl
and_tells None (Some true) s t a b = tt
and_tells None None s t a b = tt

or_tells : (x y : Option Bool) (s t : Bool) → Tells x s → Tells y t → Tells (known_or x y) (s || t)
or_tells (Some false) y s t a b = subst (λ r. Tells y (r || t)) (sym a) b
or_tells (Some true) y s t a b = ap (λ r. r || t) a
or_tells None (Some true) true t a b = refl
or_tells None (Some true) false t a b = b
or_tells None (Some false) s t a b = tt
or_tells None None s t a b = tt

xor_tells : (x y : Option Bool) (s t : Bool) → Tells x s → Tells y t → Tells (known_xor x y) (differ s t)
xor_tells None y s t a b = tt
xor_tells (Some p) None s t a b = tt
xor_tells (Some p) (Some q) s t a b = ap₂ differ a b

not_tells : (x : Option Bool) (s : Bool) → Tells x s → Tells (known_not x) (not s)
not_tells None s a = tt
not_tells (Some p) s a = ap not a

plain_tells : (u x t : Bool) → (u ≡ false → t ≡ x) → Tells (truth_unless u x) t
plain_tells true x t same = tt
plain_tells false x t same = same refl

module _ (undecided : ℕ → Bool) (counts others : List ℤ) (agree : AgreeOutside undecided counts others) where
  counted_same : (n : ℕ) → n ≤ 64 → (not (n == 0) && undecided n) ≡ false → mesh_factor others n ≡ mesh_factor counts n
  counted_same n last e = elim (eqb_tells n 0) [
    | inl zero_is ↦ rw zero_is.0 refl
    | inr more ↦ rw more.0 (sym (agree.same n (record { first = omega (arith, more.1); last = last }) (rw_false more.0 e)))
  ] where
    rw_false : (n == 0) ≡ false → (not (n == 0) && undecided n) ≡ false → undecided n ≡ false
    rw_false is all = sym (ap (λ b. not b && undecided n) is) ∙ all

  sum_same : (start : ℤ) (ts : List Term) → All (IsFitTerm 64) ts → mentions undecided ts ≡ false → sum_from start others ts ≡ sum_from start counts ts
  sum_same start [] fit none = refl
  sum_same start (t ∷ ts) fit none =
      let both = or_parts (not (t.mesh == 0) && undecided t.mesh) (mentions undecided ts) none in
      let here : term_value others t ≡ term_value counts t =
      ap (λ z. signed t.minus (pos t.factor *ℤ z)) (counted_same t.mesh (fit 0 t (omega arith)).mesh both.0) in
      ap (λ z. sum_from (start +ℤ z) others ts) here ∙ sum_same (start +ℤ term_value counts t) ts (λ i d l. fit (suc i) d (omega (arith, l))) both.1

  tells : (f : Formula) → IsFit 64 f → Tells (known undecided counts f) (truth others f)
  tells (Or a b) fit = or_tells (known undecided counts a) (known undecided counts b) (truth others a) (truth others b) (tells a fit.0) (tells b fit.1)
  tells (Xor a b) fit = xor_tells (known undecided counts a) (known undecided counts b) (truth others a) (truth others b) (tells a fit.0) (tells b fit.1)
  tells (And a b) fit = and_tells (known undecided counts a) (known undecided counts b) (truth others a) (truth others b) (tells a fit.0) (tells b fit.1)
  tells (Not a) fit = not_tells (known undecided counts a) (truth others a) (tells a fit)
  tells (Mesh n) fit = plain_tells (undecided n) (truth counts (Mesh n)) (truth others (Mesh n)) (λ e. ap (int_le (pos 1)) (sym (agree.same n fit e)))
  tells (Odd sum) fit = plain_tells (mentions undecided sum) (truth counts (Odd sum)) (truth others (Odd sum))
      (λ e. ap is_odd (sum_same (pos 0) sum fit.terms e))
  tells (Compare left rel right) fit = plain_tells (mentions undecided left || mentions undecided right)
      (truth counts (Compare left rel right)) (truth others (Compare left rel right)) (λ e.
      let both = or_parts (mentions undecided left) (mentions undecided right) e in
      ap₂ (holds_between rel) (sum_same (pos 0) left fit.0.terms both.0) (sum_same (pos 0) right fit.1.terms both.1))

  -- a decided value holds whatever the undecided meshes are
  pub decided_tells : (f : Formula) (b : Bool) → IsFit 64 f → known undecided counts f ≡ Some b → truth others f ≡ b
  decided_tells f b fit e = subst (λ o. Tells o (truth others f)) e (tells f fit)

-- the same meshes are undecided
module _ (u w : ℕ → Bool) (same : (n : ℕ) → IsMeshNumber 64 n → u n ≡ w n) where
  mention_same : (n : ℕ) → n ≤ 64 → (not (n == 0) && u n) ≡ (not (n == 0) && w n)
  mention_same n last = elim (eqb_tells n 0) [
    | inl none ↦ rw none.0 refl
    | inr some ↦ ap (λ b. not (n == 0) && b) (same n (record { first = omega (arith, some.1); last = last }))
  ]

  mentions_same : (ts : List Term) → All (IsFitTerm 64) ts → mentions u ts ≡ mentions w ts
  mentions_same [] fit = refl
  mentions_same (t ∷ ts) fit = ap₂ (λ a b. a || b) (mention_same t.mesh (fit 0 t (omega arith)).mesh)
      (mentions_same ts (λ i d l. fit (suc i) d (omega (arith, l))))

  pub known_same : (counts : List ℤ) (f : Formula) → IsFit 64 f → known u counts f ≡ known w counts f
  known_same counts (Or a b) fit = ap₂ known_or (known_same counts a fit.0) (known_same counts b fit.1)
  known_same counts (Xor a b) fit = ap₂ known_xor (known_same counts a fit.0) (known_same counts b fit.1)
  known_same counts (And a b) fit = ap₂ known_and (known_same counts a fit.0) (known_same counts b fit.1)
  known_same counts (Not a) fit = ap known_not (known_same counts a fit)
  known_same counts (Mesh n) fit = ap (λ b. truth_unless b (truth counts (Mesh n))) (same n fit)
  known_same counts (Odd sum) fit = ap (λ b. truth_unless b (truth counts (Odd sum))) (mentions_same sum fit.terms)
  known_same counts (Compare left rel right) fit =
      ap₂ (λ a b. truth_unless (a || b) (truth counts (Compare left rel right))) (mentions_same left fit.0.terms)
      (mentions_same right fit.1.terms)

-- a decided truth is the truth, whatever the winding numbers of the undecided meshes are
pub decided_if : (undecided : ℕ → Bool) (counts : List ℤ) (f : Formula) → IsFit 64 f → (o : Option Bool) →
    o ≡ known undecided counts f → IfSome o (λ b. (others : List ℤ) → AgreeOutside undecided counts others →
    truth others f ≡ b)
decided_if undecided counts f fit None e = tt
decided_if undecided counts f fit (Some b) e = λ others agree. decided_tells undecided counts others agree f b fit (sym e)
