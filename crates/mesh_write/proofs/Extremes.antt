-- The least and the greatest of floats that are compared one after another.
use Rattle.std.proofs.Common.{◌≡◌, ◌⊎◌, inl, inr, ℕ, zero, suc, ◌<◌, Bool, true, false, if◌then◌else◌, List, [], ◌∷◌}
use Rattle.std.proofs.Common.{length, IsTrue, true≢false, refl, sym, ◌∙◌, arith}
use Rattle.std.specs.List.{All, Contains, fold, slice_index_or}
use Rattle.std.specs.Float.{Float, ◌≤ᶠ◌, NotNan, float_is_finite, nan, inf, fin}
use Rattle.std.specs.Float.Ieee.{lt, is_nan}
use Rattle.std.proofs.lemmas.Float.{le_refl, le_of_lt, le_of_not-lt, le_trans, le_left, le_right, T_from_true, T_from_false}
use Rattle.std.proofs.lemmas.List.Elements.{All-cons, All-head, All-tail}
use Rattle.mesh_write.specs.Glb.Bounds.{IsLeast, IsGreatest}
use Rattle.mesh_write.specs.Glb.Widened.{lesser, greater}

-- a finite float is a number
pub finite_is_number : (x : Float) → IsTrue (float_is_finite x) → NotNan x
unfolding float_is_finite is_nan
finite_is_number nan h = absurd (true≢false (sym h))
finite_is_number (inf s) h = absurd (true≢false (sym h))
finite_is_number (fin s m e) h = tt

all_of_none : (P : Float → Type 0) → All P []
all_of_none P k d l = absurd (omega (arith, l))

-- ---- an element of a list is one of a list whose head is replaced by two
moved : (a x m r : Float) (xs : List Float) (k : ℕ) → (m ≡ a) ⊎ (m ≡ x) → k < length (m ∷ xs) → slice_index_or (m ∷ xs) k r ≡ r → Contains (a ∷ x ∷ xs) r
moved a x m r xs zero (inl e) l s = (0, omega arith, sym e ∙ s)
moved a x m r xs zero (inr e) l s = (1, omega arith, sym e ∙ s)
moved a x m r xs (suc k) e l s = (suc (suc k), omega (arith, l), s)

-- of one whose head is there twice, it is one without the first
without_twin : (a r : Float) (xs : List Float) (k : ℕ) → k < length (a ∷ a ∷ xs) → slice_index_or (a ∷ a ∷ xs) k r ≡ r → Contains (a ∷ xs) r
without_twin a r xs zero l s = (0, omega arith, s)
without_twin a r xs (suc k) l s = (k, omega (arith, l), s)

-- ---- the least
lesser_below : (a b : Float) (t : Bool) → lt b a ≡ t → NotNan a → NotNan b → ((if t then b else a) ≤ᶠ a) × ((if t then b else a) ≤ᶠ b)
lesser_below a b true e p q = (le_of_lt b a (T_from_true (lt b a) e), le_refl b q)
lesser_below a b false e p q = (le_refl a p, le_of_not-lt b a q p (T_from_false (lt b a) e))

chosen : (a b : Float) (t : Bool) → ((if t then b else a) ≡ a) ⊎ ((if t then b else a) ≡ b)
chosen a b true = inr refl
chosen a b false = inl refl

least_of_fold : (a : Float) (xs : List Float) → All NotNan (a ∷ xs) → IsLeast (a ∷ xs) (fold lesser a xs)
least_of_fold a [] h = record {
  one_of = (0, omega arith, refl);
  below = All-cons (λ n. a ≤ᶠ n) a [] (le_refl a (All-head NotNan a [] h)) (all_of_none (λ n. a ≤ᶠ n));
}
least_of_fold a (x ∷ xs) h =
    let m = lesser a x in
    let r = fold lesser m xs in
    let both = lesser_below a x (lt x a) refl (All-head NotNan a (x ∷ xs) h) (All-head NotNan x xs (All-tail NotNan a (x ∷ xs) h)) in
    let more = All-tail NotNan x xs (All-tail NotNan a (x ∷ xs) h) in
    let least = least_of_fold m xs (All-cons NotNan m xs (le_left m a both.0) more) in
    let P : Float → Type 0 = λ n. r ≤ᶠ n in
    let first = All-head P m xs least.below in
    record {
      one_of = moved a x m r xs least.one_of.0 (chosen a x (lt x a)) least.one_of.1 least.one_of.2;
      below = All-cons P a (x ∷ xs) (le_trans r m a first both.0) (All-cons P x xs (le_trans r m x first both.1) (All-tail P m xs least.below));
    }

-- of floats that begin with this one
pub least_from_first : (a : Float) (xs : List Float) → All NotNan (a ∷ xs) → IsLeast (a ∷ xs) (fold lesser a (a ∷ xs))
least_from_first a xs h =
    let least = least_of_fold a (a ∷ xs) (All-cons NotNan a (a ∷ xs) (All-head NotNan a xs h) h) in
    let r = fold lesser a (a ∷ xs) in
    record {
      one_of = without_twin a r xs least.one_of.0 least.one_of.1 least.one_of.2;
      below = All-tail (λ n. r ≤ᶠ n) a (a ∷ xs) least.below;
    }

-- ---- the greatest
greater_above : (a b : Float) (t : Bool) → lt a b ≡ t → NotNan a → NotNan b → (a ≤ᶠ (if t then b else a)) × (b ≤ᶠ (if t then b else a))
greater_above a b true e p q = (le_of_lt a b (T_from_true (lt a b) e), le_refl b q)
greater_above a b false e p q = (le_refl a p, le_of_not-lt a b p q (T_from_false (lt a b) e))

greatest_of_fold : (a : Float) (xs : List Float) → All NotNan (a ∷ xs) → IsGreatest (a ∷ xs) (fold greater a xs)
greatest_of_fold a [] h = record {
  one_of = (0, omega arith, refl);
  above = All-cons (λ n. n ≤ᶠ a) a [] (le_refl a (All-head NotNan a [] h)) (all_of_none (λ n. n ≤ᶠ a));
}
greatest_of_fold a (x ∷ xs) h =
    let m = greater a x in
    let r = fold greater m xs in
    let both = greater_above a x (lt a x) refl (All-head NotNan a (x ∷ xs) h) (All-head NotNan x xs (All-tail NotNan a (x ∷ xs) h)) in
    let more = All-tail NotNan x xs (All-tail NotNan a (x ∷ xs) h) in
    let greatest = greatest_of_fold m xs (All-cons NotNan m xs (le_right a m both.0) more) in
    let P : Float → Type 0 = λ n. n ≤ᶠ r in
    let first = All-head P m xs greatest.above in
    record {
      one_of = moved a x m r xs greatest.one_of.0 (chosen a x (lt a x)) greatest.one_of.1 greatest.one_of.2;
      above = All-cons P a (x ∷ xs) (le_trans a m r both.0 first) (All-cons P x xs (le_trans x m r both.1 first) (All-tail P m xs greatest.above));
    }

-- of floats that begin with this one
pub greatest_from_first : (a : Float) (xs : List Float) → All NotNan (a ∷ xs) → IsGreatest (a ∷ xs) (fold greater a (a ∷ xs))
greatest_from_first a xs h =
    let greatest = greatest_of_fold a (a ∷ xs) (All-cons NotNan a (a ∷ xs) (All-head NotNan a xs h) h) in
    let r = fold greater a (a ∷ xs) in
    record {
      one_of = without_twin a r xs greatest.one_of.0 greatest.one_of.1 greatest.one_of.2;
      above = All-tail (λ n. n ≤ᶠ r) a (a ∷ xs) greatest.above;
    }
