-- Counts of the triangles up to some index.
use Rattle.std.proofs.Common.{◌≡◌, ℕ, ◌+◌, ◌<◌, ◌≤◌, refl, sym, ap, ◌∙◌, arith, Bool, true, false, List, ◌∷◌, length, get_or, drop, drop-cons, add-one}
use Rattle.std.specs.Prelude.{count_by, Option}
use Rattle.std.specs.List.{list_all}
use Rattle.std.proofs.lemmas.List.Folds.{list_all_at}
use Rattle.std.proofs.lemmas.List.Sums.{sum_by-cons}
use Rattle.ember_algebra.specs.declared.Sign.{Sign}
use Rattle.mesh_effect.specs.declared.facing.facings.Facings.{Facings}
use Rattle.mesh_effect.specs.Facing.Facings.{has_no_area, is_turned_over, one_if}

-- what was counted, with what is left, is all
pub record HaveCounted (rest all : List (Option Sign)) (index : ℕ) (f : Facings) : Type 0 where
  pub without_area : f.without_area + count_by has_no_area rest ≡ count_by has_no_area all
  pub turned_over : f.turned_over + count_by is_turned_over rest ≡ count_by is_turned_over all
  pub few_without : f.without_area ≤ index
  pub few_turned : f.turned_over ≤ index

one_more : (b : Bool) (n m k i t : ℕ) → n + (one_if b + k) ≡ t → n ≤ i → m ≡ n + one_if b → (m + k ≡ t) × (m ≤ i + 1)
one_more true n m k i t e l h = (omega arith, omega arith)
one_more false n m k i t e l h = (omega arith, omega arith)

pub counted_more : (s : Option Sign) (rest all : List (Option Sign)) (i : ℕ) (f g : Facings) →
    HaveCounted (s ∷ rest) all i f → g.without_area ≡ f.without_area + one_if (has_no_area s) →
    g.turned_over ≡ f.turned_over + one_if (is_turned_over s) → HaveCounted rest all (i + 1) g
counted_more s rest all i f g h ea et =
    let a = one_more (has_no_area s) f.without_area g.without_area (count_by has_no_area rest) i
    (count_by has_no_area all) (ap (λ (n : ℕ). f.without_area + n)
    (sym (sum_by-cons (λ (x : Option Sign). one_if (has_no_area x)) s rest)) ∙ h.without_area) h.few_without ea in
    let t = one_more (is_turned_over s) f.turned_over g.turned_over (count_by is_turned_over rest) i
    (count_by is_turned_over all) (ap (λ (n : ℕ). f.turned_over + n)
    (sym (sum_by-cons (λ (x : Option Sign). one_if (is_turned_over x)) s rest)) ∙ h.turned_over) h.few_turned et in
    record { without_area = a.0; turned_over = t.0; few_without = a.1; few_turned = t.1 }

-- what is left at an index begins with the element there
pub rest_begins : {X : Type 0} (ts : List X) (i : ℕ) (d : X) → i < length ts → drop i ts ≡ get_or ts i d ∷ drop (i + 1) ts
rest_begins ts i d l = rw add-one (drop-cons ts i d l)

-- the element at an index passes a test that all pass
pub all_pass_at : {X : Type 0} (p : X → Bool) (xs : List X) (i : ℕ) (x : X) → list_all p xs ≡ true → i < length xs → x ≡ get_or xs i x → p x ≡ true
all_pass_at p xs i x all l e = ap p e ∙ by (p (get_or xs i x)) refl
  where
    by : (b : Bool) → p (get_or xs i x) ≡ b → p (get_or xs i x) ≡ true
    by true h = h
    by false h = let n = list_all_at p xs i x l h in cc
