-- Winding numbers at a clear point, counted from nothing.
use Rattle.std.proofs.Common.{◌≡◌, ◌↔◌, ℕ, zero, suc, ◌+◌, ◌<◌, ◌≤◌, Bool, true, false, ◌&&◌, IsTrue, List, [], ◌∷◌}
use Rattle.std.proofs.Common.{length, drop, get_or, replicate, All, ℤ, pos, ◌+ℤ◌, ◌<ℤ◌, refl, sym, ap, arith}
use Rattle.std.specs.List.{list_all}
use Rattle.std.proofs.lemmas.List.{drop_more}
use Rattle.std.proofs.lemmas.List.Elements.{All-cons, All-nil}
use Rattle.ember_algebra.specs.Size.{Small}
use Rattle.ember_algebra.proofs.Laws.{linear}
use Rattle.ember_expr.specs.Truth.{AreCounts}
use Rattle.ember_law.specs.Counts.{added}
use Rattle.ember_law.proofs.CountBounds.{all_within}
use Rattle.ember_model.specs.declared.point.Axis.{Axis}
use Rattle.ember_model.specs.declared.point.Spot.{Spot}
use Rattle.ember_model.specs.declared.tri.Tri.{Tri}
use Rattle.ember_model.specs.Clear.{IsClearOf}
use Rattle.ember_model.specs.ClearTest.{is_clear_of}
use Rattle.ember_model.specs.Meshes.{meshes, vector}
use Rattle.ember_model.proofs.ClearPoints.{clear_of_from, clear_of_to}

-- ---- clear points
pub clear_same : (b : Bool) (t : Tri) (p : Spot) → pos 0 <ℤ p.w → (IsTrue b ↔ IsClearOf t p) → b ≡ is_clear_of t p
clear_same true t p w h = sym (clear_of_to t p w (h.0 refl))
clear_same false t p w h = by (is_clear_of t p) refl
  where
    by : (d : Bool) → is_clear_of t p ≡ d → false ≡ d
    by false e = refl
    by true e = h.1 (clear_of_from t p w e)

-- a test of all items is that of the next one and of the rest
pub all_more : {X : Type 0} (test : X → Bool) (xs : List X) (i : ℕ) (d : X) → i < length xs →
    list_all test (drop i xs) ≡ (test (get_or xs i d) && list_all test (drop (i + 1) xs))
all_more test xs i d l = ap (list_all test) (drop_more xs i d l)

-- ---- counts

zeros_added : (n : ℕ) (xs : List ℤ) → length xs ≡ n → added (replicate n (pos 0)) xs ≡ xs
zeros_added zero [] e = refl
zeros_added zero (x ∷ xs) e = absurd (omega (arith, e))
zeros_added (suc n) [] e = absurd (omega (arith, e))
zeros_added (suc n) (x ∷ xs) e =
    let p : pos 0 +ℤ x ≡ x = omega (arith, linear) in let r = zeros_added n xs (omega (arith, e)) in λ i. p i ∷ r i

-- a vector added to the zero vector is itself
pub from_nothing : (axis : Axis) (tris : List Tri) (point : Spot) → added (replicate 64 (pos 0)) (vector axis tris point) ≡ vector axis tris point
unfolding meshes
from_nothing axis tris point = zeros_added 64 (vector axis tris point) refl

-- zeros are small
pub nothing_small : (m n : ℕ) → All (Small m) (replicate n (pos 0))
nothing_small m zero = All-nil (Small m)
nothing_small m (suc n) = All-cons (Small m) (pos 0) (replicate n (pos 0)) (record { small = omega arith }) (nothing_small m n)

-- counts of at most 262144 triangles are within the limit for expressions
pub few_counts : (n : ℕ) (xs : List ℤ) → n ≤ 262144 → ((m : ℕ) → All (Small m) (replicate 64 (pos 0)) → All (Small (m + n)) xs) → AreCounts xs
few_counts n xs l within = all_within xs (omega (arith, l)) (within 0 (nothing_small 0 64))
