-- Bounds of cells: one number more, and the greater of two lengths.
use Rattle.std.proofs.Common.{◌≡◌, ◌≤◌, ◌<◌, Bool, true, false, cond, ℕ, ◌+◌, ◌^◌, List, length, take, get_or, nat_lt, arith, ℤ, ◌≤ℤ◌}
use borrow.Author.Differences.{ints}
use Rattle.std.specs.List.{All, Any}
use Rattle.std.specs.Int.RustNames.{unsigned_abs}
use Rattle.std.proofs.lemmas.List.{take_all}
use Rattle.std.proofs.lemmas.List.Elements.{All-more}
use Rattle.mesh_number.specs.declared.number.values.Number.{Number}
use Rattle.mesh_grid.specs.declared.snap.steps.GridStep.{GridStep}
use Rattle.mesh_grid.specs.Snap.Cells.{cell_at, IsBetween}
use Rattle.mesh_grid.proofs.SpanSteps.{cell_is_met, met_widened, small_widened}
use Rattle.mesh_grid.specs.declared.grid.lengths.Bounds.{Bounds}
use Rattle.mesh_grid.specs.Grid.Lengths.{AreBounds, AreWidened, greater_of}

-- the bounds of the first i cells, each of them small
pub record BoundFirst (s : GridStep) (xs : List Number) (i : ℕ) (b : Bounds) : Type 0 where
  pub within : All (λ x. IsBetween b.least (cell_at s x) b.greatest) (take i xs)
  pub least_met : Any (λ x. cell_at s x ≡ b.least) xs
  pub greatest_met : Any (λ x. cell_at s x ≡ b.greatest) xs
  pub ordered : b.least ≤ℤ b.greatest
  pub least_small : unsigned_abs b.least < 2 ^ 107
  pub greatest_small : unsigned_abs b.greatest < 2 ^ 107

-- one number alone
pub bound_none : (s : GridStep) (xs : List Number) (x : Number) (z : ℤ) → 0 < length xs → x ≡ get_or xs 0 x →
    z ≡ cell_at s x → unsigned_abs z < 2 ^ 107 → BoundFirst s xs 0 (record { least = z; greatest = z })
bound_none s xs x z less e f small = record {
  within = λ k d h. absurd (omega arith);
  least_met = cell_is_met s xs 0 x z less e f;
  greatest_met = cell_is_met s xs 0 x z less e f;
  ordered = omega (arith, ints);
  least_small = small;
  greatest_small = small;
}

-- one number more
pub bound_more : (s : GridStep) (xs : List Number) (i : ℕ) (old new : Bounds) (x : Number) (z : ℤ) → BoundFirst s xs i old →
    AreWidened old z new → i < length xs → x ≡ get_or xs i x → z ≡ cell_at s x → unsigned_abs z < 2 ^ 107 →
    BoundFirst s xs (i + 1) new
bound_more s xs i old new x z bound wide less e f small =
    let met = cell_is_met s xs i x z less e f in
    let wider : All (λ y. IsBetween new.least (cell_at s y) new.greatest) (take i xs) =
    λ k d h. let within = bound.within k d h in
    record {
      low_enough = omega (arith, ints, within.low_enough, wide.holds_least);
      high_enough =
          omega (arith, ints, within.high_enough, wide.holds_greatest);
    } in
    let here : IsBetween new.least (cell_at s (get_or xs i x)) new.greatest = rw (← e, ← f) wide.holds in
    record {
      within = All-more (λ y. IsBetween new.least (cell_at s y) new.greatest) xs i x less wider here;
      least_met = met_widened s xs old.least new.least z bound.least_met met wide.least;
      greatest_met = met_widened s xs old.greatest new.greatest z bound.greatest_met met wide.greatest;
      ordered = omega (arith, ints, wide.holds.low_enough, wide.holds.high_enough);
      least_small = small_widened old.least new.least z bound.least_small small wide.least;
      greatest_small = small_widened old.greatest new.greatest z bound.greatest_small small wide.greatest;
    }

-- all numbers
pub bound_all : (s : GridStep) (xs : List Number) (i : ℕ) (b : Bounds) → BoundFirst s xs i b → length xs ≤ i → AreBounds s xs b
bound_all s xs i b bound h = record {
  within = rw (take_all i xs h) at bound.within;
  least_met = bound.least_met;
  greatest_met = bound.greatest_met;
}

-- the greater of two numbers below a limit is below it
pub greater_below : (m n limit : ℕ) → m < limit → n < limit → greater_of m n < limit
greater_below m n limit l k = by (nat_lt m n)
  where
    by : (b : Bool) → cond b n m < limit
    by true = k
    by false = l
