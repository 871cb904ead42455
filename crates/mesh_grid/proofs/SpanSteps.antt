-- CellRanges of cells: what they say, and one number more.
use Rattle.std.proofs.Common.{◌≡◌, ◌≤◌, ◌<◌, ◌⊎◌, ⊎_elim, Bool, true, false, ℕ, ◌+◌, ◌*◌, ◌^◌, List, length, take, get_or}
use Rattle.std.proofs.Common.{◌∙◌, sym, arith, ℤ, pos, ◌+ℤ◌, ◌-ℤ◌, ◌<ℤ◌, ◌≤ℤ◌}
use borrow.Author.Differences.{ints}
use Rattle.std.specs.List.{All, Any}
use Rattle.std.specs.Int.RustNames.{unsigned_abs}
use Rattle.std.proofs.lemmas.List.{take_all}
use Rattle.std.proofs.lemmas.List.Elements.{All-more}
use Rattle.mesh_number.specs.declared.number.values.Number.{Number}
use Rattle.mesh_grid.specs.declared.snap.steps.GridStep.{GridStep}
use Rattle.mesh_grid.specs.declared.snap.spans.CellRange.{CellRange}
use Rattle.mesh_grid.specs.Snap.Cells.{cell_at, IsBetween}
use Rattle.mesh_grid.specs.declared.snap.spans.CellRanges.{CellRanges}
use Rattle.mesh_grid.specs.declared.snap.spans.Coordinates.{Coordinates}
use Rattle.mesh_grid.specs.Snap.Spans.{FitsWithin, FitsAllWithin, IsSpanWithin, AreSpansWithin, IsWidened}

-- cells with a span fit on a grid
span_fits : (m : ℕ) (s : GridStep) (xs : List Number) (span : CellRange) → IsSpanWithin m s xs span → FitsWithin m s xs
span_fits m s xs span h = (
  span.least,
  λ k d less. let within = h.within k d less in
      record { low_enough = within.low_enough; high_enough = omega (arith, ints, within.high_enough, h.narrow) },
)

-- what holds of all cells holds of one
pub at_one : (s : GridStep) (xs : List Number) (z low high : ℤ) → All (λ x. IsBetween low (cell_at s x) high) xs →
    Any (λ x. cell_at s x ≡ z) xs → IsBetween low z high
at_one s xs z low high all any =
    let at : IsBetween low (cell_at s (get_or xs any.0 any.1)) high = all any.0 any.1 any.2 in rw (any.3, any.4) at at

-- two cells that are too far apart don't fit
pub too_wide : (m : ℕ) (s : GridStep) (xs : List Number) (low high : ℤ) → Any (λ x. cell_at s x ≡ low) xs →
    Any (λ x. cell_at s x ≡ high) xs → pos (2 * m) <ℤ (high -ℤ low) → FitsWithin m s xs → ⊥
too_wide m s xs low high first last wide fits =
    let a = at_one s xs low fits.0 (fits.0 +ℤ pos (2 * m)) fits.1 first in
    let b = at_one s xs high fits.0 (fits.0 +ℤ pos (2 * m)) fits.1 last in
    omega (arith, ints, a.low_enough, b.high_enough)

-- the span of the first i cells, each of them small
pub record Covers (m : ℕ) (s : GridStep) (xs : List Number) (i : ℕ) (span : CellRange) : Type 0 where
  pub within : All (λ x. IsBetween span.least (cell_at s x) span.greatest) (take i xs)
  pub least_met : Any (λ x. cell_at s x ≡ span.least) xs
  pub greatest_met : Any (λ x. cell_at s x ≡ span.greatest) xs
  pub ordered : span.least ≤ℤ span.greatest
  pub narrow : (span.greatest -ℤ span.least) ≤ℤ pos (2 * m)
  pub least_small : unsigned_abs span.least < 2 ^ 107
  pub greatest_small : unsigned_abs span.greatest < 2 ^ 107

-- the cell of one number
pub cell_is_met : (s : GridStep) (xs : List Number) (i : ℕ) (x : Number) (z : ℤ) → i < length xs → x ≡ get_or xs i x →
    z ≡ cell_at s x → Any (λ y. cell_at s y ≡ z) xs
cell_is_met s xs i x z less e f = (i, x, less, sym e, sym f)

-- one number alone
pub covers_none : (m : ℕ) (s : GridStep) (xs : List Number) (x : Number) (z : ℤ) → 0 < length xs → x ≡ get_or xs 0 x →
    z ≡ cell_at s x → unsigned_abs z < 2 ^ 107 → Covers m s xs 0 (record { least = z; greatest = z })
covers_none m s xs x z less e f small = record {
  within = λ k d h. absurd (omega arith);
  least_met = cell_is_met s xs 0 x z less e f;
  greatest_met = cell_is_met s xs 0 x z less e f;
  ordered = omega (arith, ints);
  narrow = omega (arith, ints);
  least_small = small;
  greatest_small = small;
}

-- a bound that was met or is widened to a number is met
pub met_widened : (s : GridStep) (xs : List Number) (old new z : ℤ) → Any (λ y. cell_at s y ≡ old) xs →
    Any (λ y. cell_at s y ≡ z) xs → (new ≡ old) ⊎ (new ≡ z) → Any (λ y. cell_at s y ≡ new) xs
met_widened s xs old new z a b c =
    ⊎_elim (λ e. (a.0, a.1, a.2, a.3, a.4 ∙ sym e)) (λ e. (b.0, b.1, b.2, b.3, b.4 ∙ sym e)) c

-- a small bound stays small
pub small_widened : (old new z : ℤ) → unsigned_abs old < 2 ^ 107 → unsigned_abs z < 2 ^ 107 → (new ≡ old) ⊎ (new ≡ z) → unsigned_abs new < 2 ^ 107
small_widened old new z a b c = ⊎_elim (λ e. rw e a) (λ e. rw e b) c

-- what a cell more makes of a span is small
pub widened_small : (m : ℕ) (s : GridStep) (xs : List Number) (i : ℕ) (old new : CellRange) (z : ℤ) → Covers m s xs i old →
    IsWidened old z new → unsigned_abs z < 2 ^ 107 →
    (unsigned_abs new.least < 2 ^ 107) × (unsigned_abs new.greatest < 2 ^ 107)
widened_small m s xs i old new z covers wide small = (
  small_widened old.least new.least z covers.least_small small wide.least,
  small_widened old.greatest new.greatest z covers.greatest_small small wide.greatest,
)

-- and it is cell_is_met
pub widened_met : (m : ℕ) (s : GridStep) (xs : List Number) (i : ℕ) (old new : CellRange) (x : Number) (z : ℤ) → Covers m s xs i old →
    IsWidened old z new → i < length xs → x ≡ get_or xs i x → z ≡ cell_at s x →
    Any (λ y. cell_at s y ≡ new.least) xs × Any (λ y. cell_at s y ≡ new.greatest) xs
widened_met m s xs i old new x z covers wide less e f =
    let here = cell_is_met s xs i x z less e f in (
      met_widened s xs old.least new.least z covers.least_met here wide.least,
      met_widened s xs old.greatest new.greatest z covers.greatest_met here wide.greatest,
    )

-- one number more
pub covers_more : (m : ℕ) (s : GridStep) (xs : List Number) (i : ℕ) (old new : CellRange) (x : Number) (z : ℤ) → Covers m s xs i old →
    IsWidened old z new → i < length xs → x ≡ get_or xs i x → z ≡ cell_at s x → unsigned_abs z < 2 ^ 107 →
    (new.greatest -ℤ new.least) ≤ℤ pos (2 * m) → Covers m s xs (i + 1) new
covers_more m s xs i old new x z covers wide less e f small narrow =
    let sizes = widened_small m s xs i old new z covers wide small in
    let marks = widened_met m s xs i old new x z covers wide less e f in
    let wider : All (λ y. IsBetween new.least (cell_at s y) new.greatest) (take i xs) =
    λ k d h. let within = covers.within k d h in
    record {
      low_enough = omega (arith, ints, within.low_enough, wide.holds_least);
      high_enough =
          omega (arith, ints, within.high_enough, wide.holds_greatest);
    } in
    let here : IsBetween new.least (cell_at s (get_or xs i x)) new.greatest = rw (← e, ← f) wide.holds in
    record {
      within = All-more (λ y. IsBetween new.least (cell_at s y) new.greatest) xs i x less wider here;
      least_met = marks.0;
      greatest_met = marks.1;
      ordered = omega (arith, ints, wide.holds.low_enough, wide.holds.high_enough);
      narrow = narrow;
      least_small = sizes.0;
      greatest_small = sizes.1;
    }

-- all numbers
pub covers_all : (m : ℕ) (s : GridStep) (xs : List Number) (i : ℕ) (span : CellRange) → Covers m s xs i span → length xs ≤ i → IsSpanWithin m s xs span
covers_all m s xs i span covers h = record {
  within = rw (take_all i xs h) at covers.within;
  least_met = covers.least_met;
  greatest_met = covers.greatest_met;
  narrow = covers.narrow;
}

-- along all axes
pub spans_fit : (m : ℕ) (s : GridStep) (c : Coordinates) (spans : CellRanges) → AreSpansWithin m s c spans → FitsAllWithin m s c
spans_fit m s c spans h = record {
  x = span_fits m s c.x.now spans.x h.x;
  y = span_fits m s c.y.now spans.y h.y;
  z = span_fits m s c.z.now spans.z h.z;
}

-- a test that has failed
pub when_not : {P : Type 0} (b : Bool) → b ≡ false → (b ≡ true → P) × (P → b ≡ true) → P → ⊥
when_not b failed test fact = let passed : b ≡ true = test.1 fact in cc
