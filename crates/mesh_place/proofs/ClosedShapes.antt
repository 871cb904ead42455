-- Boxes and cylinders are closed
use Rattle.std.proofs.Common.{◌≡◌, ◌≤◌, ◌<◌, ℕ, zero, suc, ◌+◌, ◌-◌, ◌*◌, ◌==◌, List, [], ◌∷◌, ◌++◌, refl, sym, ap, ◌∙◌, arith}
use Rattle.std.proofs.Common.{ℤ, pos, neg_ℤ, ◌+ℤ◌, ◌-ℤ◌, add-one}
use Rattle.std.proofs.lemmas.Bool.Decides.{nat_tests}
use borrow.Author.Differences.{ints}
use Rattle.ember_algebra.specs.Sums.{total}
use Rattle.ember_algebra.proofs.Sums.{total-append}
use Rattle.ember_algebra.proofs.Laws.{linear}
use Rattle.mesh_read.specs.declared.surface.surface.Facet.{Facet}
use Rattle.mesh_place.specs.Shapes.{triangle, edge_sum, HasNoBoundary, box_facets, next_side, side_facets, cap_facets}
use Rattle.mesh_place.specs.Shapes.{first_sides, first_caps, cylinder_facets}

-- ---- boxes
pub box_has_no_boundary : HasNoBoundary box_facets
box_has_no_boundary w opposite =
    omega (
      arith,
      linear,
      opposite 0 1,
      opposite 0 2,
      opposite 0 3,
      opposite 0 4,
      opposite 0 5,
      opposite 0 6,
      opposite 1 3,
      opposite 1 5,
      opposite 1 7,
      opposite 2 3,
      opposite 2 6,
      opposite 2 7,
      opposite 3 7,
      opposite 4 5,
      opposite 4 6,
      opposite 4 7,
      opposite 5 7,
      opposite 6 7,
    )

-- ---- cylinders
next_within : (sides i : ℕ) → i + 1 < sides → next_side sides i ≡ i + 1
next_within sides i h = grind (arith, nat_tests)

next_last : (sides i : ℕ) → sides ≡ suc i → next_side sides i ≡ 0
next_last sides i h = grind (arith, nat_tests)

module _ (w : ℕ → ℕ → ℤ) (opposite : (a b : ℕ) → w a b ≡ neg_ℤ (w b a)) (sides : ℕ) where
  -- the first edges of the bottom, less those of the top
  rims : ℕ → ℤ
  rims zero = pos 0
  rims (suc i) = rims i +ℤ (w (2 * i) (2 * (i + 1)) -ℤ w (2 * i + 1) (2 * (i + 1) + 1))

  -- the edge upwards at a corner, and those from the first corners of the bottom and of the top
  upright : ℕ → ℤ
  upright i = w (2 * i) (2 * i + 1)

  below : ℕ → ℤ
  below i = w 0 (2 * i)

  above : ℕ → ℤ
  above i = w 1 (2 * i + 1)

  -- a side from corner i to corner j
  side_sum : (i j : ℕ) → next_side sides i ≡ j →
      total (edge_sum w) (side_facets sides i)
      ≡ w (2 * i) (2 * j) -ℤ w (2 * i + 1) (2 * j + 1) +ℤ upright j -ℤ upright i
  unfolding upright
  side_sum i j e =
      rw e (omega (arith, linear, opposite (2 * i) (2 * j + 1), opposite (2 * i + 1) (2 * j + 1), opposite (2 * i) (2 * i + 1)))

  sides_sum : (k : ℕ) → k < sides → total (edge_sum w) (first_sides sides k) ≡ rims k +ℤ upright k -ℤ upright 0
  unfolding rims
  sides_sum zero h = omega (arith, linear)
  sides_sum (suc i) h =
      omega (
        arith,
        linear,
        total-append (edge_sum w) (first_sides sides i) (side_facets sides i),
        side_sum i (i + 1) (next_within sides i (omega arith)),
        sides_sum i (omega arith),
        ap upright (add-one i),
      )

  cap_sum : (i : ℕ) → total (edge_sum w) (cap_facets sides i)
      ≡ below (i + 2) -ℤ below (i + 1) -ℤ w (2 * (i + 1)) (2 * (i + 2))
      -ℤ (above (i + 2) -ℤ above (i + 1) -ℤ w (2 * (i + 1) + 1) (2 * (i + 2) + 1))
  unfolding below above
  cap_sum i =
      omega (arith, linear, opposite (2 * (i + 1)) (2 * (i + 2)), opposite 0 (2 * (i + 1)), opposite 1 (2 * (i + 2) + 1))

  caps_sum : (k : ℕ) → total (edge_sum w) (first_caps sides k) ≡ below (k + 1) -ℤ above (k + 1) -ℤ rims (k + 1)
  unfolding rims below above
  caps_sum zero = omega (arith, linear)
  caps_sum (suc i) =
      let two : suc i + 1 ≡ i + 2 = omega arith in
      let more : suc i + 1 ≡ suc (i + 1) = omega arith in
      let last : i + 1 + 1 ≡ i + 2 = omega arith in
      omega (
        arith,
        linear,
        total-append (edge_sum w) (first_caps sides i) (cap_facets sides i),
        cap_sum i,
        caps_sum i,
        ap below two,
        ap above two,
        ap rims more,
        ap (λ n. w (2 * (i + 1)) (2 * n)) last,
        ap (λ n. w (2 * (i + 1) + 1) (2 * n + 1)) last,
      )

  -- the last side closes the round
  cylinder_sum : (i k : ℕ) → sides ≡ suc i → i ≡ k + 1 →
      total (edge_sum w) (first_sides sides sides ++ first_caps sides k) ≡ pos 0
  unfolding upright below above
  cylinder_sum i k e f =
      let all : first_sides sides sides ≡ first_sides sides i ++ side_facets sides i = ap (first_sides sides) e in
      omega (
        arith,
        linear,
        total-append (edge_sum w) (first_sides sides sides) (first_caps sides k),
        ap (total (edge_sum w)) all,
        total-append (edge_sum w) (first_sides sides i) (side_facets sides i),
        sides_sum i (omega arith),
        side_sum i 0 (next_last sides i e),
        caps_sum k,
        opposite 0 (2 * i),
        opposite 1 (2 * i + 1),
        ap below f,
        ap above f,
        ap rims f,
      )

pub cylinder_has_no_boundary : (sides : ℕ) → 3 ≤ sides → HasNoBoundary (cylinder_facets sides)
cylinder_has_no_boundary sides h w opposite =
    cylinder_sum w opposite sides (sides - 1) (sides - 2) (omega arith) (omega arith)
