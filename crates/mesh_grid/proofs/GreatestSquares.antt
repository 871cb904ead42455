-- The greatest square is the greatest.
use Rattle.std.proofs.Common.{◌≤◌, ℕ, max, List, [], ◌∷◌, arith}
use Rattle.std.specs.List.{All}
use Rattle.std.proofs.lemmas.List.Elements.{All-nil, All-cons, All-weaker}
use Rattle.std.proofs.Math.Nat.{le-max_left, le-max_right}
use Rattle.mesh_grid.specs.declared.snap.steps.GridStep.{GridStep}
use Rattle.mesh_read.specs.declared.surface.surface.Vertex.{Vertex}
use Rattle.mesh_read.specs.declared.surface.surface.Facet.{Facet}
use Rattle.mesh_grid.specs.Moves.Greatest.{facet_square, greatest_square}

module _ (s : GridStep) (fineness : ℕ) (vertices : List Vertex) where
  -- no triangle has a greater square
  pub none_is_greater : (fs : List Facet) → All (λ f. facet_square s fineness vertices f ≤ greatest_square s fineness vertices fs) fs
  none_is_greater [] = All-nil (λ f. facet_square s fineness vertices f ≤ 0)
  none_is_greater (f ∷ fs) =
      let rest = greatest_square s fineness vertices fs in
      let all = max (facet_square s fineness vertices f) rest in
      let more = le-max_right (facet_square s fineness vertices f) rest in
      All-cons (λ g. facet_square s fineness vertices g ≤ all) f fs (le-max_left (facet_square s fineness vertices f) rest)
      (All-weaker (λ g. facet_square s fineness vertices g ≤ rest) (λ g. facet_square s fineness vertices g ≤ all)
      (λ g h. omega (arith, h, more)) fs (none_is_greater fs))
