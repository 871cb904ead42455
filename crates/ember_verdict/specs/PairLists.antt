-- The list of the pairs of a scene
use Rattle.std.specs.Prelude.{◌≡◌, ℕ, List}
use Rattle.ember_model.specs.declared.tri.Tri.{Tri}
use Rattle.ember_pairs.specs.declared.pair.Pair.{Pair}
use Rattle.ember_pairs.specs.Pairs.{ArePairs}
use Rattle.ember_pairs.specs.Texts.{pairs_text}

-- the bytes list the pairs of these triangles that meet
abbrev pub IsPairsText : List Tri → List ℕ → Type 0
IsPairsText tris bytes = (pairs : List Pair) × ArePairs tris pairs × (bytes ≡ pairs_text pairs)
