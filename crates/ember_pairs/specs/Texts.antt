-- The text of pairs
use Rattle.std.specs.Prelude.{ℕ, List, ◌++◌, flat_map, length, codes, decimal}
use Rattle.ember_model.specs.FaceFiles.{ending}
use Rattle.ember_pairs.specs.declared.pair.Pair.{Pair}

-- the line of a pair
abbrev pub pair_line : Pair → List ℕ
pair_line p = codes "p " ++ (decimal p.low ++ (codes " " ++ (decimal p.high ++ codes "\n")))

-- a first line, a line for each pair, and a last line with their number
abbrev pub pairs_text : List Pair → List ℕ
pairs_text ps = codes "pairs\n" ++ (flat_map pair_line ps ++ ending (length ps))
