-- A coordinate of a place is as small as all of them.
use Rattle.std.proofs.Common.{ℕ, zero, suc, ℤ, pos, List, [], ◌∷◌, All, slice_index_or, arith}
use Rattle.std.proofs.lemmas.List.Elements.{All-head, All-tail}
use Rattle.ember_algebra.specs.Size.{Small}
use Rattle.ember_model.specs.declared.point.Axis.{Axis}
use Rattle.ember_model.specs.declared.point.Axis.TheVariants.{X, Y, Z}
use Rattle.ember_trace.specs.Paths.{coordinate}

entry_small : (m : ℕ) (xs : List ℤ) (i : ℕ) → All (Small m) xs → Small m (slice_index_or xs i (pos 0))
entry_small m [] i h = record { small = omega arith }
entry_small m (x ∷ xs) zero h = All-head (Small m) x xs h
entry_small m (x ∷ xs) (suc i) h = entry_small m xs i (All-tail (Small m) x xs h)

-- a coordinate of small numbers is small
pub coordinate_small : (m : ℕ) (at : List ℤ) (k : Axis) → All (Small m) at → Small m (coordinate at k)
coordinate_small m at X h = entry_small m at 0 h
coordinate_small m at Y h = entry_small m at 1 h
coordinate_small m at Z h = entry_small m at 2 h
