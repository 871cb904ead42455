-- A solid sampled on a lattice
use Rattle.std.specs.Prelude.{ℕ, List}
use Rattle.ember_expr.specs.Formula.{Formula}
use Rattle.ember_model.specs.declared.tri.Tri.{Tri}
use Rattle.ember_voxel.specs.Voxels.{IsVoxelText}

-- the bytes are the text of the lattice whose cells have the values at their reference points
abbrev pub IsLatticeText : List Tri → Formula → ℕ → List ℕ → Type 0
IsLatticeText tris formula size bytes = IsVoxelText tris formula size bytes
