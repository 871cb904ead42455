-- Scenes within a limit
use Rattle.std.specs.Prelude.{ℕ, ◌≤◌, List, length, All}
use Rattle.ember_model.specs.declared.tri.Tri.{Tri}
use Rattle.ember_model.specs.Limits.{most_triangles, most_meshes}
use Rattle.ember_model.specs.Meshes.{of_mesh, HasMesh, IsBalanced}
use Rattle.ember_model.specs.Within.{IsTriWithin}

-- triangles within m of at most 64 meshes, each of them balanced
pub record IsSceneWithin (m : ℕ) (ts : List Tri) (count : ℕ) : Type 0 where
  pub within : All (IsTriWithin m) ts
  pub few : length ts ≤ most_triangles
  pub few_meshes : count ≤ most_meshes
  pub numbered : All (HasMesh count) ts
  pub balanced : (mesh : ℕ) → IsBalanced (of_mesh mesh ts)
