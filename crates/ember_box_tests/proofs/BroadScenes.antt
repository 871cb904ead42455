-- The triangles of a scene are those of a scene on the broad grid, too.
use Rattle.std.proofs.Common.{ℕ, List, lit≤}
use Rattle.std.proofs.lemmas.List.Elements.{All-weaker}
use Rattle.ember_model.specs.declared.tri.Tri.{Tri}
use Rattle.ember_model.specs.Limits.{narrow_limit, broad_limit, most_meshes}
use Rattle.ember_model.specs.Meshes.{IsScene}
use Rattle.ember_model.specs.Within.{IsTriWithin}
use Rattle.ember_model.proofs.PlaneSizes.{tri_within}
use Rattle.ember_width.specs.Scenes.{IsSceneWithin}
use Rattle.ember_visit.proofs.IndexLists.{scene_within}

pub broad_scene : (ts : List Tri) (n : ℕ) → IsScene ts n → IsSceneWithin broad_limit ts most_meshes
broad_scene ts n s =
    let narrow = scene_within ts n s in
    record {
      within = All-weaker (IsTriWithin narrow_limit) (IsTriWithin broad_limit) (λ t. tri_within (lit≤ tt)) ts narrow.within;
      few = narrow.few;
      few_meshes = narrow.few_meshes;
      numbered = narrow.numbered;
      balanced = narrow.balanced;
    }
