-- Written regions as fragments of the triangles of their scene, and whole triangles in place of some of them
use Rattle.std.specs.Prelude.{◌≡◌, ℕ, nat_eq, List, ◌++◌, map}
use Rattle.std.specs.List.{AllByRecursion, IsDistinct}
use Rattle.ember_model.specs.declared.tri.Tri.{Tri}
use Rattle.ember_model.specs.declared.face.Face.{Face}
use Rattle.ember_expr.specs.Formula.{Formula}
use Rattle.ember_expr.specs.Truth.{truth}
use Rattle.ember_leaf.specs.KeptRegions.{NarrowKept as Kept}
use Rattle.ember_text.specs.Documents.{written_face}
use Rattle.ember_alone.specs.Whole.{AreMissedNearby, Fragment, IsFragmentOf, faces, without, StayWhole}
use Rattle.ember_meaning.specs.Regions.Meaning.{HaveMeaning}

-- the faces of these regions, each a fragment of a triangle of the scene. Near every point there are points that are
-- clear of them
pub record AreFragments (scene : List Tri) (ks : List Kept) : Type 0 where
  pub fragments : List Fragment
  pub are : faces fragments ≡ map written_face ks
  pub of_scene : AllByRecursion (IsFragmentOf scene) fragments
  pub near : AreMissedNearby (faces fragments)

-- the listed triangles, whole, and the fragments of all others have the meaning of the expression
abbrev pub WholeFacesHaveMeaning : List Tri → Formula → List Fragment → Type 0
WholeFacesHaveMeaning scene x fragments =
    (listed : List ℕ) (fs : List Face) → IsDistinct nat_eq listed → StayWhole scene (λ v. truth v x) listed fs →
    HaveMeaning scene x (fs ++ faces (without listed fragments))
