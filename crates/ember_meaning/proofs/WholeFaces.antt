-- Whole faces keep the meaning, and faces with a meaning are closed.
use Rattle.std.proofs.Common.{sym, subst, ◌∙◌, List, map}
use Rattle.std.specs.List.{AllByRecursion}
use Rattle.ember_model.specs.declared.tri.Tri.{Tri}
use Rattle.ember_model.specs.declared.face.Face.{Face}
use Rattle.ember_model.specs.declared.point.Axis.TheVariants.{X}
use Rattle.ember_model.specs.FaceFiles.{WrittenFace}
use Rattle.ember_model.specs.Meshes.{IsScene}
use Rattle.ember_expr.specs.Formula.{Formula}
use Rattle.ember_expr.specs.Truth.{truth}
use Rattle.ember_leaf.specs.KeptRegions.{NarrowKept as Kept}
use Rattle.ember_leaf.specs.Scenes.{IsWritten}
use Rattle.ember_alone.proofs.WholeFaces.{whole_faces_wind_alike}
use Rattle.ember_meaning.specs.Closed.Chains.{face_from, IsClosedSurface, IsOutlined}
use Rattle.ember_meaning.specs.Regions.Meaning.{HaveMeaning, IsFalseOutside}
use Rattle.ember_meaning.proofs.ClearMeaning.{meaning_of_written}
use Rattle.ember_meaning.proofs.ClosedSurfaces.{closed_faces}
use Rattle.ember_meaning.specs.Whole.Written.{AreFragments, WholeFacesHaveMeaning}

-- by the meaning of all written regions
pub whole_meaning : (scene : List Tri) (f : Formula) (ks : List Kept) → IsScene scene 64 → IsWritten scene f ks → IsFalseOutside f →
    (are : AreFragments scene ks) → WholeFacesHaveMeaning scene f are.fragments
whole_meaning scene f ks s w o are listed fs d stay =
    whole_faces_wind_alike scene s.balanced (λ v. truth v f) are.fragments listed fs are.of_scene are.near
    (subst (λ (gs : List Face). HaveMeaning scene f gs) (sym are.are) (meaning_of_written scene 64 f ks s w o)) d stay

-- since they wind alike along all axes
pub meaning_is_closed : (scene : List Tri) (f : Formula) (ws : List WrittenFace) → AllByRecursion IsOutlined ws →
    HaveMeaning scene f (map face_from ws) → IsClosedSurface ws
meaning_is_closed scene f ws lines meaning =
    closed_faces scene ws lines (λ a b p w clear clear_faces. meaning a X p w clear clear_faces ∙ sym (meaning b X p w clear clear_faces))
