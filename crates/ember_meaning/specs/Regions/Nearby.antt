-- The meaning of faces near points that are not clear, and expressions that agree over a scene
use Rattle.std.specs.Prelude.{◌≡◌, Bool, List, pos, ◌<ℤ◌}
use Rattle.ember_algebra.specs.Large.{Eventually}
use Rattle.ember_model.specs.declared.tri.Tri.{Tri}
use Rattle.ember_model.specs.declared.face.Face.{Face}
use Rattle.ember_model.specs.declared.point.Spot.{Spot}
use Rattle.ember_model.specs.declared.point.Axis.{Axis}
use Rattle.ember_model.specs.Clear.{AreClear}
use Rattle.ember_model.specs.Meshes.{wind, vector, faces_of}
use Rattle.ember_model.specs.Points.{offset_by}
use Rattle.ember_expr.specs.Formula.{Formula}
use Rattle.ember_expr.specs.Truth.{truth}
use Rattle.ember_meaning.specs.Regions.Meaning.{one_if, HasMeaning}

-- P holds of the point p shifted along all axes, if the shift is small enough
abbrev pub WhereShifted : Spot → (Spot → Type 0) → Type 0
WhereShifted p P = Eventually (λ k. P (offset_by p (pos k)))

-- ---- any point, shifted
-- near each point, clear or not, the faces have the meaning
abbrev pub HaveMeaningNearby : List Tri → Formula → List Face → Type 0
HaveMeaningNearby scene x faces =
    (p : Spot) → pos 0 <ℤ p.w → WhereShifted p (λ q. (a b : Axis) → HasMeaning scene x faces a b q)

-- let a point be clear of the scene's faces. The faces wind once around the shifted point if the
-- expression is true of the winding numbers at the point itself, and otherwise not at all
abbrev pub WindNearbyAsHere : List Tri → Formula → List Face → Type 0
WindNearbyAsHere scene x faces =
    (p : Spot) → pos 0 <ℤ p.w → AreClear (faces_of scene) p → WhereShifted p
    (λ q. (a b : Axis) → wind a faces q ≡ one_if (truth (vector b scene p) x))

-- ---- a point that is clear of the faces alone
-- around a point that is clear of these faces, they wind once if the expression is true at the shifted point, and
-- otherwise not at all
abbrev pub WindHereAsNearby : List Tri → Formula → List Face → Type 0
WindHereAsNearby scene x faces =
    (p : Spot) → pos 0 <ℤ p.w → AreClear faces p → WhereShifted p
    (λ q. (a b : Axis) → wind a faces p ≡ one_if (truth (vector b scene q) x))

-- around a point that is clear of these faces, they wind once or not at all, the same along all axes
abbrev pub WindOnceAtMost : List Face → Type 0
WindOnceAtMost faces =
    (p : Spot) → pos 0 <ℤ p.w → AreClear faces p → (inside : Bool) × ((a : Axis) → wind a faces p ≡ one_if inside)

-- ---- expressions
-- both expressions have the same value at the winding numbers of each point that is clear of the scene's faces
abbrev pub AgreeOver : List Tri → Formula → Formula → Type 0
AgreeOver scene x y =
    (a : Axis) (p : Spot) → pos 0 <ℤ p.w → AreClear (faces_of scene) p → truth (vector a scene p) x ≡ truth
    (vector a scene p) y
