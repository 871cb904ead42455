-- Triangles that stay whole, in place of the parts of their faces
use Rattle.std.specs.Prelude.{◌≡◌, ◌⊎◌, ℕ, nat_eq, ℤ, pos, ◌<ℤ◌, Bool, true, false, not, cond, if◌then◌else◌}
use Rattle.std.specs.Prelude.{List, [], ◌∷◌, ◌++◌, map, filter, Some, slice_get}
use Rattle.std.specs.List.{AllByRecursion, IsDistinct, list_any}
use Rattle.ember_algebra.specs.Large.{Eventually}
use Rattle.ember_algebra.specs.Relations.{Each}
use Rattle.ember_algebra.specs.Sign.{is_positive}
use Rattle.ember_model.specs.declared.tri.Tri.{Tri}
use Rattle.ember_model.specs.declared.point.Spot.{Spot}
use Rattle.ember_model.specs.declared.point.Axis.{Axis}
use Rattle.ember_model.specs.declared.face.Face.{Face}
use Rattle.ember_model.specs.Points.{offset_by}
use Rattle.ember_model.specs.Planes.{along, main_axis, support_of, opposite}
use Rattle.ember_model.specs.Faces.{is_flat, face_of, flipped_face, is_in_closed}
use Rattle.ember_model.specs.Clear.{AreClear}
use Rattle.ember_model.specs.Meshes.{wind, faces_of, vector}
use Rattle.ember_model.specs.Sides.{IsSides}
use Rattle.ember_alone.specs.Touch.{IsAlone}
use Rattle.ember_alone.specs.UniformSides.{IsPart}

-- ---- faces that wind where a condition holds
-- at each clear point and for all axes: the faces wind once around it if the condition holds of the winding numbers
-- of the meshes there, and otherwise not at all. For the condition of an expression this is `HaveMeaning` of
-- ember_meaning
abbrev pub WindWhere : List Tri → (List ℤ → Bool) → List Face → Type 0
WindWhere ts x fs =
    (a b : Axis) (p : Spot) → pos 0 <ℤ p.w → AreClear (faces_of ts) p → AreClear fs p →
    wind a fs p ≡ cond (x (vector b ts p)) (pos 1) (pos 0)

-- near every point there are points that are clear of the faces: the point shifted along all axes by little enough
abbrev pub AreMissedNearby : List Face → Type 0
AreMissedNearby fs = (p : Spot) → pos 0 <ℤ p.w → Eventually (λ k. AreClear fs (offset_by p (pos k)))

-- ---- fragments of triangles
-- a face, and the index of the triangle of which it is a fragment
pub record Fragment : Type 0 where
  pub triangle : ℕ
  pub face : Face

-- the closed fragment lies in the closed face of its triangle; it has the triangle's front or the opposite one
pub record IsFragmentOf (ts : List Tri) (k : Fragment) : Type 0 where
  pub tri : Tri
  pub here : slice_get ts k.triangle ≡ Some tri
  pub full : is_flat tri ≡ false
  pub support : (k.face.support ≡ support_of tri) ⊎ (k.face.support ≡ opposite (support_of tri))
  pub closed : (v : Spot) → is_in_closed k.face v ≡ true → is_in_closed (face_of tri) v ≡ true

-- their faces
abbrev pub faces : List Fragment → List Face
faces ks = map (λ k. k.face) ks

-- the fragments of all triangles that aren't listed
abbrev pub without : List ℕ → List Fragment → List Fragment
without listed ks = filter (λ k. not (list_any (nat_eq k.triangle) listed)) ks

-- ---- whole triangles
-- of the winding numbers before and after a face along its main axis: those behind it, and those in front
abbrev pub behind : Face → List ℤ → List ℤ → List ℤ
behind f before after = if is_positive (along f.support (main_axis f.support)) then before else after

abbrev pub in_front : Face → List ℤ → List ℤ → List ℤ
in_front f before after = if is_positive (along f.support (main_axis f.support)) then after else before

-- what separates the two sides of f, if the condition has these values behind and in front of it: nothing if they are
-- equal; otherwise f, flipped if it holds in front
abbrev pub separating : Bool → Bool → Face → List Face
separating true true f = []
separating true false f = f ∷ []
separating false true f = flipped_face f ∷ []
separating false false f = []

-- the triangle with the index i is alone, and fs is what separates its sides. The winding numbers there are those of
-- any part of its face
pub record StaysWhole (ts : List Tri) (x : List ℤ → Bool) (i : ℕ) (fs : List Face) : Type 0 where
  pub tri : Tri
  pub here : slice_get ts i ≡ Some tri
  pub full : is_flat tri ≡ false
  pub alone : IsAlone ts i
  pub part : Face
  pub is_part : IsPart (face_of tri) part
  pub before : List ℤ
  pub after : List ℤ
  pub sides : IsSides ts part before after
  pub is : fs ≡ separating (x (behind part before after)) (x (in_front part before after)) (face_of tri)

-- the listed triangles stay whole, and fs is what separates the sides of each
abbrev pub StayWhole : List Tri → (List ℤ → Bool) → List ℕ → List Face → Type 0
StayWhole ts x listed fs = Each (StaysWhole ts x) listed fs

-- let fragments of the triangles wind where a condition holds. Then so do the listed triangles, whole, together with
-- the fragments of all others
abbrev pub WholeFacesWindAlike : List Tri → Type 0
WholeFacesWindAlike ts =
    (x : List ℤ → Bool) (ks : List Fragment) (listed : List ℕ) (fs : List Face) →
    AllByRecursion (IsFragmentOf ts) ks → AreMissedNearby (faces ks) → WindWhere ts x (faces ks) →
    IsDistinct nat_eq listed → StayWhole ts x listed fs → WindWhere ts x (fs ++ faces (without listed ks))
