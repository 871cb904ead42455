-- What the outputs of several commands say of the faces of one solid
use Rattle.std.specs.Prelude.{◌≡◌, ◌↔◌, ℕ, ◌+◌, ◌-◌, ◌*◌, ◌^◌, ◌<◌, ℤ, pos, ◌<ℤ◌, Bool, true, List, ◌++◌, Some}
use Rattle.std.specs.List.{list_all}
use Rattle.ember_algebra.specs.Sums.{total}
use Rattle.ember_box.specs.Reference.{reference_at}
use Rattle.ember_expr.specs.Formula.{Formula}
use Rattle.ember_expr.specs.Truth.{truth}
use Rattle.ember_meaning.specs.Regions.Meaning.{one_if}
use Rattle.ember_meaning.specs.Regions.Nearby.{AgreeOver, WhereShifted}
use Rattle.ember_model.specs.Clear.{AreClear}
use Rattle.ember_model.specs.ClearTest.{is_clear_of}
use Rattle.ember_model.specs.FaceFiles.{IsFaceFile}
use Rattle.ember_model.specs.Meshes.{faces_of, vector, wind}
use Rattle.ember_model.specs.Planes.{value_at}
use Rattle.ember_model.specs.declared.face.Face.{Face}
use Rattle.ember_model.specs.declared.point.Axis.{Axis}
use Rattle.ember_model.specs.declared.point.Spot.{Spot}
use Rattle.ember_model.specs.declared.tri.Tri.{Tri}
use Rattle.ember_slice.specs.Crossings.{ray_x, ray_y}
use Rattle.ember_slice.specs.Lines.{level}
use Rattle.ember_slice.specs.Segments.{Directed}
use Rattle.ember_voxel.specs.Grid.{char_at, is_one}
use Rattle.ember_voxel.specs.Voxels.{least_corner}
use Rattle.ember_verdict.specs.Lattices.{IsLatticeText}
use Rattle.ember_verdict.specs.Outputs.{Counts, IsOutput, SolidFaces, value_line}
use Rattle.ember_verdict.specs.Slices.{IsSlice}

-- these faces are read from the document of the solid
pub record AreFacesOfSolid (tris : List Tri) (formula : Formula) (faces : List Face) : Type 0 where
  pub file : List ℕ
  pub document : IsOutput (SolidFaces tris formula) file
  pub read : IsFaceFile file faces

-- the faces that are read from any document of the solid have the property
abbrev pub AllFacesOfSolid : List Tri → Formula → (List Face → Type 0) → Type 0
AllFacesOfSolid tris formula P = (faces : List Face) → AreFacesOfSolid tris formula faces → P faces

-- the documents of two solids over these triangles are equal exactly if the expressions agree over them
abbrev pub AreOneIfAgreeing : List Tri → Formula → Formula → Type 0
AreOneIfAgreeing tris f g =
    (one other : List ℕ) → IsOutput (SolidFaces tris f) one → IsOutput (SolidFaces tris g) other →
    (one ≡ other) ↔ AgreeOver tris f g

-- along all axes the faces wind once around p if `inside` is true, and otherwise not at all
abbrev pub WindOnceIf : Bool → List Face → Spot → Type 0
WindOnceIf inside faces p = (axis : Axis) → wind axis faces p ≡ one_if inside

-- ---- slices
-- a point of the plane z = at + 1/2
pub record IsAtLevel (at : ℤ) (p : Spot) : Type 0 where
  pub weight : pos 0 <ℤ p.w
  pub on : value_at (level at) p ≡ pos 0

-- the signed crossings of the segments with the ray from p along x add up to 1 if `inside` is true, and otherwise to
-- 0; so do those along y
pub record CrossOnceIf (inside : Bool) (segments : List Directed) (p : Spot) : Type 0 where
  pub along_x : total (ray_x p) segments ≡ one_if inside
  pub along_y : total (ray_y p) segments ≡ one_if inside

-- at each point of the level that is clear of the scene and of the faces, they add up to 1 if the expression is true
-- there, and otherwise to 0
abbrev pub SegmentsHaveMeaning : List Tri → Formula → ℤ → List Face → List Directed → Type 0
SegmentsHaveMeaning tris formula at faces segments =
    (axis : Axis) (p : Spot) → IsAtLevel at p → AreClear (faces_of tris) p → AreClear faces p → CrossOnceIf
    (truth (vector axis tris p) formula) segments p

-- at each point of the level that is clear of the faces alone, they add up to 1, or they add up to 0
abbrev pub SegmentsCrossOnceAtMost : ℤ → List Face → List Directed → Type 0
SegmentsCrossOnceAtMost at faces segments =
    (p : Spot) → IsAtLevel at p → AreClear faces p → (inside : Bool) × CrossOnceIf inside segments p

-- the segments of each slice of the document have the meaning
abbrev pub SlicesHaveMeaning : List Tri → Formula → List ℕ → Type 0
SlicesHaveMeaning tris formula document =
    (at : ℤ) (text : List ℕ) (slice : IsSlice at document text) →
    SegmentsHaveMeaning tris formula at slice.0 slice.2.segments

-- the segments of each slice of the document cross once or not at all
abbrev pub SlicesCrossOnceAtMost : List ℕ → Type 0
SlicesCrossOnceAtMost document =
    (at : ℤ) (text : List ℕ) (slice : IsSlice at document text) → SegmentsCrossOnceAtMost at slice.0 slice.2.segments

-- ---- points
-- at each point that passes the test for being clear of the triangles, each winding number is the same along all axes
abbrev pub CountsAgreeWhereClear : List Tri → Type 0
CountsAgreeWhereClear tris =
    (point : Spot) → pos 0 <ℤ point.w → list_all (λ t. is_clear_of t point) tris ≡ true → (axis other : Axis) →
    vector axis tris point ≡ vector other tris point

-- `at` writes this text for the point, which is clear of the scene's faces
pub record IsTextAt (tris : List Tri) (formula : Formula) (p : Spot) (text : List ℕ) : Type 0 where
  pub weight : pos 0 <ℤ p.w
  pub clear : list_all (λ t. is_clear_of t p) tris ≡ true
  pub meshes : ℕ
  pub output : IsOutput (Counts p meshes tris (Some formula)) text

-- the text ends with the line of the value
pub record ShowsValue (text : List ℕ) (value : Bool) : Type 0 where
  pub counts : List ℕ
  pub is : text ≡ counts ++ value_line value

-- if p is clear of the faces, they wind once around p if the value in the text is 1, and not at all if it is 0;
-- in any case they do so around p shifted by little enough
pub record ValueIsOfFaces (text : List ℕ) (faces : List Face) (p : Spot) : Type 0 where
  pub value : Bool
  pub shown : ShowsValue text value
  pub clear : AreClear faces p → WindOnceIf value faces p
  pub nearby : WhereShifted p (λ q. WindOnceIf value faces q)

-- what `at` writes for any point is of the faces
abbrev pub ValuesAreOfFaces : List Tri → Formula → List Face → Type 0
ValuesAreOfFaces tris formula faces =
    (p : Spot) (text : List ℕ) → IsTextAt tris formula p text → ValueIsOfFaces text faces p

-- ---- lattices
-- the cell (i, j, l) of a lattice of cells of the side 2 ^ size
pub record IsCell (size i j l : ℕ) : Type 0 where
  pub on_x : i < 2 ^ (12 - size)
  pub on_y : j < 2 ^ (12 - size)
  pub on_z : l < 2 ^ (12 - size)

-- the reference point of the cell (i, j, l)
abbrev pub cell_point : ℕ → ℕ → ℕ → ℕ → Spot
cell_point size i j l = reference_at (least_corner size i j l)

-- the bit of the cell (i, j, l) in the rows of the lattice
abbrev pub bit_at : ℕ → List ℕ → ℕ → ℕ → ℕ → Bool
bit_at size rows i j l = is_one (char_at (2 ^ (12 - size)) rows (l * 2 ^ (12 - size) + j) i)

-- the faces wind as the bits say, at each reference point that is clear of them
abbrev pub BitsAreOfFaces : ℕ → List ℕ → List Face → Type 0
BitsAreOfFaces size rows faces =
    (i j l : ℕ) → IsCell size i j l → AreClear faces (cell_point size i j l) → WindOnceIf
    (bit_at size rows i j l) faces (cell_point size i j l)

-- the faces wind as the bits say around every reference point, shifted by little enough
abbrev pub BitsAreOfFacesNearby : ℕ → List ℕ → List Face → Type 0
BitsAreOfFacesNearby size rows faces =
    (i j l : ℕ) → IsCell size i j l → WhereShifted (cell_point size i j l)
    (λ q. WindOnceIf (bit_at size rows i j l) faces q)

-- the bits of each lattice of the solid are of the faces that are read from its document
abbrev pub LatticesSample : List Tri → Formula → Type 0
LatticesSample tris formula =
    (faces : List Face) → AreFacesOfSolid tris formula faces → (size : ℕ) (text : List ℕ)
    (lattice : IsLatticeText tris formula size text) → BitsAreOfFaces size lattice.rows faces

-- the same around the reference points, shifted by little enough
abbrev pub LatticesSampleNearby : List Tri → Formula → Type 0
LatticesSampleNearby tris formula =
    (faces : List Face) → AreFacesOfSolid tris formula faces → (size : ℕ) (text : List ℕ)
    (lattice : IsLatticeText tris formula size text) → BitsAreOfFacesNearby size lattice.rows faces
