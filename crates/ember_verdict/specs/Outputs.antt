-- What each command writes
use Rattle.std.specs.Prelude.{◌≡◌, ℕ, ◌+◌, ℤ, Bool, true, false, List, [], ◌∷◌, ◌++◌, take, codes, decimal, None, Some}
use Rattle.std.specs.declared.option.Option.{Option}
use Rattle.std.specs.Fmt.{signed_decimal}
use Rattle.ember_expr.specs.Formula.{Formula}
use Rattle.ember_expr.specs.Truth.{truth}
use Rattle.ember_model.specs.declared.point.Axis.TheVariants.{X}
use Rattle.ember_model.specs.declared.point.Spot.{Spot}
use Rattle.ember_model.specs.declared.tri.Tri.{Tri}
use Rattle.ember_model.specs.Meshes.{vector}
use Rattle.ember_verdict.specs.FaceTexts.{IsFaceFileOf}
use Rattle.ember_verdict.specs.Lattices.{IsLatticeText}
use Rattle.ember_verdict.specs.PairLists.{IsPairsText}
use Rattle.ember_verdict.specs.Solids.{IsReportText, IsSolidFile}

-- what a command writes, by what it is made of
pub data Output : Type 0 where
  -- the faces of these triangles, in order
  FaceTexts : List Tri → Output
  -- the winding numbers of `meshes` meshes at a point, and the value of an expression there, if one is given
  Counts : (point : Spot) (meshes : ℕ) (tris : List Tri) (expr : Option Formula) → Output
  -- the list of the pairs of these triangles that meet
  MeetingPairs : List Tri → Output
  -- the faces of the solid of these triangles, with their meaning
  SolidFaces : (tris : List Tri) (formula : Formula) → Output
  -- the report of the run that gives that solid
  SolidReport : (tris : List Tri) (formula : Formula) → Output
  -- the solid of these triangles, sampled at cells of the side 2 ^ size
  Lattice : (tris : List Tri) (formula : Formula) (size : ℕ) → Output

-- ---- winding numbers at a point, a line for each mesh from this one on, and then the value
abbrev pub count_line : ℕ → ℤ → List ℕ
count_line mesh count = codes "w" ++ (decimal mesh ++ (codes " " ++ (signed_decimal count ++ codes "\n")))

-- the lines of several meshes
abbrev pub count_lines : ℕ → List ℤ → List ℕ
count_lines mesh [] = []
count_lines mesh (count ∷ counts) = count_line mesh count ++ count_lines (mesh + 1) counts

-- the line of the expression's value
abbrev pub value_line : Bool → List ℕ
value_line true = codes "value 1\n"
value_line false = codes "value 0\n"

-- the line of the value if an expression is given, otherwise nothing
abbrev pub value_lines : List ℤ → Option Formula → List ℕ
value_lines counts None = []
value_lines counts (Some formula) = value_line (truth counts formula)

-- the lines of the first `meshes` meshes, and that of the value
abbrev pub counts_text : ℕ → List ℤ → Option Formula → List ℕ
counts_text meshes counts expr = count_lines 1 (take meshes counts) ++ value_lines counts expr

-- the bytes are this output
abbrev pub IsOutput : Output → List ℕ → Type 0
IsOutput (FaceTexts tris) bytes = IsFaceFileOf tris bytes
IsOutput (Counts point meshes tris expr) bytes = bytes ≡ counts_text meshes (vector X tris point) expr
IsOutput (MeetingPairs tris) bytes = IsPairsText tris bytes
IsOutput (Lattice tris formula size) bytes = IsLatticeText tris formula size bytes
IsOutput (SolidFaces tris formula) bytes = IsSolidFile tris formula bytes
IsOutput (SolidReport tris formula) bytes = IsReportText tris formula bytes
