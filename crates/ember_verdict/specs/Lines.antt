-- The number of a status, and its line on err
use Rattle.std.specs.Prelude.{ℕ, ◌-◌, List, [], ◌++◌, codes, decimal, get_or}
use Rattle.std.specs.Fmt.{signed_decimal}
use Rattle.ember_balance.specs.declared.loose.Loose.{Loose}
use Rattle.ember_dec.specs.declared.DecFault.{DecFault}
use Rattle.ember_dec.specs.declared.DecFault.TheVariants.{Malformed, Fraction, Range}
use Rattle.ember_expr.specs.declared.fault.ExprFault.{ExprFault}
use Rattle.ember_expr.specs.declared.fault.ExprFault.TheVariants as expr
use Rattle.ember_mesh.specs.declared.fault.MeshFault.{MeshFault}
use Rattle.ember_mesh.specs.declared.fault.MeshFault.TheVariants as mesh
use Rattle.ember_model.specs.declared.point.Corner.{Corner}
use Rattle.ember_obj.specs.declared.fault.ObjFault.{ObjFault}
use Rattle.ember_obj.specs.declared.fault.ObjFault.TheVariants as obj
use Rattle.ember_verdict.specs.declared.status.FaceFault.{FaceFault}
use Rattle.ember_verdict.specs.declared.status.FaceFault.TheVariants.{Form, Endless}
use Rattle.ember_verdict.specs.declared.status.LimitKind.TheVariants.{Bytes, Triangles}
use Rattle.ember_verdict.specs.declared.status.Status.{Status}
use Rattle.ember_verdict.specs.declared.status.Status.TheVariants.{Done, Words, ReadFault, WriteFault}
use Rattle.ember_verdict.specs.declared.status.Status.TheVariants.{ObjRefused, MeshRefused, ExprRefused}
use Rattle.ember_verdict.specs.declared.status.Status.TheVariants.{Unbounded, Limit, NotClear}
use Rattle.ember_verdict.specs.declared.status.Status.TheVariants.{FaceRefused, OutOfMemory}

-- the exit status
abbrev pub number_of : Status → ℕ
number_of Done = 0
number_of Words = 2
number_of (ReadFault i) = 3
number_of WriteFault = 4
number_of (ObjRefused i fault) = 5
number_of (MeshRefused i fault) = 6
number_of (ExprRefused fault) = 7
number_of Unbounded = 8
number_of (Limit kind count) = 9
number_of NotClear = 10
number_of (FaceRefused fault) = 11
number_of OutOfMemory = 12

-- the name of file i, from 1; 0 counts as 1
abbrev pub name_of : List (List ℕ) → ℕ → List ℕ
name_of names i = get_or names (i - 1) []

-- the line of out-of-memory
abbrev pub memory_line : List ℕ
memory_line = codes "ember: out of memory\n"

-- ---- the line of a file's first fault
abbrev pub fault_line : List ℕ → ℕ → List ℕ → List ℕ
fault_line name line fault =
    codes "ember: " ++ (name ++ (codes ": line " ++ (decimal line ++ (codes ": " ++ (fault ++ codes "\n")))))

-- what is wrong with a coordinate, in words
abbrev pub decimal_text : DecFault → List ℕ
decimal_text Malformed = codes "coordinate malformed"
decimal_text Fraction = codes "coordinate fraction"
decimal_text Range = codes "coordinate range"

-- the line of an OBJ file's fault
abbrev pub obj_line : List ℕ → ObjFault → List ℕ
obj_line name (obj.Word line) = fault_line name line (codes "word")
obj_line name (obj.Coordinate line fault) = fault_line name line (decimal_text fault)
obj_line name (obj.Index line) = fault_line name line (codes "index")
obj_line name (obj.FewCorners line) = fault_line name line (codes "few corners")
obj_line name (obj.LongLine line) = fault_line name line (codes "long line")
obj_line name (obj.TooMany line) = fault_line name line (codes "too many")
obj_line name obj.OutOfMemory = memory_line

-- ---- the line of an edge that occurs more often than its reverse
abbrev pub after_corner : Corner → List ℕ → List ℕ
after_corner c rest =
    signed_decimal c.x ++ (codes " " ++ (signed_decimal c.y ++ (codes " " ++ (signed_decimal c.z ++ rest))))

-- the line with both ends of the edge and how often it occurs each way
abbrev pub loose_line : List ℕ → Loose → List ℕ
loose_line name loose =
    codes "ember: " ++ (name ++
    (codes ": edge " ++ after_corner loose.from (codes " to " ++
    after_corner loose.to (codes " stands " ++
    (decimal loose.there ++ (codes " times and " ++ (decimal loose.back ++ codes " times reversed\n")))))))

-- the line of a mesh that isn't closed
abbrev pub mesh_line : List ℕ → MeshFault → List ℕ
mesh_line name (mesh.Unbalanced loose) = loose_line name loose
mesh_line name mesh.OutOfMemory = memory_line

-- ---- the line of an expression's first fault
abbrev pub place_line : List ℕ → ℕ → List ℕ
place_line fault place = codes "ember: expression: " ++ (fault ++ (codes " at " ++ (decimal place ++ codes "\n")))

-- an expression that names mesh n, which isn't given
abbrev pub no_mesh_line : ℕ → List ℕ
no_mesh_line n = codes "ember: expression: no mesh " ++ (decimal n ++ codes "\n")

-- any fault of an expression
abbrev pub expr_line : ExprFault → List ℕ
expr_line (expr.Syntax place) = place_line (codes "syntax") place
expr_line (expr.Deep place) = place_line (codes "deep") place
expr_line (expr.Number place) = place_line (codes "number") place
expr_line (expr.NoMesh n) = no_mesh_line n
expr_line expr.Long = codes "ember: expression: long\n"
expr_line expr.OutOfMemory = memory_line

-- ---- further lines
abbrev pub triangles_line : ℕ → List ℕ
triangles_line count = codes "ember: " ++ (decimal count ++ codes " triangles\n")

-- face n of a face file is endless
abbrev pub endless_line : List ℕ → ℕ → List ℕ
endless_line name n = codes "ember: " ++ (name ++ (codes ": face " ++ (decimal n ++ codes " endless\n")))

-- any fault of a face file
abbrev pub face_line : List ℕ → FaceFault → List ℕ
face_line name Form = codes "ember: " ++ (name ++ codes ": not a face file\n")
face_line name (Endless n) = endless_line name n

-- the line on err of a status; the files of the words have these names
abbrev pub line_on_err : List (List ℕ) → Status → List ℕ
line_on_err names Done = []
line_on_err names Words = codes "ember: words refused\n"
line_on_err names (ReadFault i) = codes "ember: cannot read " ++ (name_of names i ++ codes "\n")
line_on_err names WriteFault = codes "ember: cannot write\n"
line_on_err names (ObjRefused i fault) = obj_line (name_of names i) fault
line_on_err names (MeshRefused i fault) = mesh_line (name_of names i) fault
line_on_err names (ExprRefused fault) = expr_line fault
line_on_err names Unbounded = codes "ember: expression holds outside all meshes\n"
line_on_err names (Limit (Bytes i) count) =
    codes "ember: " ++ (name_of names i ++ codes ": more than 268435456 bytes\n")
line_on_err names (Limit Triangles count) = triangles_line count
line_on_err names NotClear = codes "ember: point not clear\n"
line_on_err names (FaceRefused fault) = face_line (name_of names 1) fault
line_on_err names OutOfMemory = memory_line

-- what err takes: the report after success, otherwise the line of the status
abbrev pub text_on_err : List (List ℕ) → Status → List ℕ → List ℕ
text_on_err names Done report = report
text_on_err names status report = line_on_err names status
