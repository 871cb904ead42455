-- The line of JSON of a mesh
use Rattle.std.specs.Prelude.{◌≡◌, ℕ, ◌+◌, ◌/◌, ◌%◌, nat_lt, ◌==◌, if◌then◌else◌, IsTrue, IsFalse, ℤ}
use Rattle.std.specs.Prelude.{unsigned_abs, List, [], ◌∷◌, ◌++◌, Some, codes, decimal}
use Rattle.std.specs.Float.{Float, binary64, float_is_finite}
use Rattle.ryu.specs.Parse.{parse_float}
use Rattle.ryu.specs.Plain.{IsPlainNumber}
use Rattle.ember_algebra.specs.Sign.{is_negative}
use Rattle.mesh_number.specs.Round.Decimals.{decimal_text}
use Rattle.mesh_write.specs.declared.vertices.point.DecimalPoint.{DecimalPoint}
use Rattle.mesh_read.specs.declared.surface.surface.Surface.{Surface}
use Rattle.mesh_info.specs.declared.info.bounds.BoundingBox.{BoundingBox}
use Rattle.mesh_info.specs.declared.info.info.Info.{Info}
use Rattle.mesh_info.specs.Info.Infos.{IsInfo}

-- ---- texts
-- a digit in base 16
abbrev pub hex_digit : ℕ → ℕ
hex_digit n = if nat_lt n 10 then 48 + n else 87 + n

-- a byte between quotes: a quote (34) and a backslash (92) behind a backslash, and a control character as \u00XX
abbrev pub escaped_byte : ℕ → List ℕ
escaped_byte b =
    if b == 34 then 92 ∷ 34 ∷ []
    else (if b == 92 then 92 ∷ 92 ∷ []
    else (if nat_lt b 32 then 92 ∷ (codes "u00" ++ hex_digit (b / 16) ∷ hex_digit (b % 16) ∷ [])
    else b ∷ []))

abbrev pub escaped : List ℕ → List ℕ
escaped [] = []
escaped (b ∷ bs) = escaped_byte b ++ escaped bs

abbrev pub quoted : List ℕ → List ℕ
quoted text = 34 ∷ (escaped text ++ 34 ∷ [])

-- `, "KEY": `
abbrev pub key_text : List ℕ → List ℕ
key_text key = codes ", " ++ (quoted key ++ codes ": ")

-- ---- numbers
-- trillionths of the unit, as a decimal
abbrev pub trillionths_text : ℤ → List ℕ
trillionths_text z = decimal_text (is_negative z) (unsigned_abs z) 12

-- `[X, Y, Z]`
abbrev pub point_text : DecimalPoint → List ℕ
point_text p =
    codes "[" ++ (trillionths_text p.x ++ (codes ", " ++ (trillionths_text p.y ++ (codes ", " ++
    (trillionths_text p.z ++ codes "]")))))

-- a number of JSON from which the float can be read back; `null` if it isn't finite
pub record IsFloatText (float : Float) (text : List ℕ) : Type 0 where
  pub plain : IsTrue (float_is_finite float) → IsPlainNumber text
  pub reads_back : IsTrue (float_is_finite float) → parse_float binary64 text ≡ Some float
  pub other : IsFalse (float_is_finite float) → text ≡ codes "null"

-- ---- the line
abbrev pub counts_text : Info → List ℕ
counts_text info =
    key_text (codes "triangles") ++ (decimal info.triangles ++
    (key_text (codes "positions") ++ (decimal info.positions ++
    (key_text (codes "loose edges") ++ (decimal info.loose ++
    (key_text (codes "edges of more than two triangles") ++ decimal info.shared))))))

-- `{"file": "NAME"`
abbrev pub head_text : List ℕ → List ℕ
head_text name = codes "{" ++ (quoted (codes "file") ++ (codes ": " ++ quoted name))

abbrev pub box_text : BoundingBox → List ℕ
box_text b =
    key_text (codes "from") ++ (point_text b.lower ++ (key_text (codes "to") ++ point_text b.upper))

-- the line of the mesh with this name, in which the volume has this text
abbrev pub line_text : List ℕ → Info → List ℕ → List ℕ
line_text name info volume =
    head_text name ++ (counts_text info ++ (key_text (codes "volume") ++ (volume ++
    (box_text info.bounds ++ codes "}\n"))))

-- a line that says this of the mesh with this name
pub record IsLine (name : List ℕ) (info : Info) (line : List ℕ) : Type 0 where
  pub volume : List ℕ
  pub is_volume : IsFloatText info.volume volume
  pub text_is : line ≡ line_text name info volume

-- a line that says what is said of a surface with this name
pub record IsInfoLine (name : List ℕ) (surface : Surface) (line : List ℕ) : Type 0 where
  pub info : Info
  pub is_info : IsInfo surface info
  pub is_line : IsLine name info line
