-- Pieces of lines and of reports
use Rattle.std.specs.Prelude.{◌≡◌, ℕ, ℤ, ◌+ℤ◌, ◌*ℤ◌, ◌-◌, ◌*◌, ◌^◌, false, List, [], ◌++◌, All, codes, map}
use Rattle.std.specs.Prelude.{get_or, pos, nat_le, ◌==◌, unsigned_abs, if◌then◌else◌}
use Rattle.std.specs.Char.{is_ascii_control}
use Rattle.ember_model.specs.declared.point.Corner.{Corner}
use Rattle.mesh_grid.specs.declared.grid.extent.SceneExtent.{SceneExtent}
use Rattle.mesh_grid.specs.declared.grid.grid.Grid.{Grid}
use Rattle.mesh_grid.specs.declared.snap.steps.GridStep.{GridStep}
use Rattle.mesh_grid.specs.Grid.Lengths.{trillion}
use Rattle.mesh_grid.specs.Moves.Shown.{Rounded}
use Rattle.mesh_number.specs.Number.Fractions.{Fraction}
use Rattle.mesh_words.specs.declared.command.WantedStep.{WantedStep}
use Rattle.mesh_words.specs.declared.command.WantedStep.TheVariants as step
use Rattle.mesh_written.specs.Decimals.{decimal_of}

-- the name of file i, from 1
abbrev pub name_of : List (List ℕ) → ℕ → List ℕ
name_of names i = get_or names (i - 1) []

-- ---- lines
-- a question mark stands for a control character of ASCII, as a line feed or an escape
abbrev pub visible_byte : ℕ → ℕ
visible_byte byte = if is_ascii_control byte then 63 else byte

abbrev pub visible : List ℕ → List ℕ
visible text = map visible_byte text

-- a line of the program
abbrev pub line : List ℕ → List ℕ
line text = codes "ember-mesh: " ++ (visible text ++ codes "\n")

-- the line feed at the end is the only control character
pub record IsOneLine (text : List ℕ) : Type 0 where
  pub said : List ℕ
  pub is_said : text ≡ said ++ codes "\n"
  pub is_visible : All (λ byte. is_ascii_control byte ≡ false) said

-- ---- pieces of lines
-- a step in the user's unit
abbrev pub step_text : GridStep → List ℕ
step_text s = decimal_of (record { numerator = pos s.numerator; denominator = s.denominator }) 12

-- how long a scene is, in the user's unit
abbrev pub length_text : SceneExtent → List ℕ
length_text e = decimal_of (record { numerator = pos e.trillionths; denominator = trillion }) 12

-- size / 10 ^ places
abbrev pub size_text : ℕ → ℕ → List ℕ
size_text size places = decimal_of (record { numerator = pos size; denominator = 10 ^ places }) places

-- said of a move of 0
abbrev pub still_text : ℕ → List ℕ
still_text size = if size == 0 then codes " (nothing moved)" else []

-- how far corners move at most, in the user's unit
abbrev pub move_text : Rounded → List ℕ
move_text r = size_text r.size r.places ++ still_text r.size

-- the value of --step
abbrev pub wanted_text : WantedStep → List ℕ
wanted_text step.Nice = codes "nice"
wanted_text step.Finest = codes "finest"
wanted_text (step.Decimal text) = text

-- a number of the user's unit; from 10^21 on it isn't shown
abbrev pub shown : Fraction → List ℕ
shown v =
    if nat_le (10 ^ 21 * v.denominator) (unsigned_abs v.numerator) then codes "?" else decimal_of v 12

-- where a coordinate of a corner lies in the user's unit: as that of a point of weight 1
abbrev pub grid_place : Grid → ℤ → ℤ → Fraction
grid_place g x offset = record {
  numerator = (x +ℤ offset *ℤ pos 1) *ℤ pos g.step.numerator;
  denominator = g.step.denominator * 1;
}

-- `(X Y Z)` in the user's unit
abbrev pub corner_text : Grid → Corner → List ℕ
corner_text g c =
    codes "(" ++ (shown (grid_place g c.x g.offset.x) ++
    (codes " " ++ (shown (grid_place g c.y g.offset.y) ++
    (codes " " ++ (shown (grid_place g c.z g.offset.z) ++ codes ")")))))
