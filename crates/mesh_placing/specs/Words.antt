-- Steps as text: move=X,Y,Z  scale=S  scale=X,Y,Z  turn=AXIS,DEGREES  mirror=AXIS, with semicolons between them
use Rattle.std.specs.Prelude.{ℕ, ◌+◌, ◌^◌, ◌==◌, ◌&&◌, nat_eq, nat_le, codes, if◌then◌else◌}
use Rattle.std.specs.Prelude.{List, [], ◌∷◌, length, drop, Option, None, Some, Result, Ok, Err, pos, unsigned_abs}
use Rattle.std.specs.Int.{int_rem_euclid}
use Rattle.std.specs.List.{starts_with}
use Rattle.mesh_number.specs.Number.Fractions.{Fraction, is_below_limit, floor_of_multiple}
use Rattle.mesh_number.specs.Number.Texts.{value_of_text}
use Rattle.ember_obj.specs.Scan.{before, onward}
use Rattle.mesh_read.specs.Surface.Surfaces.{Point, point_of}
use Rattle.mesh_place.specs.declared.maps.axes.Axis.{Axis}
use Rattle.mesh_place.specs.declared.maps.axes.Axis.TheVariants.{X, Y, Z}
use Rattle.mesh_place.specs.declared.maps.steps.Step.{Step}
use Rattle.mesh_place.specs.declared.maps.steps.Step.TheVariants as step
use Rattle.mesh_placing.specs.declared.words.TextFault.{TextFault}
use Rattle.mesh_placing.specs.declared.words.TextFault.TheVariants.{Unknown, NoNumbers, NoAxis, NoAngle}

-- a step as a text says it
pub data Said : Type 0 where
  move : Point → Said
  scale : Point → Said
  turn : Axis → ℕ → Said
  mirror : Axis → Said

-- a step as definitions see it
abbrev pub said_by : Step → Said
said_by (step.Move by) = move (point_of by)
said_by (step.Scale by) = scale (point_of by)
said_by (step.Turn axis angle) = turn axis angle.trillionths
said_by (step.Mirror axis) = mirror axis

abbrev pub then_some : {A B : Type 0} → Option A → (A → Option B) → Option B
then_some None next = None
then_some (Some a) next = next a

-- ---- parts of a text
abbrev pub behind_first : List ℕ → Option (List ℕ)
behind_first [] = None
behind_first (b ∷ bs) = Some bs

-- what is behind the first byte of this kind
abbrev pub behind : ℕ → List ℕ → Option (List ℕ)
behind stop text = behind_first (onward (λ b. b == stop) text)

abbrev pub part_before : ℕ → List ℕ → List ℕ
part_before stop text = before (λ b. b == stop) text

-- the text behind this head, if it begins with it
abbrev pub behind_head : List ℕ → List ℕ → Option (List ℕ)
behind_head head text = if starts_with nat_eq text head then Some (drop (length head) text) else None

abbrev pub onto_first : ℕ → List (List ℕ) → List (List ℕ)
onto_first b [] = (b ∷ []) ∷ []
onto_first b (part ∷ parts) = (b ∷ part) ∷ parts

-- the parts between the bytes of this kind
abbrev pub parts_by : ℕ → List ℕ → List (List ℕ)
parts_by stop [] = [] ∷ []
parts_by stop (b ∷ bs) = if b == stop then [] ∷ parts_by stop bs else onto_first b (parts_by stop bs)

-- ---- values
-- three decimals with commas between them
abbrev pub three_said : List ℕ → Option Point
three_said text =
    then_some (behind 44 text) (λ rest.
    then_some (behind 44 rest) (λ last.
    then_some (value_of_text (part_before 44 text)) (λ x.
    then_some (value_of_text (part_before 44 rest)) (λ y.
    then_some (value_of_text last) (λ z.
    Some (record { x = x; y = y; z = z }))))))

-- one factor for all coordinates, or three
abbrev pub factors_or : Option Fraction → Option Point → Option Point
factors_or None three = three
factors_or (Some s) three = Some (record { x = s; y = s; z = s })

abbrev pub factors_said : List ℕ → Option Point
factors_said text = factors_or (value_of_text text) (three_said text)

-- x, y or z
abbrev pub axis_said : List ℕ → Option Axis
axis_said [] = None
axis_said (b ∷ []) =
    if b == 120 then Some X else (if b == 121 then Some Y else (if b == 122 then Some Z else None))
axis_said (b ∷ c ∷ more) = None

-- the trillionths of a degree from 0 to less than a full turn, of degrees with at most twelve decimal places
abbrev pub angle_in : Fraction → Option ℕ
angle_in v =
    if nat_le v.denominator (10 ^ 12) && is_below_limit v
    then Some (unsigned_abs (int_rem_euclid (floor_of_multiple (10 ^ 12) v) (pos 360_000_000_000_000)))
    else None

abbrev pub angle_said : Option (List ℕ) → Option ℕ
angle_said None = None
angle_said (Some text) = then_some (value_of_text text) angle_in

-- ---- steps
abbrev pub with_numbers : ℕ → (Point → Said) → Option Point → Result Said TextFault
with_numbers number make None = Err (NoNumbers number)
with_numbers number make (Some point) = Ok (make point)

abbrev pub with_axis : ℕ → Option Axis → Result Said TextFault
with_axis number None = Err (NoAxis number)
with_axis number (Some axis) = Ok (mirror axis)

abbrev pub with_turn : ℕ → Option Axis → Option ℕ → Result Said TextFault
with_turn number None angle = Err (NoAxis number)
with_turn number (Some axis) None = Err (NoAngle number)
with_turn number (Some axis) (Some angle) = Ok (turn axis angle)

abbrev pub or_else : Option (Result Said TextFault) → Result Said TextFault → Result Said TextFault
or_else None other = other
or_else (Some said) other = said

abbrev pub by_head : List ℕ → (List ℕ → Result Said TextFault) → List ℕ → Option (Result Said TextFault)
by_head head value text = then_some (behind_head head text) (λ rest. Some (value rest))

-- the step with this number
unfoldable pub step_said : ℕ → List ℕ → Result Said TextFault
step_said number text =
    or_else (by_head (codes "move=") (λ v. with_numbers number move (three_said v)) text)
    (or_else (by_head (codes "scale=") (λ v. with_numbers number scale (factors_said v)) text)
    (or_else (by_head (codes "turn=") (λ v. with_turn number (axis_said (part_before 44 v)) (angle_said (behind 44 v))) text)
    (or_else (by_head (codes "mirror=") (λ v. with_axis number (axis_said v)) text)
    (Err (Unknown number)))))

abbrev pub before_others : Result Said TextFault → Result (List Said) TextFault → Result (List Said) TextFault
before_others (Err fault) others = Err fault
before_others (Ok said) (Err fault) = Err fault
before_others (Ok said) (Ok others) = Ok (said ∷ others)

-- the steps in these parts, counted from this number on, or the first fault
abbrev pub steps_in : ℕ → List (List ℕ) → Result (List Said) TextFault
steps_in number [] = Ok []
steps_in number (part ∷ parts) = before_others (step_said number part) (steps_in (number + 1) parts)

-- what a text says
unfoldable pub steps_said : List ℕ → Result (List Said) TextFault
steps_said text = steps_in 0 (parts_by 59 text)
