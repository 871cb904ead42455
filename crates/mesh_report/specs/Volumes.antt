-- The volumes of the files' meshes
use Rattle.std.specs.Prelude.{ℕ, ◌+◌, ◌*◌, ◌^◌, ℤ, pos, int_lt, unsigned_abs, nat_le, if◌then◌else◌}
use Rattle.std.specs.Prelude.{List, [], ◌∷◌, ◌++◌, codes, decimal}
use Rattle.mesh_grid.specs.declared.snap.steps.GridStep.{GridStep}
use Rattle.mesh_number.specs.Round.Decimals.{decimal_text}
use Rattle.mesh_number.specs.Round.Nearest.{nearest_whole}
use Rattle.mesh_texts.specs.Texts.{line}

abbrev pub cube : ℕ → ℕ
cube n = n * n * n

-- size / unit, rounded to the nearest decimal of 12 places; from 10^21 on it isn't shown
abbrev pub cubic_text : ℤ → ℕ → ℕ → List ℕ
cubic_text sixfold_volume size unit =
    if nat_le (10 ^ 21 * unit) size then codes "?"
    else decimal_text (int_lt sixfold_volume (pos 0)) (nearest_whole (size * 10 ^ 12) unit) 12

-- a volume in cubes of the user's unit, six times which are so many cubes of the step
abbrev pub volume_text : GridStep → ℤ → List ℕ
volume_text step sixfold_volume =
    cubic_text sixfold_volume (unsigned_abs sixfold_volume * cube step.numerator) (6 * cube step.denominator)

-- `FILE: volume V`
abbrev pub plain_text : List ℕ → GridStep → ℤ → List ℕ
plain_text name step sixfold_volume = name ++ (codes ": volume " ++ volume_text step sixfold_volume)

-- the same of a volume below 0, with what winds around the inside of this file if it is inside out
abbrev pub turned_text : ℕ → List ℕ → GridStep → ℤ → List ℕ
turned_text number name step sixfold_volume =
    name ++ (codes ": its volume is " ++ (volume_text step sixfold_volume ++
    (codes ", so it may be inside out; use w" ++ (decimal number ++ codes "=-1"))))

-- as a warning
abbrev pub inside_out_text : ℕ → List ℕ → GridStep → ℤ → List ℕ
inside_out_text number name step sixfold_volume = codes "warning: " ++ turned_text number name step sixfold_volume

-- the warning if the volume is below 0
abbrev pub said_text : ℕ → List ℕ → GridStep → ℤ → List ℕ
said_text number name step sixfold_volume =
    if int_lt sixfold_volume (pos 0) then inside_out_text number name step sixfold_volume
    else plain_text name step sixfold_volume

-- the line of the file with this number
abbrev pub volume_line : ℕ → List ℕ → GridStep → ℤ → List ℕ
volume_line number name step sixfold_volume = line (said_text number name step sixfold_volume)

-- a line for each file, the first of which has this number
abbrev pub volume_lines : ℕ → List (List ℕ) → GridStep → List ℤ → List ℕ
volume_lines number [] step volumes = []
volume_lines number (name ∷ names) step [] = []
volume_lines number (name ∷ names) step (sixfold_volume ∷ volumes) =
    volume_line number name step sixfold_volume ++ volume_lines (number + 1) names step volumes
