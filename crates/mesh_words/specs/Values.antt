-- The values of options
use Rattle.std.specs.Prelude.{ℕ, zero, suc, ◌+◌, ◌-◌, ◌==◌, Bool, false, List, [], ◌∷◌, ◌++◌, length}
use Rattle.std.specs.Prelude.{drop, Option, Some, None, Result, Ok, Err, codes, decimal, if◌then◌else◌}
use Rattle.std.specs.Prelude.{nat_lt}
use Rattle.std.specs.Int.{is_positive}
use Rattle.std.specs.Str.{bytes_eq, str_eq_ignore_ascii_case}
use Rattle.mesh_number.specs.Number.Fractions.{Fraction}
use Rattle.mesh_number.specs.Number.Naturals.{number_of, below}
use Rattle.mesh_number.specs.Number.Texts.{value_of_text}
use Rattle.mesh_placing.specs.declared.shapes.ShapeWordFault.{ShapeWordFault}
use Rattle.mesh_placing.specs.ShapeWords.{first_shape_fault}
use Rattle.mesh_words.specs.declared.command.Destination.{Destination}
use Rattle.mesh_words.specs.declared.command.Destination.TheVariants as destination
use Rattle.mesh_words.specs.declared.command.OutputFormat.{OutputFormat}
use Rattle.mesh_words.specs.declared.command.OutputFormat.TheVariants as format
use Rattle.mesh_words.specs.declared.command.WantedStep.{WantedStep}
use Rattle.mesh_words.specs.declared.command.WantedStep.TheVariants as step
use Rattle.mesh_words.specs.declared.faults.Refusal.{Refusal}
use Rattle.mesh_words.specs.declared.faults.Refusal.TheVariants.{NoFiles, TooManyFiles, SecondInput, Shape}
use Rattle.mesh_words.specs.declared.faults.Refusal.TheVariants.{NoExpression, NeedlessExpression}
use Rattle.mesh_words.specs.declared.faults.Refusal.TheVariants.{NoFolder, NoOutput, OutputEnding}
use Rattle.mesh_words.specs.declared.faults.Refusal.TheVariants.{NoFormat, NeedlessFormat, UnknownFormat}
use Rattle.mesh_words.specs.declared.faults.Refusal.TheVariants.{NotAStep, Workers, Digits}
use Rattle.mesh_words.specs.Names.{Text}
use Rattle.mesh_words.specs.Streams.{is_stream, reads_twice}

abbrev pub unless_shape_fault : Option ShapeWordFault → List Text → Result (List Text) Refusal
unless_shape_fault None names = Ok names
unless_shape_fault (Some fault) names = Err (Shape fault)

-- 1 to 64 names, at most one of which is `-`; each that begins as a shape says one
abbrev pub files_of : List Text → Result (List Text) Refusal
files_of [] = Err NoFiles
files_of (name ∷ names) =
    if nat_lt 64 (length (name ∷ names)) then Err TooManyFiles
    else (if reads_twice (name ∷ names) then Err SecondInput
    else unless_shape_fault (first_shape_fault (name ∷ names)) (name ∷ names))

-- the meshes 1 to n + 1 with the operator between them, as m1|m2|m3
abbrev pub joined : Text → ℕ → Text
joined operator zero = codes "m1"
joined operator (suc n) = joined operator n ++ (operator ++ (codes "m" ++ decimal (n + 2)))

-- the expression of a number of meshes: by the operator, or else the one that was given
abbrev pub expression_of : Option Text → ℕ → Option Text → Result Text Refusal
expression_of None meshes None = Err NoExpression
expression_of None meshes (Some given) = Ok given
expression_of (Some operator) meshes (Some given) = Err NeedlessExpression
expression_of (Some operator) meshes None = Ok (joined operator (meshes - 1))

abbrev pub folder_of : Option Text → Result Text Refusal
folder_of None = Err NoFolder
folder_of (Some name) = Ok name

-- the name of a page
abbrev pub page_of : Option Text → Result Text Refusal
page_of None = Err NoOutput
page_of (Some name) = Ok name

-- where a mesh goes
abbrev pub output_of : Option Text → Result Destination Refusal
output_of None = Err NoOutput
output_of (Some name) =
    if is_stream name then Ok destination.StandardOutput else Ok (destination.File name)

-- the name ends so, in any case
abbrev pub ends_in : Text → Text → Bool
ends_in ending name = str_eq_ignore_ascii_case (drop (length name - length ending) name) ending

-- the format that a name ends as, in any case
abbrev pub format_of : Text → Result OutputFormat Refusal
format_of name =
    if ends_in (codes ".stl") name then Ok format.Stl
    else (if ends_in (codes ".glb") name then Ok format.Glb
    else (if ends_in (codes ".obj") name then Ok format.Obj
    else (if ends_in (codes ".ply") name then Ok format.Ply
    else (if ends_in (codes ".off") name then Ok format.Off
    else Err OutputEnding))))

-- the format of this name, in any case
abbrev pub format_named : Text → Result OutputFormat Refusal
format_named name =
    if str_eq_ignore_ascii_case name (codes "stl") then Ok format.Stl
    else (if str_eq_ignore_ascii_case name (codes "glb") then Ok format.Glb
    else (if str_eq_ignore_ascii_case name (codes "obj") then Ok format.Obj
    else (if str_eq_ignore_ascii_case name (codes "ply") then Ok format.Ply
    else (if str_eq_ignore_ascii_case name (codes "off") then Ok format.Off
    else Err UnknownFormat))))

-- the format of a mesh that goes there, if this format is given: of a file its name decides
abbrev pub format_at : Destination → Option Text → Result OutputFormat Refusal
format_at (destination.File name) None = format_of name
format_at (destination.File name) (Some given) = Err NeedlessFormat
format_at destination.StandardOutput None = Err NoFormat
format_at destination.StandardOutput (Some given) = format_named given

abbrev pub format_from : Result Destination Refusal → Option Text → Result OutputFormat Refusal
format_from (Err why) given = Err why
format_from (Ok output) given = format_at output given

abbrev pub is_above_zero : Option Fraction → Bool
is_above_zero None = false
is_above_zero (Some v) = is_positive v.numerator

-- `nice`, `finest` or a decimal above 0; nice if it isn't given
abbrev pub step_of : Option Text → Result WantedStep Refusal
step_of None = Ok step.Nice
step_of (Some text) =
    if bytes_eq text (codes "nice") then Ok step.Nice
    else (if bytes_eq text (codes "finest") then Ok step.Finest
    else (if is_above_zero (value_of_text text) then Ok (step.Decimal text)
    else Err NotAStep))

abbrev pub workers_from : Option ℕ → Result ℕ Refusal
workers_from None = Err Workers
workers_from (Some n) = if n == 0 then Err Workers else Ok n

-- 1 to 64 workers; 4 if it isn't given
abbrev pub workers_of : Option Text → Result ℕ Refusal
workers_of None = Ok 4
workers_of (Some text) = workers_from (below 65 (number_of text))

abbrev pub digits_from : Option ℕ → Result (Option ℕ) Refusal
digits_from None = Err Digits
digits_from (Some n) = Ok (Some n)

-- 0 to 17 digits, if a number is given
abbrev pub digits_of : Option Text → Result (Option ℕ) Refusal
digits_of None = Ok None
digits_of (Some text) = digits_from (below 18 (number_of text))
