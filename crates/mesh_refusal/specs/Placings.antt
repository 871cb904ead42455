-- Why a file isn't placed
use Rattle.std.specs.Prelude.{ℕ, ◌+◌, ◌-◌, ◌^◌, List, ◌++◌, codes, decimal, min}
use Rattle.mesh_place.specs.declared.maps.steps.StepsFault.{StepsFault}
use Rattle.mesh_place.specs.declared.maps.steps.StepsFault.TheVariants as steps
use Rattle.mesh_placing.specs.declared.files.PlaceFault.{PlaceFault}
use Rattle.mesh_placing.specs.declared.files.PlaceFault.TheVariants as place
use Rattle.mesh_placing.specs.declared.image.ImageFault.{ImageFault}
use Rattle.mesh_placing.specs.declared.image.ImageFault.TheVariants as image
use Rattle.mesh_placing.specs.declared.words.TextFault.{TextFault}
use Rattle.mesh_placing.specs.declared.words.TextFault.TheVariants as said
use Rattle.mesh_read.specs.declared.surface.flaw.Flaw.TheVariants as flaw

-- the number from 1 of what has this number from 0, or 2^64 - 1
abbrev pub from_one : ℕ → ℕ
from_one number = min (number + 1) (2 ^ 64 - 1)

-- ---- words
-- `step NUMBER: WHY`
abbrev pub step_text : ℕ → List ℕ → List ℕ
step_text number why = codes "step " ++ (decimal (from_one number) ++ (codes ": " ++ why))

-- why a text says no steps
abbrev pub said_text : TextFault → List ℕ
said_text (said.Unknown number) = step_text number (codes "not move=, scale=, turn= or mirror=")
said_text (said.NoNumbers number) = step_text number (codes "not the numbers that it takes")
said_text (said.NoAxis number) = step_text number (codes "not x, y or z")
said_text (said.NoAngle number) = step_text number (codes "not an angle in degrees, with at most 12 decimal places")
said_text said.OutOfMemory = codes "out of memory"

-- why a text says no placing of a file
abbrev pub place_text : PlaceFault → List ℕ
place_text place.NoFile = codes "not FILE:STEPS with the number of a file"
place_text (place.Steps file fault) = codes "file " ++ (decimal file ++ (codes ", " ++ said_text fault))

-- ---- files
-- why steps have no map
abbrev pub steps_reason : StepsFault → List ℕ
steps_reason (steps.TooLong step) =
    codes "--place: step " ++ (decimal (from_one step) ++ codes ": a number is too long; give fewer digits")
steps_reason (steps.TooFine step) =
    codes "--place: step " ++ (decimal (from_one step) ++ codes ": too many decimal places; give fewer digits")
steps_reason (steps.Flat step) =
    codes "--place: step " ++ (decimal (from_one step) ++ codes ": it makes the mesh flat; give another factor")
steps_reason steps.OutOfMemory = codes "out of memory"

-- why a file is no mesh where it is placed
abbrev pub image_reason : ImageFault → List ℕ
image_reason (image.Steps fault) = steps_reason fault
image_reason (image.LongVertex vertex) =
    codes "--place: vertex " ++ (decimal (from_one vertex) ++ codes ": a number is too long; export anew")
image_reason (image.Flaw (flaw.TooLarge place)) =
    codes "--place: triangle " ++
    (decimal place ++ codes ": a coordinate of 1e15 or more where it is placed; move it less far")
image_reason (image.Flaw flaw.NoTriangles) = codes "no triangles in it; is it a mesh?"
image_reason image.OutOfMemory = codes "out of memory"
