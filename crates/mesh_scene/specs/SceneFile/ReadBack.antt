-- What is read again of the text of a scene
use Rattle.std.specs.Prelude.{◌≡◌, ◌*◌, ◌^◌, ◌<◌, FitsSigned}
use Rattle.std.specs.Int.{w64}
use Rattle.std.specs.Str.{IsUtf8}
use Rattle.mesh_grid.specs.declared.snap.offsets.Offset.{Offset}
use Rattle.mesh_grid.specs.declared.grid.grid.Grid.{Grid}
use Rattle.mesh_scene.specs.declared.scene.counts.Counts.{Counts}
use Rattle.mesh_scene.specs.SceneFile.Texts.{File}

-- whole numbers of 64 bits
pub record IsShort (o : Offset) : Type 0 where
  pub along_x : FitsSigned w64 o.x
  pub along_y : FitsSigned w64 o.y
  pub along_z : FitsSigned w64 o.z

-- counts have 64 bits
pub record AreCounts (counts : Counts) : Type 0 where
  pub triangles : counts.triangles < 2 ^ 64
  pub vanished : counts.vanished < 2 ^ 64
  pub flat : counts.flat < 2 ^ 64

-- a file as a program has it
pub record IsFile (f : File) : Type 0 where
  pub name : IsUtf8 f.0
  pub counts : AreCounts f.1.0

-- the same places: one offset, and steps that are the same fraction
pub record IsSameGrid (g h : Grid) : Type 0 where
  pub offset : h.offset ≡ g.offset
  pub step : g.step.numerator * h.step.denominator ≡ h.step.numerator * g.step.denominator
