-- The file of an output has the meaning outside of the moves.
use Rattle.std.proofs.Common.{List, sym, subst}
use Rattle.ember_expr.specs.Formula.{Formula}
use Rattle.ember_meaning.specs.Regions.Meaning.{IsFalseOutside}
use Rattle.mesh_effect.specs.Rounding.Shown.{Rounded, rounded_of}
use Rattle.mesh_scene.specs.Scene.Images.{images_of}
use Rattle.mesh_tolerance.specs.Files.{IsSolidOf, triangles_of_floats, triangles_of_decimals}
use Rattle.mesh_tolerance.specs.Files.{HaveMeaningOutsideMoves, HaveMeaningOutsideRounding}
use Rattle.mesh_tolerance.proofs.FileMeaning.{floats_mean_outside_moves, floats_mean_outside_rounding}
use Rattle.mesh_tolerance.proofs.FileMeaning.{decimals_mean_outside_moves, decimals_mean_outside_rounding}
use Rattle.mesh_written.specs.Digits.{written_places}
use Rattle.mesh_boolean.specs.declared.files.InputFile.{InputFile}
use Rattle.mesh_boolean.specs.declared.output.SolidFile.{SolidFile}
use Rattle.mesh_boolean.specs.declared.wanted.MeshFormat.{MeshFormat}
use Rattle.mesh_boolean.specs.declared.wanted.MeshFormat.TheVariants.{Floats, Text}
use Rattle.mesh_boolean.specs.declared.wanted.WantedFile.{WantedFile}
use Rattle.mesh_boolean.specs.Effects.{decimals_of}
use Rattle.mesh_boolean.specs.Outputs.{IsClosedAs, IsOutput}
use Rattle.mesh_boolean.specs.Tolerance.{triangles_of_file, MeansOutsideMoves, MeansOutsideRounding}

module _ (files : List InputFile) (formula : Formula) (wanted : WantedFile) (out : SolidFile)
    (outside : IsFalseOutside formula) (is : IsOutput files formula wanted out) where
  solid_is : IsSolidOf out.grid is.surfaces formula is.mesh
  solid_is = record {
    step = is.are_placed.on_grid.step;
    scene = is.are_placed.scene;
    outside = outside;
    solid = is.solid;
  }

  pub output_means_outside_moves : MeansOutsideMoves files formula wanted out is
  output_means_outside_moves closed = by wanted.format is.written
    where
      by : (format : MeshFormat) (w : IsClosedAs format out.grid is.mesh out.written) →
          HaveMeaningOutsideMoves out.grid is.surfaces formula is.mesh (rounded_of out.written.effect.greatest)
          (triangles_of_file format out.grid is.mesh out.written w)
      by (Floats format) w =
          subst (λ (m : Rounded). HaveMeaningOutsideMoves out.grid is.surfaces formula is.mesh m
          (triangles_of_floats w.floats.written)) (sym w.floats.rounded.is_effect.greatest)
          (floats_mean_outside_moves out.grid is.surfaces formula is.mesh solid_is w.floats.written
          w.floats.rounded.rounded closed)
      by (Text format digits) w =
          let places = written_places digits out.grid.step in
          subst (λ (m : Rounded). HaveMeaningOutsideMoves out.grid is.surfaces formula is.mesh m
          (triangles_of_decimals places (decimals_of digits out.grid is.mesh))) (sym w.text.effect.greatest)
          (decimals_mean_outside_moves out.grid is.surfaces formula is.mesh solid_is places closed)

  pub output_means_outside_rounding : MeansOutsideRounding files formula wanted out is
  output_means_outside_rounding = by wanted.format is.written
    where
      by : (format : MeshFormat) (w : IsClosedAs format out.grid is.mesh out.written) →
          HaveMeaningOutsideRounding out.grid (images_of out.grid is.surfaces) formula is.mesh
          (rounded_of out.written.effect.greatest) (triangles_of_file format out.grid is.mesh out.written w)
      by (Floats format) w =
          subst (λ (m : Rounded). HaveMeaningOutsideRounding out.grid (images_of out.grid is.surfaces) formula is.mesh m
          (triangles_of_floats w.floats.written)) (sym w.floats.rounded.is_effect.greatest)
          (floats_mean_outside_rounding out.grid is.surfaces formula is.mesh solid_is w.floats.written
          w.floats.rounded.rounded)
      by (Text format digits) w =
          let places = written_places digits out.grid.step in
          subst (λ (m : Rounded). HaveMeaningOutsideRounding out.grid (images_of out.grid is.surfaces) formula is.mesh m
          (triangles_of_decimals places (decimals_of digits out.grid is.mesh))) (sym w.text.effect.greatest)
          (decimals_mean_outside_rounding out.grid is.surfaces formula is.mesh solid_is places)
