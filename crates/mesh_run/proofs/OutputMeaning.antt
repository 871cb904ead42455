-- The output of a request means what the request asks for.
use Rattle.std.proofs.Common.{ℕ, List}
use Rattle.std.specs.declared.option.Option.{Option}
use Rattle.mesh_boolean.proofs.OutputMeaning.{output_means, output_winds_once_at_most}
use Rattle.mesh_boolean.proofs.OutputTolerance.{output_means_outside_moves, output_means_outside_rounding}
use Rattle.mesh_boolean.specs.declared.wanted.WantedFile.{WantedFile}
use Rattle.mesh_boolean.specs.declared.output.SolidFile.{SolidFile}
use Rattle.ember_expr.specs.Formula.{Formula}
use Rattle.mesh_words.specs.declared.command.Request.{Request}
use Rattle.mesh_run.specs.Asked.{Asks}
use Rattle.mesh_run.specs.Outputs.{IsFilesOutput, IsOutputFor}

-- since its expression is false outside all meshes
pub output_is_asked_for : (request : Request) (told : List ℕ →
    Option (List ℕ)) (wanted : WantedFile) (formula : Formula) (output : SolidFile) → Asks request wanted formula →
    IsFilesOutput told request.files formula wanted output → IsOutputFor request told output
output_is_asked_for request told wanted formula output asks of_files =
    let outside = asks.expression.bounded in
    let is = of_files.is_output in
    record {
      wanted = wanted;
      formula = formula;
      asks = asks;
      of_files = of_files;
      means = record {
        means = output_means of_files.files formula wanted output outside is;
        once = output_winds_once_at_most of_files.files formula wanted output outside is;
        outside_moves = output_means_outside_moves of_files.files formula wanted output outside is;
        outside_rounding = output_means_outside_rounding of_files.files formula wanted output outside is;
      };
    }
