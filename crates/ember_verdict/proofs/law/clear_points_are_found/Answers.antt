use Rattle.ember_model.proofs.ClearPoints.{clear_of_from, clear_of_to}
use Rattle.ember_verdict.proofs.law.clear_points_are_found.Goals as goal

pub returns : goal.returns
returns c = λ tri point w. (clear_of_from tri point w, clear_of_to tri point w)
