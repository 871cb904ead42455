use Rattle.std.proofs.Common.{List, ap}
use Rattle.ember_model.specs.declared.face.Face.{Face}
use Rattle.ember_model.specs.Meshes.{faces_of, wind}
use Rattle.ember_reread.proofs.OneReading.{one_reading}
use Rattle.ember_verdict.proofs.law.faces_wind_as_read.Goals as goal

pub returns-clause-only : goal.returns-clause-only
returns-clause-only c = λ tris bytes o faces f. one_reading bytes faces (faces_of tris) f o.reads_back

pub returns-clause-wind : goal.returns-clause-wind
returns-clause-wind c = λ tris bytes o faces f axis point. ap (λ (fs : List Face). wind axis fs point) (one_reading bytes faces (faces_of tris) f o.reads_back)
