use Rattle.ember_slice.proofs.Passing.{crossed_along_x, crossed_along_y}
use Rattle.ember_slice.proofs.law.segments_wind_as_faces.Goals as goal

pub returns-clause-x : goal.returns-clause-x
returns-clause-x c = λ fs at bytes t p w h. crossed_along_x p at w h t.are_segments

pub returns-clause-y : goal.returns-clause-y
returns-clause-y c = λ fs at bytes t p w h. crossed_along_y p at w h t.are_segments
