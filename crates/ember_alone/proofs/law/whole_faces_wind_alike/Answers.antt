use Rattle.ember_alone.proofs.WholeFaces.{whole_faces_wind_alike}
use Rattle.ember_alone.proofs.law.whole_faces_wind_alike.Goals as goal

pub returns : goal.returns
returns c = whole_faces_wind_alike
