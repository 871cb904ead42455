use Rattle.mesh_write.proofs.PlyTexts.{ply_is_read}
use Rattle.mesh_write.proofs.reading.laws.ply_texts_are_read.Goals as goal

pub returns : goal.returns
returns c = ply_is_read
