use Rattle.mesh_write.proofs.ObjTexts.{obj_is_read}
use Rattle.mesh_write.proofs.reading.laws.obj_texts_are_read.Goals as goal

pub returns : goal.returns
returns c = obj_is_read
