use Rattle.mesh_write.proofs.OffTexts.{off_is_read}
use Rattle.mesh_write.proofs.reading.laws.off_texts_are_read.Goals as goal

pub returns : goal.returns
returns c = off_is_read
