use Rattle.ember_verdict.proofs.law.face_files_have_one_reading.Goals as goal
use Rattle.ember_reread.proofs.OneReading.{one_reading}

pub returns : goal.returns
returns c = one_reading
