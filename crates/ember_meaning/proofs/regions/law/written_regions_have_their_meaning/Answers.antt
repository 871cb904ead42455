use Rattle.ember_meaning.proofs.ClearMeaning.{meaning_of_written}
use Rattle.ember_meaning.proofs.regions.law.written_regions_have_their_meaning.Goals as goal

pub returns : goal.returns
returns c = λ scene. meaning_of_written scene 64
