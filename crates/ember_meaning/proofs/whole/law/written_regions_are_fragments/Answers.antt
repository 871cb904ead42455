use Rattle.ember_meaning.proofs.Fragments.{written_are_fragments}
use Rattle.ember_meaning.proofs.whole.law.written_regions_are_fragments.Goals as goal

pub returns : goal.returns
returns c = written_are_fragments
