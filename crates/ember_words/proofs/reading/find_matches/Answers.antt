use Rattle.ember_words.proofs.ClapValues.{first_half}
use Rattle.ember_words.proofs.reading.find_matches.Goals as goal

pub returns-in-Ok : goal.returns-in-Ok
returns-in-Ok c = (c.in-Ok.ensures.kinds c.requires.simple, (c.in-Ok.ensures.matches (first_half _ _ c.requires.simple)).0)
