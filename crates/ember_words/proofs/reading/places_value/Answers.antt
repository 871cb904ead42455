use Rattle.ember_words.proofs.reading.places_value.Goals as goal

pub returns : goal.returns
returns c = c.number_value.ensures
