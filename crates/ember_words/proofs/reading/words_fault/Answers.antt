use Rattle.std.proofs.Common.{refl}
use Rattle.ember_words.proofs.reading.words_fault.Goals as goal

pub returns-in-OutOfMemory-clause-memory : goal.returns-in-OutOfMemory-clause-memory
returns-in-OutOfMemory-clause-memory c = λ k. refl

pub returns-in-OutOfMemory-clause-words : goal.returns-in-OutOfMemory-clause-words
returns-in-OutOfMemory-clause-words c = λ e. absurd (cc)
