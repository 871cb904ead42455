-- clap's model holds of each command, and words that clap refuses give no command
use Rattle.std.proofs.Common.{◌≡◌, ◌≢◌, List, [], ◌∷◌, true, Err, None, Option, refl}
use Rattle.clap.specs.Walk.{Text}
use Rattle.clap.specs.Kinds.{Kinds}
use Rattle.clap.specs.Faults.{is_simple_and_free}
use Rattle.ember_words.specs.declared.verb.Verb.{Verb}
use Rattle.ember_words.specs.declared.verb.Verb.TheVariants as verb
use Rattle.ember_words.specs.declared.command.WordsFault.{WordsFault}
use Rattle.ember_words.specs.declared.command.WordsFault.TheVariants.{Words, OutOfMemory}
use Rattle.ember_words.specs.WordsCommand.{Reads, Finds, app_for, taken_by, unless_refused}

-- clap's model holds of each command
pub simple_and_free : (v : Verb) → is_simple_and_free (app_for v) ≡ true
simple_and_free verb.Faces = refl
simple_and_free verb.At = refl
simple_and_free verb.Boole = refl
simple_and_free verb.Demo = refl
simple_and_free verb.Voxels = refl
simple_and_free verb.Pairs = refl
simple_and_free verb.Slice = refl

none_where_refused : {T : Type 0} (kinds : Kinds) (value : Option T) → kinds ≢ [] → unless_refused kinds value ≡ None
none_where_refused [] value some = absurd (some refl)
none_where_refused (kind ∷ kinds) value some = refl

-- words that clap refuses give no command
pub find_refusal_is_fault : (v : Verb) (words : List Text) (fault : WordsFault) → Finds (app_for v) words (Err fault) → Reads (taken_by v words) (Err fault)
find_refusal_is_fault v words Words h = none_where_refused _ _ h
find_refusal_is_fault v words OutOfMemory h = tt
