use Rattle.std.proofs.Common.{◌∙◌, ap}
use Rattle.clap.specs.Faults.{is_simple_and_free}
use Rattle.ember_words.proofs.Refusals.{simple_and_free}
use Rattle.ember_words.proofs.reading.matches_for.Goals as goal

pub find_matches-requires : goal.find_matches-requires
find_matches-requires c = record { simple = ap is_simple_and_free c.in_ok-clap_command.ensures ∙ simple_and_free c.args.verb }
