use Rattle.std.proofs.Common.{sym, ◌∙◌, arith}
use Rattle.ember_words.proofs.ClapValues.{names_held, too_many_names}
use Rattle.ember_words.proofs.values.are_file_names.Goals as goal

pub returns-then-names-le64 : goal.returns-then-names-le64
returns-then-names-le64 c = c.have_bytes.ensures ∙ sym (names_held c.args.names.now (omega arith))

pub returns-else-names-le64 : goal.returns-else-names-le64
returns-else-names-le64 c = too_many_names c.args.names.now (omega arith)
