use Rattle.std.proofs.Common.{rules, arith}
use Rattle.std.proofs.lemmas.Grind.{common_steps}
use Rattle.mesh_ply.proofs.words.two_words.Goals as goal

pub returns-in_err-a : goal.returns-in_err-a
returns-in_err-a c = first_of (search rules, grind (arith, common_steps))

pub returns-in_err-b : goal.returns-in_err-b
returns-in_err-b c = first_of (search rules, grind (arith, common_steps))

pub returns-in-Some : goal.returns-in-Some
returns-in-Some c = first_of (search rules, grind (arith, common_steps))

pub returns-in-None : goal.returns-in-None
returns-in-None c = first_of (search rules, grind (arith, common_steps))
