use Rattle.std.proofs.Common.{ap, not, pos, arith}
use Rattle.std.proofs.lemmas.List.Elements.{All-replicate}
use Rattle.ember_algebra.specs.Size.{Small}
use Rattle.ember_expr.proofs.expression.bounded.Goals as goal

pub value-requires : goal.value-requires
value-requires c = All-replicate (Small 16777216) 64 (pos 0) (record { small = omega arith })

pub returns : goal.returns
returns c = ap not c.value.ensures
