use Rattle.std.proofs.Common.{pos, arith}
use Rattle.std.proofs.lemmas.List.Elements.{All-replicate}
use Rattle.ember_algebra.specs.Size.{Small}
use Rattle.ember_box_tests.proofs.windings.crossings.Goals as goal

pub leg_count-requires-clause-room : goal.leg_count-requires-clause-room
leg_count-requires-clause-room c = All-replicate (Small 16515072) 64 (pos 0) (record { small = omega arith })
