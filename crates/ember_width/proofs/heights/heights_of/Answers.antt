use Rattle.std.proofs.Common.{le_refl}
use Rattle.ember_width.proofs.TakenPlanes.{tri_in_root}
use Rattle.ember_width.proofs.heights.heights_of.Goals as goal

pub value_at_corner-requires-clause-corner : goal.value_at_corner-requires-clause-corner
value_at_corner-requires-clause-corner c = (tri_in_root (le_refl _) c.requires.tri).a

pub value_at_corner-requires-2-clause-corner : goal.value_at_corner-requires-2-clause-corner
value_at_corner-requires-2-clause-corner c = (tri_in_root (le_refl _) c.requires.tri).b

pub value_at_corner-requires-3-clause-corner : goal.value_at_corner-requires-3-clause-corner
value_at_corner-requires-3-clause-corner c = (tri_in_root (le_refl _) c.requires.tri).c
