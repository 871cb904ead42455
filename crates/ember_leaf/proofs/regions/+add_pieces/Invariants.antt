use Rattle.std.proofs.Common.{length}
use Rattle.ember_leaf.proofs.regions.+add_pieces.Given as goal

abbrev pub decreases-add_pieces : goal.decreases-add_pieces
decreases-add_pieces g l = length l.edges.now
