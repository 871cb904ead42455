use Rattle.std.proofs.Common.{◌∙◌, sym}
use Rattle.ember_coplanar.proofs.Owning.{own_face}
use Rattle.ember_geometry_tests.proofs.coplanar.holds_and_owns_face.Goals as goal

pub holds_and_owns-requires-clause-ring : goal.holds_and_owns-requires-clause-ring
holds_and_owns-requires-clause-ring c =
    own_face c.args.own.now c.in-Some.ring (sym c.in-Some.is ∙ c.in_ok-ring.ensures)
