use Rattle.std.proofs.Common.{◌∙◌, sym}
use Rattle.ember_coplanar.proofs.Coplanar.{lies_on_both}
use Rattle.ember_coplanar.proofs.Owning.{lies_at}
use Rattle.ember_geometry_tests.proofs.coplanar.holds_and_owns.Goals as goal

pub contains-requires-clause-plane : goal.contains-requires-clause-plane
contains-requires-clause-plane c =
    lies_on_both _ _ c.args.ring.now (sym c.same_plane.ensures ∙ c.if-same_plane.true) c.requires.ring

pub is_owner-requires-clause-plane : goal.is_owner-requires-clause-plane
is_owner-requires-clause-plane c =
    lies_at c.args.near.now c.args.i _ c.args.ring.now c.requires.place
    (lies_on_both _ _ c.args.ring.now (sym c.same_plane.ensures ∙ c.if-same_plane.true) c.requires.ring)
