use Rattle.std.proofs.Common.{◌↔◌, IsTrue, subst}
use Rattle.ember_model.specs.Faces.{Meets}
use Rattle.ember_width.proofs.TakenPlanes.{support_taken, edges_taken}
use Rattle.ember_leaf.proofs.Pieces.{cutter_shares_plane}
use Rattle.ember_leaf.proofs.RegionCuts.{cutting_plane_face}
use Rattle.ember_leaf.proofs.regions.is_met.Goals as goal

pub is_met_coplanar-requires : goal.is_met_coplanar-requires
is_met_coplanar-requires g c =
    record { plane = cutter_shares_plane c.args.cutter.now c.args.r.now c.requires c.in_default.not-OtherPlane; somewhere = c.requires.somewhere }

pub returns-in-OtherPlane : goal.returns-in-OtherPlane
returns-in-OtherPlane g c =
    let u = c.args.cutter.now in
    subst (λ f. IsTrue c.meets_face.result ↔ Meets c.args.r.now f) (cutting_plane_face u.tri u.face u.edge_planes) c.meets_face.ensures

pub meets_face-requires-clause-support : goal.meets_face-requires-clause-support
meets_face-requires-clause-support g c = support_taken g.met.W.Width.takes c.args.cutter.now.sized

pub meets_face-requires-clause-edges : goal.meets_face-requires-clause-edges
meets_face-requires-clause-edges g c = edges_taken g.met.W.Width.takes _ c.args.cutter.now.edges_sized
