use Rattle.ember_width.proofs.TakenPlanes.{support_taken, edges_taken}
use Rattle.ember_leaf.proofs.Pieces.{other_plane_left, edges_cut_out}
use Rattle.ember_leaf.proofs.UnmetPlanes.{on_ok}
use Rattle.ember_leaf.proofs.regions.add_cut.Goals as goal

pub add_pieces-requires : goal.add_pieces-requires
add_pieces-requires g c =
    let u = c.args.cutter.now in
    record { valid = edges_taken g.met.W.Width.takes _ u.edges_sized; cut_out = edges_cut_out u u.edges c.args.r c.requires.may_cut c.in_default.not-OtherPlane u.edge_planes c.requires.met }

pub returns-in-OtherPlane : goal.returns-in-OtherPlane
returns-in-OtherPlane g c =
    let u = c.args.cutter.now in
    on_ok c.add_parts.result c.add_parts.ensures (λ g. other_plane_left u u.support c.args.r c.in-OtherPlane.is u.face c.requires.met g)

pub add_parts-requires : goal.add_parts-requires
add_parts-requires g c = support_taken g.met.W.Width.takes c.args.cutter.now.sized
