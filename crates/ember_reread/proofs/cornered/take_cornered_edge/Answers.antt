use Rattle.ember_reread.proofs.LineTexts.{no_edge_plane, no_edge_corner, no_edge_end, edge_found}
use Rattle.ember_reread.proofs.cornered.take_cornered_edge.Goals as goal

pub returns-in_err-plane : goal.returns-in_err-plane
returns-in_err-plane c =
    rw c.from_residual-in_err-plane.ensures (no_edge_plane c.in_ok-skip_byte.ensures c.in_err-plane.ensures)

pub returns-in_err-start : goal.returns-in_err-start
returns-in_err-start c =
    rw c.from_residual-in_err-start.ensures (no_edge_corner c.in_ok-skip_byte.ensures c.in_ok-plane.ensures c.in_err-start.ensures)

pub returns-in_err-skip_byte-2 : goal.returns-in_err-skip_byte-2
returns-in_err-skip_byte-2 c =
    rw c.from_residual-in_err-skip_byte-2.ensures
    (no_edge_end c.in_ok-skip_byte.ensures c.in_ok-plane.ensures c.in_ok-start.ensures c.in_err-skip_byte-2.ensures)

pub returns : goal.returns
returns c =
    edge_found c.in_ok-skip_byte.ensures c.in_ok-plane.ensures c.in_ok-start.ensures c.in_ok-skip_byte-2.ensures
