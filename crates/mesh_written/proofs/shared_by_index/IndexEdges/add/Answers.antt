use Rattle.mesh_written.specs.Shared.{same_edge}
use Rattle.mesh_written.proofs.Noted.{on_ok_both, index_edges_are_equal, add_new, add_old}
use Rattle.mesh_written.proofs.shared_by_index.IndexEdges.add.Goals as goal

pub returns-then-is_new : goal.returns-then-is_new
returns-then-is_new c =
    λ edges h.
    add_new same_edge index_edges_are_equal edges c.args.self.now.once.keys _ _ c.args.edge c.in_ok-is_new.is_new
    c.in_ok-is_new.ensures.keys c.in_ok-is_new.ensures.is_new c.if-is_new.true h

pub returns : goal.returns
returns c =
    on_ok_both c.add_again.result c.add_again.ensures.once c.add_again.ensures.again
    (λ once again edges h. add_old same_edge index_edges_are_equal edges c.args.self.now.once.keys _ _ _ _ c.args.edge
    c.in_ok-is_new.is_new c.in_ok-is_new.ensures.keys c.in_ok-is_new.ensures.is_new c.if-is_new.false once again h)
