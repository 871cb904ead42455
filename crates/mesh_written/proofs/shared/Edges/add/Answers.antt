use Rattle.mesh_written.specs.Shared.{same_ends}
use Rattle.mesh_written.proofs.Noted.{on_ok_both, keys_are_equal, add_new, add_old}
use Rattle.mesh_written.proofs.shared.Edges.add.Goals as goal

pub returns-then-is_new : goal.returns-then-is_new
returns-then-is_new c =
    λ keys h.
    add_new same_ends keys_are_equal keys c.args.self.now.once.keys _ _ c.args.key c.in_ok-is_new.is_new
    c.in_ok-is_new.ensures.keys c.in_ok-is_new.ensures.is_new c.if-is_new.true h

pub returns : goal.returns
returns c =
    on_ok_both c.add_again.result c.add_again.ensures.once c.add_again.ensures.again
    (λ once again keys h. add_old same_ends keys_are_equal keys c.args.self.now.once.keys _ _ _ _ c.args.key
    c.in_ok-is_new.is_new c.in_ok-is_new.ensures.keys c.in_ok-is_new.ensures.is_new c.if-is_new.false once again h)
