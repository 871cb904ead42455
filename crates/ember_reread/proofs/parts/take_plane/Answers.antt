use Rattle.ember_reread.proofs.parts.take_plane.Goals as goal

pub returns-in_err-four : goal.returns-in_err-four
returns-in_err-four c = rw c.from_residual.ensures (λ p rest h. c.in_err-four.ensures _ rest h.fields)
