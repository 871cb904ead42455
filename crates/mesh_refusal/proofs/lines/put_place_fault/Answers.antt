use Rattle.std.proofs.Common.{codes, decimal, ℕ, ◌++◌, ap, ◌∙◌}
use Rattle.mesh_number.proofs.Appended.{after4, on_ok_same}
use Rattle.mesh_refusal.proofs.lines.put_place_fault.Goals as goal

pub returns : goal.returns
returns c =
    on_ok_same _ _ _ c.put_count.result c.put_count.ensures
    (ap (λ (n : ℕ). c.extend_from_slice-3.new.self.items ++ decimal n) c.from.ensures
    ∙ after4 (codes "expression: ") c.args.fault.now (codes " at ") (decimal c.args.place) _ _ _ _
    c.in_ok-extend_from_slice.ensures.items c.in_ok-extend_from_slice-2.ensures.items
    c.in_ok-extend_from_slice-3.ensures.items)
