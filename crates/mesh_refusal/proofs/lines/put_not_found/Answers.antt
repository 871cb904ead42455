use Rattle.std.proofs.Common.{codes, decimal, ℕ, ◌++◌, ap, ◌∙◌, refl}
use Rattle.mesh_number.proofs.Appended.{after3, on_ok_if}
use Rattle.mesh_refusal.proofs.lines.put_not_found.Goals as goal

pub returns-in_ok-put_count-in-Some : goal.returns-in_ok-put_count-in-Some
returns-in_ok-put_count-in-Some c =
    rw c.in-Some.is
    (on_ok_if _ _ c.extend_from_slice-in-Some.result c.extend_from_slice-in-Some.ensures.items
    (after3 (codes "triangles of plane ") (decimal c.in-Some.plane) (codes " not found") _ _ _ c.in_ok-extend_from_slice-in-Some.ensures.items
    (c.in_ok-put_count-in-Some.ensures ∙ ap (λ (n : ℕ). c.extend_from_slice.new.self.items ++ decimal n) c.from.ensures)))

pub returns-in-None : goal.returns-in-None
returns-in-None c =
    rw c.in-None.is (on_ok_if _ _ c.extend_from_slice-in-None.result c.extend_from_slice-in-None.ensures.items refl)
