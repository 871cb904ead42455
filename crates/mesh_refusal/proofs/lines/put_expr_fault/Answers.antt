use Rattle.std.proofs.Common.{codes, decimal, ℕ, ◌++◌, ap, ◌∙◌, refl}
use Rattle.mesh_number.proofs.Appended.{after2, on_ok_if, on_ok_same}
use Rattle.mesh_refusal.proofs.lines.put_expr_fault.Goals as goal

pub returns-in_ok-extend_from_slice-in-NoMesh : goal.returns-in_ok-extend_from_slice-in-NoMesh
returns-in_ok-extend_from_slice-in-NoMesh c =
    rw c.in-NoMesh.is
    (on_ok_same _ _ _ c.put_count.result c.put_count.ensures
    (ap (λ (n : ℕ). c.extend_from_slice.new.self.items ++ decimal n) c.from.ensures
    ∙ after2 (codes "expression: no mesh ") (decimal c.in-NoMesh.mesh) _ _ c.in_ok-extend_from_slice-in-NoMesh.ensures.items))

pub returns-in-Long : goal.returns-in-Long
returns-in-Long c =
    rw c.in-Long.is (on_ok_if _ _ c.extend_from_slice-in-Long.result c.extend_from_slice-in-Long.ensures.items refl)
