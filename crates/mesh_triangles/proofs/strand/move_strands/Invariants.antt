use Rattle.std.proofs.Common.{◌≡◌, ℕ, ◌+ℤ◌, vec_len}
use Rattle.mesh_triangles.specs.Strands.{coefficient}
use Rattle.mesh_triangles.proofs.strand.move_strands.Given as goal

abbrev pub invariant-loop-strand : goal.invariant-loop-strand
invariant-loop-strand l =
    (plane : ℕ) → coefficient plane l.to.items +ℤ coefficient plane l.from.items ≡ coefficient plane l.fn.to.items +ℤ coefficient plane l.fn.from.items

abbrev pub decreases-loop-strand : goal.decreases-loop-strand
decreases-loop-strand l = vec_len l.from
