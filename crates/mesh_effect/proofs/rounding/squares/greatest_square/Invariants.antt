use Rattle.std.proofs.Common.{◌≡◌, max, drop}
use Rattle.mesh_effect.specs.Rounding.Maximum.{greatest_of}
use Rattle.mesh_effect.specs.Rounding.Squares.{triangle_square}
use Rattle.mesh_effect.proofs.rounding.squares.greatest_square.Given as goal

abbrev pub invariant-loop-t : goal.invariant-loop-t
invariant-loop-t l =
    max l.greatest (greatest_of (triangle_square l.squares) (drop l.t-index l.triangles)) ≡ greatest_of (triangle_square l.squares) l.triangles
