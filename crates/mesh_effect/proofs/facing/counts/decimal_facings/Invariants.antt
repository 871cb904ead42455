use Rattle.std.proofs.Common.{drop}
use Rattle.mesh_effect.specs.Facing.Facings.{decimal_facings_from}
use Rattle.mesh_effect.proofs.Counted.{HaveCounted}
use Rattle.mesh_effect.proofs.facing.counts.decimal_facings.Given as goal

abbrev pub invariant-loop-i : goal.invariant-loop-i
invariant-loop-i l =
    HaveCounted (decimal_facings_from l.planes l.numbers l.vertices l.i (drop l.i l.triangles))
    (decimal_facings_from l.planes l.numbers l.vertices 0 l.triangles) l.i l.counts
