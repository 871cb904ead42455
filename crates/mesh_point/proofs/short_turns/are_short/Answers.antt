use Rattle.std.proofs.Common.{arith, sym, subst, T, leb→le}
use Rattle.mesh_point.specs.Numbers.{short_triple}
use Rattle.mesh_point.specs.Triples.{breadth}
use Rattle.mesh_point.proofs.LocalTurns.{short_product}
use Rattle.mesh_point.proofs.short_turns.are_short.Goals as goal

pub returns : goal.returns
returns c t =
    short_product (breadth (short_triple c.args.p.now)) (breadth (short_triple c.args.q.now)) (breadth (short_triple c.args.r.now))
    c.ilog2.result c.ilog2-2.result c.ilog2-3.result (omega arith) (omega arith) (omega arith) (leb→le _ 125 (subst T (sym t) tt))
