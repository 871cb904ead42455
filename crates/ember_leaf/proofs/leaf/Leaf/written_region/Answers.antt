use Rattle.std.proofs.Common.{arith}
use Rattle.ember_expr.specs.Formula.{formula_of}
use Rattle.ember_law.proofs.CountBounds.{all_within}
use Rattle.ember_leaf.specs.KeptRegions.{tris_of}
use Rattle.ember_leaf.proofs.WrittenRegions.{is_written, isnt_written}
use Rattle.ember_leaf.proofs.leaf.Leaf.written_region.Goals as goal

pub flip_of-requires-clause-before : goal.flip_of-requires-clause-before
flip_of-requires-clause-before g c =
    let l = c.requires.few in
    all_within c.trace_sides_on.new.sides.before.counts (omega arith) (c.trace_sides_on.ensures.before 9437184 c.requires.counts)

pub flip_of-requires-clause-after : goal.flip_of-requires-clause-after
flip_of-requires-clause-after g c =
    let l = c.requires.few in
    all_within c.trace_sides_on.new.sides.after.counts (omega arith) (c.trace_sides_on.ensures.after 9437184 c.requires.counts)

pub returns-in-Some-clause-written : goal.returns-in-Some-clause-written
returns-in-Some-clause-written g c =
    λ scene h. is_written scene (formula_of c.args.self.now.expr.now) (tris_of c.args.self.now.near.now) c.args.i
    c.args.ring _ _ (c.trace_sides_on.ensures.sides c.requires.reference_sides c.requires.inside scene h)
    c.flip_of.result c.in-Some.flipped c.requires.owner c.flip_of.ensures c.in-Some.is

pub returns-in-None-clause-written : goal.returns-in-None-clause-written
returns-in-None-clause-written g c =
    λ scene h. isnt_written scene (formula_of c.args.self.now.expr.now) (tris_of c.args.self.now.near.now) c.args.i
    c.args.ring _ _ (c.trace_sides_on.ensures.sides c.requires.reference_sides c.requires.inside scene h)
    c.flip_of.result c.flip_of.ensures c.in-None.is
