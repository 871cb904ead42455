use Rattle.std.proofs.Common.{arith}
use Rattle.ember_tree.proofs.SortKeys.{sort_key_fits}
use Rattle.ember_tree.proofs.tree.sort_key.Goals as goal

pub overflow_mul-result : goal.overflow_mul-result
overflow_mul-result c = let fits = sort_key_fits c.args.path (omega (arith, c.if-path-eq0.false)) (omega (arith, c.ranges.path.fits)) in omega (arith, fits)
