use Rattle.std.proofs.Common.{sym, subst, ℤ}
use mir.Syntax.{w32}
use Rattle.ember_algebra.specs.Size.{Small}
use Rattle.ember_algebra.proofs.Exact.{input, stored, ◌&◌, done, bounded}
use Rattle.ember_box.specs.Aabbs.{most_wall}
use Rattle.ember_trace.proofs.Roots.{half_small, root_small}
use Rattle.ember_trace.proofs.path_limits.floor_in_root.Goals as goal

pub returns-clause-small : goal.returns-clause-small
returns-clause-small g c =
    let w = g.met.W.Width in
    let small = subst (λ (z : ℤ). Small most_wall z) (sym c.floor_in_root.ensures)
    (root_small most_wall _ _ (half_small w.unit_is w.few_steps)) in
    bounded (small & done) most_wall (stored w32 (input 0)) tt
