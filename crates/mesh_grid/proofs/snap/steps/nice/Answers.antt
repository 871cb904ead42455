use Rattle.std.proofs.Common.{◌≤◌, ◌<◌, arith}
use Rattle.mesh_grid.proofs.NiceSteps.{nice_small, nice_is_step}
use Rattle.mesh_grid.proofs.snap.steps.nice.Goals as goal
use Rattle.mesh_grid.proofs.snap.steps.nice.Goals.{in-0, in-1, in_default}

pub overflow_mul-result : goal.overflow_mul-result
overflow_mul-result c =
    let digit : c.match-rank-rem3.digit ≤ 5 = elim c.match-rank-rem3.branch [ in-0 w ↦ omega arith | in-1 w ↦ omega arith | in_default w ↦ omega arith ] in
    rw c.pow.ensures (omega (arith, nice_small c.match-rank-rem3.digit c.saturating_sub.result digit (omega arith)))

pub returns-clause-step : goal.returns-clause-step
returns-clause-step c =
    let digit : c.match-rank-rem3.digit ≤ 5 = elim c.match-rank-rem3.branch [ in-0 w ↦ omega arith | in-1 w ↦ omega arith | in_default w ↦ omega arith ] in
    let positive : 0 < c.match-rank-rem3.digit = elim c.match-rank-rem3.branch [ in-0 w ↦ omega arith | in-1 w ↦ omega arith | in_default w ↦ omega arith ] in
    rw (c.pow.ensures, c.pow-2.ensures) (nice_is_step c.match-rank-rem3.digit c.saturating_sub.result
    c.saturating_sub-2.result positive digit (omega arith) (omega arith))
