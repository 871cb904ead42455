use Rattle.std.proofs.Common.{◌+◌, ◌*◌, ◌≤◌, ℤ, ◌∙◌, sym, subst, arith}
use mir.Syntax.{w64}
use Rattle.ember_algebra.specs.Size.{Small}
use Rattle.ember_algebra.proofs.Exact.{input, stored, ◌⊞◌, ◌&◌, done, exact, no_overflow}
use Rattle.ember_algebra.proofs.Size.{small_within}
use Rattle.mesh_boolean.proofs.VolumeSums.{volume_more, small_more}
use Rattle.mesh_boolean.proofs.volumes.sixfold_volume_of_mesh.Goals as goal

pub overflow_add-sum : goal.overflow_add-sum
overflow_add-sum c =
    let old = c.loop-t in
    let l = c.loop-t-test.true in
    let most : old.t-index * 206158430207 ≤ 54043195528183808 = omega (arith, l, c.requires.few) in
    no_overflow (small_within most old.invariant.small & (c.sixfold_volume_for-sum.ensures.small & done)) w64
    (input 0 ⊞ stored w64 (input 1)) tt

pub loop-t-preserved : goal.loop-t-preserved
loop-t-preserved c =
    let old = c.loop-t in
    let part = c.sixfold_volume_for-sum in
    let l = c.loop-t-test.true in
    let most : old.t-index * 206158430207 ≤ 54043195528183808 = omega (arith, l, c.requires.few) in
    let kept = exact (small_within most old.invariant.small & (part.ensures.small & done))
    (stored w64 (input 0 ⊞ stored w64 (input 1))) tt in
    record {
      sum = kept ∙ volume_more c.args.mesh c.args.tris.now old.t-index _ _ part.result l old.invariant.sum part.ensures.value;
      small = subst (λ (z : ℤ). Small ((old.t-index + 1) * 206158430207) z) (sym kept)
          (small_more 206158430207 old.t-index _ part.result old.invariant.small part.ensures.small);
    }
