use Rattle.std.proofs.Common.{arith, ap, sym, ◌∙◌}
use mir.Syntax.{w128}
use mir.Val.{to_z}
use Rattle.ember_algebra.proofs.Exact.{kept, ◌&◌, done, exact}
use Rattle.ember_algebra.proofs.Size.{small_within}
use Rattle.ember_point.proofs.Quotients.{stored-quotient, quotient_valid, quotient_same, quotient_lowest, lowest_if_one}
use Rattle.ember_point.proofs.lowest.reduce.Goals as goal

pub invariant_of-result : goal.invariant_of-result
invariant_of-result c =
    let v = c.args.m.now.valid in let g = c.common_divisor-divisor.ensures in
    record {
      valid = quotient_valid v g.positive
          (record {
            x = stored-quotient _ _ _ v.x g.small g.positive g.x c.quotient.ensures;
            y =
                stored-quotient _ _ _ v.y g.small g.positive g.y c.quotient-2.ensures;
            z =
                stored-quotient _ _ _ v.z g.small g.positive g.z c.quotient-3.ensures;
            w =
                stored-quotient _ _ _ (small_within (omega arith) v.w) g.small g.positive g.w c.quotient-4.ensures;
          });
    }

pub returns-clause-same : goal.returns-clause-same
returns-clause-same c =
    let v = c.args.m.now.valid in let g = c.common_divisor-divisor.ensures in
    quotient_same {d = c.common_divisor-divisor.result}
    (record {
      x = stored-quotient _ _ _ v.x g.small g.positive g.x c.quotient.ensures;
      y =
          stored-quotient _ _ _ v.y g.small g.positive g.y c.quotient-2.ensures;
      z =
          stored-quotient _ _ _ v.z g.small g.positive g.z c.quotient-3.ensures;
      w =
          stored-quotient _ _ _ (small_within (omega arith) v.w) g.small g.positive g.w c.quotient-4.ensures;
    })

pub returns-clause-lowest : goal.returns-clause-lowest
returns-clause-lowest c =
    let v = c.args.m.now.valid in let g = c.common_divisor-divisor.ensures in
    quotient_lowest g (record {
      x = stored-quotient _ _ _ v.x g.small g.positive g.x c.quotient.ensures;
      y =
          stored-quotient _ _ _ v.y g.small g.positive g.y c.quotient-2.ensures;
      z =
          stored-quotient _ _ _ v.z g.small g.positive g.z c.quotient-3.ensures;
      w =
          stored-quotient _ _ _ (small_within (omega arith) v.w) g.small g.positive g.w c.quotient-4.ensures;
    })

pub returns-then-divisor-eq1-clause-lowest : goal.returns-then-divisor-eq1-clause-lowest
returns-then-divisor-eq1-clause-lowest c =
    let g = c.common_divisor-divisor.ensures in
    lowest_if_one g (sym (exact (g.small & done) (kept 0) tt) ∙ ap (λ n. to_z w128 n) c.if-divisor-eq1.true)
