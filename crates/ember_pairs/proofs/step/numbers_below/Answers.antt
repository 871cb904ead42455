use Rattle.std.proofs.Common.{◌≡◌, ◌+◌, ◌++◌, [], ◌∷◌, ◌∙◌, sym, ap, arith}
use Rattle.std.specs.List.{range_with_len}
use Rattle.ember_pairs.proofs.Steps.{range_more}
use Rattle.ember_pairs.proofs.step.numbers_below.Goals as goal

pub loop-i-preserved : goal.loop-i-preserved
loop-i-preserved c =
    let i = c.loop-i.i in
    let z : 0 + i ≡ i = omega arith in
    c.in_ok-push.ensures.items ∙ ap (λ l. l ++ i ∷ []) c.loop-i.invariant ∙ sym (range_more 0 i ∙ ap (λ m. range_with_len 0 i ++ m ∷ []) z)
