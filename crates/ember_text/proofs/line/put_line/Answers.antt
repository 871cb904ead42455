use Rattle.std.proofs.Common.{◌≡◌, ◌++◌, ◌∷◌, [], ap, ◌∙◌, arith, drop}
use Rattle.ember_model.specs.FaceFiles.{fields}
use Rattle.ember_text.proofs.GrownBytes.{on_ok_if, written_before}
use Rattle.ember_text.proofs.line.put_line.Goals as goal

pub returns-clause-ok : goal.returns-clause-ok
returns-clause-ok c =
    let l = c.loop-left in let inv = l.invariant in let ns = c.args.numbers.now in
    let zero : l.left ≡ 0 = omega (arith, c.loop-left-test.false) in
    let all : drop l.at l.line ≡ fields ns ++ 10 ∷ [] = inv.written ∙ ap (λ k. fields (drop k ns) ++ 10 ∷ []) zero in
    on_ok_if _ _ c.extend_from_slice.result c.extend_from_slice.ensures.items
    (ap (λ bytes. c.args.out.now.items ++ bytes)
    (written_before l.line l.at c.args.keyword 330 (omega (arith, inv.room)) inv.fits inv.size all))
