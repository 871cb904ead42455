use Rattle.std.proofs.Common.{[], ◌∷◌, ◌++◌, ℕ, Vec, Global, decimal, ap, sym, ◌∙◌}
use Rattle.std.proofs.lemmas.List.{map-append, map_more}
use Rattle.mesh_texts.specs.Objects.{texts_of}
use Rattle.mesh_report.proofs.lying.numbers.Goals as goal

pub loop-count-preserved : goal.loop-count-preserved
loop-count-preserved c =
    let old = c.loop-count in
    let counts = c.args.counts.now in
    let pushed = ap texts_of c.in_ok-push.ensures.items
    ∙ map-append (λ (v : Vec ℕ Global). v.items) old.texts.items (c.in_ok-number.field-0 ∷ []) in
    pushed ∙ (λ k. old.invariant k ++ c.in_ok-number.ensures k ∷ [])
    ∙ sym (map_more decimal counts old.count-index 0 c.loop-count-test.true)
