use Rattle.std.proofs.Common.{codes, List, ℕ, ◌++◌, append_assoc, ap, ◌∙◌}
use Rattle.mesh_texts.specs.Texts.{length_text, step_text}
use Rattle.mesh_number.proofs.Appended.{after4, on_ok_same}
use Rattle.mesh_refusal.proofs.lines.put_extent.Goals as goal

pub returns : goal.returns
returns c =
    let e = c.args.extent.now in
    let given = c.args.given.now in
    let rest = length_text e ++ (codes " long, which needs a step of at least " ++ step_text e.finest) in
    let split = append_assoc (codes "--step ") (given ++ codes ": the scene is ") rest
    ∙ ap (λ (xs : List ℕ). codes "--step " ++ xs) (append_assoc given (codes ": the scene is ") rest) in
    on_ok_same _ _ _ c.put_step.result c.put_step.ensures
    (after4 (codes "--step " ++ (given ++ codes ": the scene is ")) (length_text e)
    (codes " long, which needs a step of at least ") (step_text e.finest) _ _ _ _ c.in_ok-put_value.ensures
    c.in_ok-put_length.ensures c.in_ok-extend_from_slice.ensures.items
    ∙ ap (λ (xs : List ℕ). c.args.text.now.items ++ xs) split)
