use Rattle.std.proofs.Common.{codes, List, ℕ, ◌++◌, ap, ◌∙◌}
use Rattle.mesh_number.proofs.Appended.{on_ok_same}
use Rattle.mesh_refusal.proofs.word_lines.put_no_step.Goals as goal

pub returns : goal.returns
returns c =
    on_ok_same _ _ _ c.put_value.result c.put_value.ensures
    (ap (λ (value : List ℕ). c.args.text.now.items ++ (codes "--step " ++ (value ++ codes ": not a number above 0")))
    (c.as_bytes.ensures.value ∙ c.as_str.ensures ∙ c.in_ok-step.ensures))
