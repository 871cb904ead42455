use Rattle.std.proofs.Common.{codes, List, ℕ, ◌++◌, ap, ◌∙◌, map, string_bytes}
use Rattle.mesh_refusal.specs.WordLines.{value_text}
use Rattle.mesh_number.proofs.Appended.{after2, on_ok_same}
use Rattle.mesh_refusal.proofs.word_lines.put_over_input.Goals as goal

pub returns : goal.returns
returns c =
    on_ok_same _ _ _ c.put_value.result c.put_value.ensures
    (after2 (value_text c.args.option (map string_bytes c.args.words.now))
    (codes ": would write over the input " ++ (c.as_bytes.result.now ++ codes "; give another name")) _ _
    c.in_ok-put_given.ensures
    ∙ ap (λ (input : List ℕ). c.args.text.now.items ++ (value_text c.args.option (map string_bytes c.args.words.now)
    ++ (codes ": would write over the input " ++ (input ++ codes "; give another name"))))
    (c.as_bytes.ensures.value ∙ c.as_str.ensures ∙ c.in_ok-input.ensures))
