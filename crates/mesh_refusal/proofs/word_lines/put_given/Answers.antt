use Rattle.std.proofs.Common.{codes, List, ℕ, ◌++◌, ap, ◌∙◌, map, string_bytes}
use Rattle.mesh_words.specs.Given.{value_given}
use Rattle.mesh_words.specs.Spelling.{option_of}
use Rattle.mesh_number.proofs.Appended.{after3, on_ok_if}
use Rattle.mesh_refusal.proofs.word_lines.put_given.Goals as goal

pub returns : goal.returns
returns c =
    on_ok_if _ _ c.extend_from_slice-3.result c.extend_from_slice-3.ensures.items
    (ap (λ (xs : List ℕ). c.extend_from_slice-2.new.self.items ++ xs)
    (c.as_bytes-2.ensures.value ∙ c.as_str.ensures ∙ c.in_ok-value.ensures)
    ∙ after3 (option_of c.args.option) (codes " ") (value_given c.args.option (map string_bytes c.args.words.now)) _ _ _
    (c.in_ok-extend_from_slice.ensures.items
    ∙ ap (λ (xs : List ℕ). c.args.text.now.items ++ xs) (c.as_bytes.ensures.value ∙ c.name-name.ensures))
    c.in_ok-extend_from_slice-2.ensures.items)
