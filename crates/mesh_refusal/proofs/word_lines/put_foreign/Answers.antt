use Rattle.std.proofs.Common.{codes, List, ℕ, ◌++◌, ap, ◌∙◌}
use Rattle.mesh_words.specs.Spelling.{option_of}
use Rattle.mesh_number.proofs.Appended.{after4, on_ok_if}
use Rattle.mesh_refusal.proofs.word_lines.put_foreign.Goals as goal

pub returns : goal.returns
returns c =
    on_ok_if _ _ c.extend_from_slice-4.result c.extend_from_slice-4.ensures.items
    (after4 (option_of c.args.option) (codes ": not an option of ") c.args.command.now (codes "; see ember-mesh help") _
    _ _ _ (c.in_ok-extend_from_slice.ensures.items
    ∙ ap (λ (xs : List ℕ). c.args.text.now.items ++ xs) (c.as_bytes.ensures.value ∙ c.name.ensures))
    c.in_ok-extend_from_slice-2.ensures.items c.in_ok-extend_from_slice-3.ensures.items)
