use Rattle.std.proofs.Common.{codes}
use Rattle.mesh_number.proofs.Appended.{after4, on_ok_if}
use Rattle.mesh_refusal.proofs.word_lines.put_word.Goals as goal

pub returns : goal.returns
returns c =
    on_ok_if _ _ c.extend_from_slice-4.result c.extend_from_slice-4.ensures.items
    (after4 c.args.word.now (codes ": ") c.args.why.now (codes "; see ember-mesh help") _ _ _ _
    c.in_ok-extend_from_slice.ensures.items c.in_ok-extend_from_slice-2.ensures.items
    c.in_ok-extend_from_slice-3.ensures.items)
