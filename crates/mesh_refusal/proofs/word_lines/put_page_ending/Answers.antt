use Rattle.std.proofs.Common.{codes, map, string_bytes}
use Rattle.mesh_refusal.specs.WordLines.{value_text}
use Rattle.mesh_number.proofs.Appended.{after2, on_ok_if}
use Rattle.mesh_refusal.proofs.word_lines.put_page_ending.Goals as goal

pub returns : goal.returns
returns c =
    on_ok_if _ _ c.extend_from_slice.result c.extend_from_slice.ensures.items
    (after2 (value_text c.args.option (map string_bytes c.args.words.now)) (codes ": the name must end in .html or .htm")
    _ _ c.in_ok-put_given.ensures)
