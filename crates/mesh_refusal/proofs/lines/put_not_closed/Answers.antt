use Rattle.std.proofs.Common.{codes, List, ℕ, ◌+◌, ◌++◌, append_assoc, ap, ◌∙◌}
use Rattle.mesh_texts.specs.Texts.{name_of}
use Rattle.mesh_refusal.specs.Lines.{open_text}
use Rattle.mesh_number.proofs.Appended.{after2, on_ok_same}
use Rattle.mesh_refusal.proofs.lines.put_not_closed.Goals as goal

pub returns : goal.returns
returns c =
    let o = c.args.fault.now in
    let name = name_of c.args.files.now (o.file + 1) in
    let text = open_text o c.args.format in
    on_ok_same _ _ _ c.put_open.result c.put_open.ensures
    (after2 (name ++ codes ": ") text _ _ c.in_ok-put_file.ensures ∙ ap (λ (xs : List ℕ). c.args.text.now.items ++ xs) (append_assoc name (codes ": ") text))
