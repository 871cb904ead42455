use Rattle.std.proofs.Common.{List, ℕ, ◌++◌, ap, refl}
use Rattle.mesh_refusal.specs.Lines.{file_text}
use Rattle.mesh_number.proofs.Appended.{on_ok_same}
use Rattle.mesh_refusal.proofs.lines.put_reading_why.Goals as goal

pub returns-in-ReadFault : goal.returns-in-ReadFault
returns-in-ReadFault c =
    rw c.in-ReadFault.is
    (on_ok_same _ _ _ c.put_file.result c.put_file.ensures
    (ap (λ (why : List ℕ). c.args.text.now.items ++ file_text c.args.files.now c.in-ReadFault.number why) c.unreadable_text.ensures))

pub returns-in-LongFile : goal.returns-in-LongFile
returns-in-LongFile c = rw c.in-LongFile.is (on_ok_same _ _ _ c.put_file-in-LongFile.result c.put_file-in-LongFile.ensures refl)
