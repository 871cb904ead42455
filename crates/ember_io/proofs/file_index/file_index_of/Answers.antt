use Rattle.std.proofs.Common.{◌∙◌, arith, ap, ◌≡◌, true, bytes_eq, string_bytes}
use Rattle.ember_io.proofs.FileIndices.{first_here}
use Rattle.ember_io.proofs.file_index.file_index_of.Goals as goal

pub returns-then-eq : goal.returns-then-eq
returns-then-eq c =
    let same : bytes_eq (string_bytes c.index-files-i.result.0) c.args.name.now ≡ true = cc in
    c.loop-i.invariant ∙ first_here c.args.files.now c.loop-i.i c.args.name.now c.index-files-i.result (omega arith)
    (rw (ap (λ f. bytes_eq (string_bytes f.0) c.args.name.now) c.index-files-i.is) at same)
