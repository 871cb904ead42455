use Rattle.std.proofs.Common.{Some, string_bytes}
use Rattle.mesh_outside.proofs.MapFiles.{Puts-updated}
use Rattle.mesh_outside.proofs.target.map_files.put_file.Goals as goal

pub returns-clause-put : goal.returns-clause-put
returns-clause-put c =
    rw (c.in_ok-name.ensures.ok, c.in_ok-bytes.ensures.items) at
    (Puts-updated c.args.files.now c.insert.new.self (string_bytes c.in_ok-name.name) (Some c.in_ok-bytes.bytes) c.in_ok-insert.ensures.updates)
