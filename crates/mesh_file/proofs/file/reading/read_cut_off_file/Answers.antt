use Rattle.std.proofs.Common.{ap}
use Rattle.mesh_file.specs.File.ReadFile.{or_unread}
use Rattle.mesh_file.proofs.NamedFormats.{refused_file_is_named}
use Rattle.mesh_file.proofs.file.reading.read_cut_off_file.Goals as goal

pub returns-in-Ok-clause-ok : goal.returns-in-Ok-clause-ok
returns-in-Ok-clause-ok c = ap (or_unread c.args.bytes.now) c.in-Ok.ensures.ok

pub returns-in-Err-clause-fault : goal.returns-in-Err-clause-fault
returns-in-Err-clause-fault c =
    refused_file_is_named c.args.bytes.now _ c.in-Err.fault c.or_unread.result c.in-Err.ensures.fault
    c.or_unread.ensures.fault c.or_unread.ensures.memory
