use Rattle.std.proofs.Common.{sym}
use Rattle.mesh_placing.proofs.FilePlacings.{memory_is_left}
use Rattle.mesh_placing.proofs.files.placing_of.Goals as goal

pub returns-in-Err-clause-memory : goal.returns-in-Err-clause-memory
returns-in-Err-clause-memory c =
    memory_is_left c.args.files c.args.number c.args.places.now c.in-Some.text.now c.in-Err.fault c.requires.said (sym c.in-Some.ensures)
    c.in-Err.ensures.fault
