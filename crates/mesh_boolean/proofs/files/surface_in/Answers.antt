use Rattle.std.proofs.Common.{sym, subst}
use Rattle.mesh_boolean.specs.Faults.{IsRefusal}
use Rattle.mesh_boolean.proofs.Refusals.{file_fault_is}
use Rattle.mesh_boolean.proofs.files.surface_in.Goals as goal

pub returns-in-Err-clause-fault : goal.returns-in-Err-clause-fault
returns-in-Err-clause-fault c =
    subst (IsRefusal c.args.file.now c.args.index) (sym c.file_fault.ensures)
    (file_fault_is c.args.file.now c.args.index c.in-Err.fault c.in-Err.ensures.fault c.in-Err.ensures.plain)
