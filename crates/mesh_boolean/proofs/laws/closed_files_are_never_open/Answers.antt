use Rattle.mesh_boolean.proofs.laws.closed_files_are_never_open.Goals as goal

pub returns : goal.returns
returns c = λ files wanted closed formula o fault. c.closed_surfaces_are_never_open.ensures o.grid fault.surfaces o
    fault.is_fault.0.step (closed fault.as_read fault.surfaces fault.read fault.given) fault.is_fault.1
