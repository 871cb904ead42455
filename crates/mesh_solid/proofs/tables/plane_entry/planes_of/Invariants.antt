use Rattle.std.proofs.Common.{◌≡◌, map, take}
use Rattle.mesh_solid.specs.Tables.Numberings.{plane_of}
use Rattle.mesh_solid.proofs.tables.plane_entry.planes_of.Given as goal

abbrev pub invariant-loop-entry : goal.invariant-loop-entry
invariant-loop-entry l = l.planes.items ≡ map plane_of (take l.entry-index l.entries)
