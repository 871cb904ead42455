use Rattle.std.proofs.Common.{◌≡◌, length}
use Rattle.mesh_read.specs.Stl.ReadStl.{has_name}
use Rattle.mesh_file.proofs.file.unread.has.Given as goal

abbrev pub invariant-loop-after : goal.invariant-loop-after
invariant-loop-after l = has_name l.name l.text ≡ has_name l.name l.rest

abbrev pub decreases-loop-after : goal.decreases-loop-after
decreases-loop-after l = length l.rest
