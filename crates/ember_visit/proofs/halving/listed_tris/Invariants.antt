use Rattle.std.proofs.Common.{◌≡◌, take}
use Rattle.ember_box.specs.Near.{listed}
use Rattle.ember_visit.proofs.halving.listed_tris.Given as goal

abbrev pub invariant-loop-i : goal.invariant-loop-i
invariant-loop-i l = l.found.items ≡ listed l.tris (take l.i-index l.list)
