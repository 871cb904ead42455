use Rattle.std.proofs.Common.{◌≡◌, take}
use Rattle.ember_box.specs.Boxes.{in_steps}
use Rattle.ember_box.specs.Near.{near_indices}
use Rattle.ember_box.proofs.nearness.near_list_among.Given as goal

abbrev pub invariant-loop-i : goal.invariant-loop-i
invariant-loop-i g l = l.found.items ≡ near_indices l.tris (in_steps g.W.Width.scale l.c) (take l.i-index l.list)
