use Rattle.std.proofs.Common.{◌≡◌, ◌+◌, length}
use Rattle.ember_mesh.specs.Joined.{AreNumbered}
use Rattle.ember_box_tests.proofs.scenes.scene_of_files.Given as goal

abbrev pub invariant-loop-bytes : goal.invariant-loop-bytes
invariant-loop-bytes l =
    record {
      count : length l.parts.items ≡ l.bytes-index;
      number : l.number ≡ l.bytes-index + 1;
      numbered : AreNumbered 1 l.parts.items;
    }
