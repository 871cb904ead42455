use Rattle.std.proofs.Common.{◌≡◌, ◌≤◌, None, take}
use Rattle.mesh_outside.specs.Target.Several.{PutsEach, names_and_bytes}
use Rattle.mesh_outside.proofs.target.several.write_each.Given as goal

abbrev pub invariant-loop-file : goal.invariant-loop-file
invariant-loop-file g l =
    record {
      none_begun : g.T.Target.begun l.target ≡ None;
      later : g.T.Target.faults l.fn.target ≤ g.T.Target.faults l.target;
      put : PutsEach (names_and_bytes (take l.file-index l.files)) (g.T.Target.held l.fn.target) (g.T.Target.held l.target);
    }
