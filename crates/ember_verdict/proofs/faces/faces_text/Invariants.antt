use Rattle.std.proofs.Common.{◌≤◌, take}
use Rattle.ember_verdict.specs.FaceTexts.{HasTexts}
use Rattle.ember_verdict.proofs.faces.faces_text.Given as goal

abbrev pub invariant-loop-tri : goal.invariant-loop-tri
invariant-loop-tri l =
    record {
      has : HasTexts (take l.tri-index l.fn.tris) l.text.items l.count;
      few : l.count ≤ l.tri-index;
    }
