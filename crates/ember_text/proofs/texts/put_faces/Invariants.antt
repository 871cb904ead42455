use Rattle.std.proofs.Common.{map, take}
use Rattle.ember_leaf.specs.Written.{HasGrown}
use Rattle.ember_text.specs.Documents.{AreTextsInRange, written_face}
use Rattle.ember_text.proofs.texts.put_faces.Given as goal

abbrev pub invariant-loop-k : goal.invariant-loop-k
invariant-loop-k l = HasGrown (AreTextsInRange (map written_face (take l.k-index l.kept))) l.fn.out.items l.out.items
