use Rattle.std.proofs.Common.{map, take}
use Rattle.ember_text.specs.Documents.{written_face}
use Rattle.ember_text.specs.OutlineFaces.{AreOutlineFaces}
use Rattle.ember_text.proofs.outline.outline_faces_on.Given as goal

abbrev pub invariant-loop-k : goal.invariant-loop-k
invariant-loop-k g l = AreOutlineFaces g.W.Width (map written_face (take l.k-index l.kept)) l.faces.items
