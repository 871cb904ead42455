use Rattle.std.proofs.Common.{◌≡◌, ◌++◌, take}
use Rattle.mesh_texts.specs.Texts.{visible}
use Rattle.mesh_texts.proofs.texts.put_visible.Given as goal

abbrev pub invariant-loop-byte : goal.invariant-loop-byte
invariant-loop-byte l = l.text.items ≡ l.fn.text.items ++ visible (take l.byte-index l.said)
