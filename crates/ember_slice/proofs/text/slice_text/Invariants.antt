use Rattle.std.proofs.Common.{◌≡◌, ◌≤◌, take}
use Rattle.ember_slice.specs.Texts.{HasSegments}
use Rattle.ember_slice.proofs.text.slice_text.Given as goal

abbrev pub invariant-loop-face : goal.invariant-loop-face
invariant-loop-face l = record {
  done : HasSegments (take l.face-index l.faces) l.at l.count l.text.items;
  number : l.number ≡ l.face-index;
  count : l.count ≤ l.face-index;
}
