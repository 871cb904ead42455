use Rattle.std.proofs.Common.{◌≡◌, ◌≤◌, ◌+◌, take}
use Rattle.ember_verdict.specs.Held.{MayHold}
use Rattle.ember_verdict.specs.Scenes.{HasParts}
use Rattle.ember_verdict.proofs.scene.read_parts.Given as goal

abbrev pub invariant-loop-file : goal.invariant-loop-file
invariant-loop-file g l =
    record {
      contents : g.S.Shelf.contents l.shelf ≡ g.S.Shelf.contents l.initial.shelf;
      later : g.S.Shelf.faults l.initial.shelf ≤ g.S.Shelf.faults l.shelf;
      number : l.number ≡ l.file-index + 1;
      parts : MayHold (g.S.Shelf.contents l.initial.shelf) (take l.file-index l.files) (λ contents. HasParts l.places contents l.parts.items);
    }
