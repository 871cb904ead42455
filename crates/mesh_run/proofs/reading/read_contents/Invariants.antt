use Rattle.std.proofs.Common.{◌≡◌, ◌≤◌, length, take}
use Rattle.mesh_run.specs.Files.{AreContents}
use Rattle.mesh_run.proofs.reading.read_contents.Given as goal

abbrev pub invariant-loop-name : goal.invariant-loop-name
invariant-loop-name g l =
    record {
      same : g.S.Shelf.contents l.shelf ≡ g.S.Shelf.contents l.initial.shelf;
      later : g.S.Shelf.faults l.initial.shelf ≤ g.S.Shelf.faults l.shelf;
      count : length l.contents.items ≡ l.name-index;
      contents : AreContents (g.S.Shelf.contents l.initial.shelf) (take l.name-index l.names) l.contents.items;
    }
