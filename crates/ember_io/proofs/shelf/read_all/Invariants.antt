use Rattle.std.proofs.Common.{◌≡◌, ◌≤◌, ◌+◌, ◌-◌, vec_len}
use Rattle.std.specs.Io.KnownBytes.{Consumes}
use Rattle.ember_io.proofs.shelf.read_all.Given as goal

abbrev pub invariant-loop-count : goal.invariant-loop-count
invariant-loop-count g l =
    record {
      contents : g.S.Shelf.contents l.shelf ≡ g.S.Shelf.contents l.fn.shelf;
      begun : g.S.Shelf.begun l.shelf ≡ l.number;
      fault_at : g.S.Shelf.fault_at l.shelf ≡ g.S.Shelf.fault_at l.fn.shelf;
      later : g.S.Shelf.faults l.fn.shelf ≤ g.S.Shelf.faults l.shelf;
      read : Consumes (g.S.Shelf.contents l.fn.shelf l.name) (g.S.Shelf.unread l.shelf) l.bytes.items;
      most : vec_len l.bytes ≤ l.most;
    }

abbrev pub decreases-loop-count : goal.decreases-loop-count
decreases-loop-count g l = l.most + 1 - vec_len l.bytes
