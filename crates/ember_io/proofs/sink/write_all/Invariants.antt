use Rattle.std.proofs.Common.{◌≡◌, ◌≤◌, List, ℕ, ◌++◌, length}
use Rattle.std.specs.Io.KnownBytes.{Appends}
use Rattle.ember_io.proofs.sink.write_all.Given as goal

abbrev pub invariant-loop-rest : goal.invariant-loop-rest
invariant-loop-rest g l =
    record {
      unflushed : g.O.Sink.flushed l.sink ≤ g.O.Sink.flushed l.initial.sink;
      later : g.O.Sink.faults l.initial.sink ≤ g.O.Sink.faults l.sink;
      taken : (front : List ℕ) × (l.fn.bytes ≡ front ++ l.rest) × Appends (g.O.Sink.taken l.initial.sink) (g.O.Sink.taken l.sink) front;
    }

abbrev pub decreases-loop-rest : goal.decreases-loop-rest
decreases-loop-rest g l = length l.rest
