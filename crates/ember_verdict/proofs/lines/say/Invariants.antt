use Rattle.std.proofs.Common.{◌≡◌, ◌≤◌, List, ℕ, ◌++◌, drop, flat_map}
use Rattle.std.specs.Io.KnownBytes.{Appends}
use Rattle.ember_verdict.proofs.lines.say.Given as goal

abbrev pub invariant-loop-piece : goal.invariant-loop-piece
invariant-loop-piece g l =
    record {
      later : g.E.Sink.faults l.initial.err ≤ g.E.Sink.faults l.err;
      taken : (front : List ℕ) × (flat_map (λ p. p.now) l.fn.pieces ≡ front
          ++ flat_map (λ p. p.now) (drop l.piece-index l.pieces)) × Appends (g.E.Sink.taken l.initial.err)
          (g.E.Sink.taken l.err) front;
    }
