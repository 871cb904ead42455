use Rattle.std.proofs.Common.{◌≡◌, ◌+◌, drop}
use Rattle.mesh_refusal.specs.Refusals.{noun_length}
use Rattle.mesh_refusal.proofs.refusal_objects.noun_length.Given as goal

abbrev pub invariant-loop-byte : goal.invariant-loop-byte
invariant-loop-byte l =
    record {
      counted : l.count ≡ l.byte-index;
      value : l.count + noun_length (drop l.byte-index l.text) ≡ noun_length l.text;
    }
