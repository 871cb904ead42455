use Rattle.std.proofs.Common.{◌≡◌, length, ◌++◌, ◌∷◌, replicate}
use Rattle.ember_obj.specs.References.{fan, fan_round}
use Rattle.ember_obj.proofs.references.push_fan.Given as goal

abbrev pub invariant-loop-corner : goal.invariant-loop-corner
invariant-loop-corner l = record {
  tris : l.fn.tris.items ++ fan l.mesh l.corners ≡ l.tris.items ++ fan_round l.mesh l.first (l.previous ∷ l.rest);
  lines : l.fn.lines.items ++ replicate (length (fan l.mesh l.corners)) l.line ≡ l.lines.items
      ++ replicate (length (fan_round l.mesh l.first (l.previous ∷ l.rest))) l.line;
}

abbrev pub decreases-loop-corner : goal.decreases-loop-corner
decreases-loop-corner l = length l.rest
