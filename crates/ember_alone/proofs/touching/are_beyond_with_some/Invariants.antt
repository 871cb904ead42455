use Rattle.std.proofs.Common.{◌≡◌, false, take}
use Rattle.std.specs.List.{list_any}
use Rattle.ember_alone.specs.Parting.{are_beyond}
use Rattle.ember_alone.proofs.touching.are_beyond_with_some.Given as goal

-- none so far is a second plane
abbrev pub invariant-loop-second : goal.invariant-loop-second
invariant-loop-second l = list_any (λ w. are_beyond l.first w l.common) (take l.second-index l.heights) ≡ false
