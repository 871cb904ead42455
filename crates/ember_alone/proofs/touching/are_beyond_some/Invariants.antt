use Rattle.std.proofs.Common.{◌≡◌, false, take}
use Rattle.std.specs.List.{list_any}
use Rattle.ember_alone.specs.Parting.{are_beyond}
use Rattle.ember_alone.proofs.touching.are_beyond_some.Given as goal

-- none so far is a first plane
abbrev pub invariant-loop-first : goal.invariant-loop-first
invariant-loop-first l = list_any (λ v. list_any (λ w. are_beyond v w l.common) l.heights) (take l.first-index l.heights) ≡ false
