use Rattle.std.proofs.Common.{◌≡◌, drop}
use Rattle.std.specs.List.{list_all}
use Rattle.ember_model.specs.ClearTest.{is_clear_of}
use Rattle.ember_verdict.proofs.at.is_clear_of_all.Given as goal

abbrev pub invariant-loop-tri : goal.invariant-loop-tri
invariant-loop-tri l =
    record { rest : list_all (λ t. is_clear_of t l.point) l.tris ≡ list_all (λ t. is_clear_of t l.point) (drop l.tri-index l.tris) }
