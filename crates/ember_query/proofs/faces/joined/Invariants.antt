use Rattle.std.proofs.Common.{◌≡◌, List, flat_map}
use Rattle.ember_model.specs.declared.face.Face.{Face}
use Rattle.ember_query.proofs.faces.joined.Given as goal

abbrev pub invariant-loop-list : goal.invariant-loop-list
invariant-loop-list l = l.faces.items ≡ flat_map (λ (list : List Face). list) l.yielded
