use Rattle.std.proofs.lemmas.List.Elements.{All-weaker}
use Rattle.ember_model.specs.Limits.{broad_limit}
use Rattle.ember_model.specs.Within.{IsTriWithin}
use Rattle.ember_model.proofs.PlaneSizes.{tri_within}
use Rattle.ember_visit.proofs.halving.halve_unless_leaf_among.Goals as goal

pub halve_box_among-requires-clause-within : goal.halve_box_among-requires-clause-within
halve_box_among-requires-clause-within g c =
    All-weaker (IsTriWithin g.W.Width.corner) (IsTriWithin broad_limit) (λ t. tri_within g.met.W.Width.at_most_broad) c.args.tris.now c.requires.within
