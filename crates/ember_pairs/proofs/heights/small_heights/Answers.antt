use Rattle.std.proofs.Common.{◌^◌, sym, subst}
use Rattle.ember_model.proofs.PlaneSizes.{tri_broad}
use Rattle.ember_width.specs.Laws.{narrow_is_broad}
use Rattle.ember_width.specs.declared.heights.Heights.{Heights}
use Rattle.ember_width.specs.Heights.{AreWithin}
use Rattle.ember_pairs.proofs.SmallHeights.{heights_small}
use Rattle.ember_pairs.proofs.heights.small_heights.Goals as goal

pub heights_of-requires-clause-plane : goal.heights_of-requires-clause-plane
heights_of-requires-clause-plane c = narrow_is_broad c.args.p.now c.requires.plane

pub heights_of-requires-clause-tri : goal.heights_of-requires-clause-tri
heights_of-requires-clause-tri c = tri_broad c.requires.tri

pub returns-clause-small : goal.returns-clause-small
returns-clause-small c =
    subst (λ (h : Heights). AreWithin (2 ^ 40) h) (sym c.heights_of.ensures.value)
    (heights_small c.args.p.now c.args.t.now c.requires.plane c.requires.tri)
