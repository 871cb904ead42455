use Rattle.std.proofs.Common.{◌+◌, List, All, length, subst}
use Rattle.ember_algebra.specs.Size.{Small}
use Rattle.ember_model.specs.declared.tri.Tri.{Tri}
use Rattle.ember_law.proofs.Vectors.{axes_law}
use Rattle.ember_law.proofs.count.axis_count.Goals as goal

pub returns-clause-within : goal.returns-clause-within
returns-clause-within c = λ m h.
    let P : List Tri → Type 0 = λ ts. All (Small (m + length ts)) c.count_rays.new.v.counts in subst P c.items.ensures (c.count_rays.ensures.within m h)

pub returns-clause-law : goal.returns-clause-law
returns-clause-law c = axes_law c.args.s.now.tris c.args.s.now.meshes c.args.s.now.kept
