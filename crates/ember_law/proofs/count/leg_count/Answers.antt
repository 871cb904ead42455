use Rattle.std.proofs.Common.{◌+◌, List, All, length, subst}
use Rattle.ember_algebra.specs.Size.{Small}
use Rattle.ember_model.specs.declared.tri.Tri.{Tri}
use Rattle.ember_law.proofs.Vectors.{legs_law, segments_law}
use Rattle.ember_law.proofs.count.leg_count.Goals as goal

pub returns-clause-within : goal.returns-clause-within
returns-clause-within c = λ m h.
    let P : List Tri → Type 0 = λ ts. All (Small (m + length ts)) c.count_segments.new.v.counts in subst P c.items.ensures (c.count_segments.ensures.within m h)

pub returns-clause-law : goal.returns-clause-law
returns-clause-law c = legs_law c.args.s.now.tris c.args.s.now.meshes c.args.s.now.kept

pub returns-clause-segments : goal.returns-clause-segments
returns-clause-segments c = segments_law c.args.s.now.tris c.args.s.now.meshes c.args.s.now.kept
