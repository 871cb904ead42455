use Rattle.std.proofs.Common.{length, ◌∙◌}
use Rattle.ember_model.specs.declared.point.Axis.TheVariants.{X}
use Rattle.ember_verdict.proofs.PointCounts.{few_counts, from_nothing, nothing_small}
use Rattle.ember_verdict.proofs.at.counts_at.Goals as goal

pub axis_count-requires-clause-room : goal.axis_count-requires-clause-room
axis_count-requires-clause-room c = nothing_small 16515072 64

pub returns-clause-counts : goal.returns-clause-counts
returns-clause-counts c = c.axis_count.ensures.value ∙ from_nothing X c.args.scene.now.tris c.args.point.now

pub returns-clause-small : goal.returns-clause-small
returns-clause-small c =
    few_counts (length c.args.scene.now.tris) c.axis_count.new.v.counts c.args.scene.now.kept.few c.axis_count.ensures.within
