use Rattle.std.proofs.Common.{◌∙◌}
use lib.Ieee.{of_int, of_bits}
use Rattle.serde_json.specs.View.{view}
use Rattle.mesh_gltf.proofs.StillNodes.{matrix_moves, translation_moves, rotation_moves, scale_decides}
use Rattle.mesh_gltf.proofs.nodes.is_still.Goals as goal

pub returns-then-not-is_missing_or : goal.returns-then-not-is_missing_or
unfolding of_int of_bits
returns-then-not-is_missing_or c = matrix_moves (view c.args.node.now) c.if-not-is_missing_or.ensures

pub returns-then-not-is_missing_or-2 : goal.returns-then-not-is_missing_or-2
unfolding of_int of_bits
returns-then-not-is_missing_or-2 c =
    translation_moves (view c.args.node.now) c.if-not-is_missing_or.ensures c.if-not-is_missing_or-2.ensures

pub returns-then-not-is_missing_or-3 : goal.returns-then-not-is_missing_or-3
unfolding of_int of_bits
returns-then-not-is_missing_or-3 c =
    rotation_moves (view c.args.node.now) c.if-not-is_missing_or.ensures c.if-not-is_missing_or-2.ensures
    c.if-not-is_missing_or-3.ensures

pub returns : goal.returns
unfolding of_int of_bits
returns c =
    c.is_missing_or-4.ensures
    ∙ scale_decides (view c.args.node.now) c.if-not-is_missing_or.ensures c.if-not-is_missing_or-2.ensures c.if-not-is_missing_or-3.ensures
