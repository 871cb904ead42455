use Rattle.std.proofs.Common.{◌+◌, ap, refl, ◌∙◌}
use Rattle.mesh_scene.specs.Scene.Images.{places_on}
use Rattle.ember_arrays.proofs.InputLists.{inputs_more}
use Rattle.ember_arrays.proofs.inputs.inputs_of.Goals as goal

pub loop-index-preserved : goal.loop-index-preserved
loop-index-preserved c =
    inputs_more c.args.grid.now c.args.surfaces.now c.loop-index.index c.index-surfaces-index.result (c.loop-index.index + 1)
    c.loop-index.inputs.items c.push_inputs.new.inputs.items c.items.result.now c.loop-index-test.true refl
    c.loop-index.invariant c.in_ok-push_inputs.ensures
    (c.items.ensures ∙ c.in_ok-places.ensures ∙ ap (places_on c.args.grid.now) c.index-surfaces-index.is)
