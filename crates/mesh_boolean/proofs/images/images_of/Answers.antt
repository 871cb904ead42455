use Rattle.std.proofs.Common.{sym, subst, arith}
use Rattle.mesh_boolean.specs.Images.{HaveImageFault, IsImageIf}
use Rattle.mesh_boolean.proofs.ImageLists.{image_fault_at, images_are_all, three_more, within_for_each}
use Rattle.mesh_boolean.proofs.images.images_of.Goals as goal

pub bounds-surfaces-index : goal.bounds-surfaces-index
bounds-surfaces-index c =
    within_for_each c.args.placings.now c.args.surfaces.now c.loop-index.index c.requires.placings c.loop-index-test.true

pub returns-in-Err-clause-fault : goal.returns-in-Err-clause-fault
returns-in-Err-clause-fault c =
    let placings = c.args.placings.now in
    let surfaces = c.args.surfaces.now in
    let index = c.loop-index.index in
    subst (HaveImageFault placings surfaces) (sym c.image_fault.ensures)
    (image_fault_at placings surfaces index c.index-placings-index.result c.index-surfaces-index.result c.in-Err.fault
    c.loop-index-test.true (within_for_each placings surfaces index c.requires.placings c.loop-index-test.true)
    c.index-placings-index.is c.index-surfaces-index.is c.in-Err.ensures.fault)

pub loop-index-preserved : goal.loop-index-preserved
loop-index-preserved c =
    let placings = c.args.placings.now in
    let surfaces = c.args.surfaces.now in
    let index = c.loop-index.index in
    three_more IsImageIf placings surfaces _ _ index c.index-placings-index.result c.index-surfaces-index.result c.in-Ok.image
    c.loop-index-test.true (within_for_each placings surfaces index c.requires.placings c.loop-index-test.true)
    c.index-placings-index.is c.index-surfaces-index.is c.loop-index.invariant c.in_ok-push-in-Ok.ensures.items c.in-Ok.ensures.image

pub returns-clause-images : goal.returns-clause-images
returns-clause-images c =
    images_are_all c.args.placings.now c.args.surfaces.now c.loop-index.images.items c.loop-index.index (omega arith)
    c.requires.placings c.loop-index.invariant
