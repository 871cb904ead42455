use Rattle.std.proofs.Common.{List, length, sym, ap, subst, arith}
use Rattle.std.specs.List.{All}
use Rattle.std.specs.declared.option.Option.{Option}
use Rattle.mesh_grid.specs.Grid.Grids.{IsWithinLimit}
use Rattle.mesh_place.specs.declared.surface.transformed.TransformedSurface.{TransformedSurface}
use Rattle.mesh_read.specs.declared.surface.surface.Surface.{Surface}
use Rattle.mesh_solid.proofs.Passing.{passed_on}
use Rattle.mesh_boolean.specs.Images.{AreForEach, AreGiven, AreImages, AreLent, HaveFlaw, HaveImageFault}
use Rattle.mesh_boolean.specs.Faults.{IsPlacingFault, of_scene_fault}
use Rattle.mesh_boolean.proofs.ImageLists.{flaws_are_faults, for_each_of, given_are_as_many, given_by_images, images_are_for_each}
use Rattle.mesh_boolean.proofs.Readings.{readings_are_as_many, files_are_placed}
use Rattle.mesh_boolean.proofs.Refusals.{image_fault_is, read_fault_is, scene_fault_is}
use Rattle.mesh_boolean.proofs.placing.placed_files.Goals as goal

pub returns-in_err-read-clause-fault : goal.returns-in_err-read-clause-fault
returns-in_err-read-clause-fault g c =
    let files = c.args.files.now in let placings = c.args.placings.now in
    passed_on (IsPlacingFault files placings c.args.wanted) c.from_residual.result c.in_err-read.field-0.0 c.from_residual.ensures.1
    (read_fault_is files placings c.args.wanted c.in_err-read.field-0.0 c.in_err-read.ensures.fault)

pub images_of-requires-clause-few : goal.images_of-requires-clause-few
images_of-requires-clause-few g c =
    let many = readings_are_as_many c.args.files.now c.in_ok-read.read.items c.in_ok-read.ensures.readings in
    let same = ap length c.deref.ensures.value in
    omega (arith, many, same, c.requires.few)

pub images_of-requires-clause-placings : goal.images_of-requires-clause-placings
images_of-requires-clause-placings g c =
    let many = readings_are_as_many c.args.files.now c.in_ok-read.read.items c.in_ok-read.ensures.readings in
    let same = ap length c.deref.ensures.value in
    for_each_of c.args.placings.now c.args.files.now _ c.requires.placings (omega (arith, many, same))

pub returns-in_err-images-clause-fault : goal.returns-in_err-images-clause-fault
returns-in_err-images-clause-fault g c =
    let files = c.args.files.now in let placings = c.args.placings.now in
    let fault = c.in_err-images.field-0.0 in
    passed_on (IsPlacingFault files placings c.args.wanted) c.from_residual-in_err-images.result fault
    c.from_residual-in_err-images.ensures.1
    (image_fault_is files placings c.args.wanted c.in_ok-read.read.items fault c.in_ok-read.ensures.readings
    (subst (λ (read : List Surface). HaveImageFault placings read fault) c.deref.ensures.value c.in_err-images.ensures.fault))

pub given_surfaces-requires-clause-few : goal.given_surfaces-requires-clause-few
given_surfaces-requires-clause-few g c =
    let many = readings_are_as_many c.args.files.now c.in_ok-read.read.items c.in_ok-read.ensures.readings in
    omega (arith, many, c.requires.few)

pub given_surfaces-requires-clause-images : goal.given_surfaces-requires-clause-images
given_surfaces-requires-clause-images g c =
    let images = c.in_ok-images.images.items in
    let made = subst (λ (read : List Surface). AreImages c.args.placings.now read images) c.deref.ensures.value c.in_ok-images.ensures.images in
    subst (λ (is : List (Option TransformedSurface)). AreForEach is c.in_ok-read.read.items) (sym c.deref-2.ensures.value)
    (images_are_for_each c.args.placings.now c.in_ok-read.read.items images made)

pub returns-in_err-surfaces-clause-fault : goal.returns-in_err-surfaces-clause-fault
returns-in_err-surfaces-clause-fault g c =
    let files = c.args.files.now in let placings = c.args.placings.now in
    let read = c.in_ok-read.read.items in
    let images = c.in_ok-images.images.items in
    let fault = c.in_err-surfaces.field-0.0 in
    let made = subst (λ (read : List Surface). AreImages placings read images) c.deref.ensures.value c.in_ok-images.ensures.images in
    let flaw = subst (λ (is : List (Option TransformedSurface)). HaveFlaw is fault) c.deref-2.ensures.value c.in_err-surfaces.ensures.fault in
    passed_on (IsPlacingFault files placings c.args.wanted) c.from_residual-in_err-surfaces.result fault
    c.from_residual-in_err-surfaces.ensures.1
    (image_fault_is files placings c.args.wanted read fault c.in_ok-read.ensures.readings (flaws_are_faults placings read images fault made flaw))

pub scene_of-requires-clause-few : goal.scene_of-requires-clause-few
scene_of-requires-clause-few g c =
    let read = c.in_ok-read.read.items in
    let images = c.in_ok-images.images.items in
    let placings = c.args.placings.now in
    let made = subst (λ (read : List Surface). AreImages placings read images) c.deref.ensures.value c.in_ok-images.ensures.images in
    let lent = subst (λ (is : List (Option TransformedSurface)). AreLent is read c.in_ok-surfaces.surfaces.items) c.deref-2.ensures.value
    c.in_ok-surfaces.ensures.lent in
    let given = given_are_as_many placings read c.in_ok-surfaces.surfaces.items
    (given_by_images placings read images c.in_ok-surfaces.surfaces.items made lent) in
    let many = readings_are_as_many c.args.files.now read c.in_ok-read.ensures.readings in
    let same = ap length c.deref-3.ensures.value in
    omega (arith, given, many, same, c.requires.few)

pub scene_of-requires-clause-within : goal.scene_of-requires-clause-within
scene_of-requires-clause-within g c = subst (All IsWithinLimit) (sym c.deref-3.ensures.value) c.in_ok-surfaces.ensures.within

pub returns-in_err-placed-clause-fault : goal.returns-in_err-placed-clause-fault
returns-in_err-placed-clause-fault g c =
    let files = c.args.files.now in let placings = c.args.placings.now in
    let read = c.in_ok-read.read.items in
    let images = c.in_ok-images.images.items in
    let cause = c.in_err-placed.field-0.0 in
    let made = subst (λ (read : List Surface). AreImages placings read images) c.deref.ensures.value c.in_ok-images.ensures.images in
    let lent = subst (λ (is : List (Option TransformedSurface)). AreLent is read c.in_ok-surfaces.surfaces.items) c.deref-2.ensures.value
    c.in_ok-surfaces.ensures.lent in
    let given = subst (AreGiven placings read) (sym c.deref-3.ensures.value)
    (given_by_images placings read images c.in_ok-surfaces.surfaces.items made lent) in
    passed_on (IsPlacingFault files placings c.args.wanted) c.from_residual-in_err-placed.result
    (of_scene_fault cause) c.from_residual-in_err-placed.ensures.1
    (scene_fault_is files placings c.args.wanted read c.deref-3.result.now cause c.in_ok-read.ensures.readings given c.in_err-placed.ensures.fault)

pub returns-clause-placed : goal.returns-clause-placed
returns-clause-placed g c =
    let placings = c.args.placings.now in
    let read = c.in_ok-read.read.items in
    let images = c.in_ok-images.images.items in
    let made = subst (λ (read : List Surface). AreImages placings read images) c.deref.ensures.value c.in_ok-images.ensures.images in
    let lent = subst (λ (is : List (Option TransformedSurface)). AreLent is read c.in_ok-surfaces.surfaces.items) c.deref-2.ensures.value
    c.in_ok-surfaces.ensures.lent in
    let given = subst (AreGiven placings read) (sym c.deref-3.ensures.value)
    (given_by_images placings read images c.in_ok-surfaces.surfaces.items made lent) in
    let is = c.in_ok-placed.ensures in
    files_are_placed c.args.files.now placings c.args.wanted read c.deref-3.result.now c.in_ok-placed.placed
    c.in_ok-read.ensures.readings given is.step is.grid is.tris is.meshes is.counts is.moves
