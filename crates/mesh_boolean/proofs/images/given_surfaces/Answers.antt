use Rattle.std.proofs.Common.{sym, subst, arith}
use Rattle.mesh_boolean.specs.Images.{HaveFlaw, IsLent}
use Rattle.mesh_boolean.proofs.ImageLists.{flaw_at, next_of_rest, rest_has_next, rest_more, three_more, within_for_each}
use Rattle.mesh_boolean.proofs.Readings.{within_more}
use Rattle.mesh_boolean.proofs.images.given_surfaces.Goals as goal

pub remove-surface-requires : goal.remove-surface-requires
remove-surface-requires c =
    let within = within_for_each c.args.images.now c.args.surfaces.items c.loop-index.index c.requires.images c.loop-index-test.true in
    let left = rest_has_next c.loop-index.rest.items c.args.surfaces.items c.loop-index.index within c.loop-index.invariant.rest in
    omega (arith, left, c.loop-index.rest.ok.0)

pub returns-in-Err-clause-fault : goal.returns-in-Err-clause-fault
returns-in-Err-clause-fault c =
    subst (HaveFlaw c.args.images.now) (sym c.image_fault.ensures)
    (flaw_at c.args.images.now c.loop-index.index c.index-images-index.result c.in-Err.fault c.loop-index-test.true
    c.index-images-index.is c.in-Err.ensures.fault)

pub loop-index-preserved : goal.loop-index-preserved
loop-index-preserved c =
    let images = c.args.images.now in
    let surfaces = c.args.surfaces.items in
    let index = c.loop-index.index in
    let i = c.loop-index.invariant in
    let within = within_for_each images surfaces index c.requires.images c.loop-index-test.true in
    let here = next_of_rest c.loop-index.rest.items surfaces index c.remove-surface.result within i.rest c.remove-surface.ensures.value in
    record {
      rest = rest_more c.loop-index.rest.items c.remove-surface.new.self.items surfaces index i.rest c.remove-surface.ensures.items;
      lent = three_more IsLent images surfaces _ _ index c.index-images-index.result c.remove-surface.result c.in-Ok.surface
          c.loop-index-test.true within c.index-images-index.is here i.lent c.in_ok-push-in-Ok.ensures.items c.in-Ok.ensures.lent;
      within = within_more _ _ c.in-Ok.surface i.within c.in_ok-push-in-Ok.ensures.items c.in-Ok.ensures.within;
    }
