use Rattle.std.proofs.Common.{◌∙◌, List, ℕ, ap, map, refl, subst, sym, arith}
use Rattle.mesh_arrays.specs.Doubles.{doubles_of}
use Rattle.mesh_arrays.specs.Indices.{IsIndexFault, corners_of}
use Rattle.mesh_boolean.specs.Effects.{decimals_of}
use Rattle.mesh_boolean.specs.WritingFaults.{of_place_fault}
use Rattle.mesh_boolean.proofs.Outputs.{fewer_decimals, shown_are_written}
use Rattle.mesh_solid.proofs.Passing.{passed_on}
use Rattle.mesh_write.specs.declared.vertices.point.IndexedTriangle.{IndexedTriangle}
use Rattle.mesh_written.specs.Closed.{AreIndicesClosed}
use Rattle.mesh_written.specs.Shared.{IsSharedIndexCount}
use Rattle.ember_arrays.specs.Faults.{IsArraysFault}
use Rattle.ember_arrays.specs.Sources.{origins_after}
use Rattle.ember_arrays.proofs.Refusals.{index_fault_is, place_fault_is}
use Rattle.ember_arrays.proofs.arrays.arrays_of.Goals as goal

pub returns-in_err-written-clause-fault : goal.returns-in_err-written-clause-fault
returns-in_err-written-clause-fault c =
    let cause = c.in_err-written.field-0.0 in
    passed_on (IsArraysFault c.args.digits c.args.grid.now c.args.mesh.now) c.from_residual.result (of_place_fault cause)
    c.from_residual.ensures.1 (place_fault_is c.args.digits c.args.grid.now c.args.mesh.now cause c.in_err-written.ensures.fault)

pub returns-in_err-effect-clause-fault : goal.returns-in_err-effect-clause-fault
returns-in_err-effect-clause-fault c =
    let cause = c.in_err-effect.field-0.0 in
    passed_on (IsArraysFault c.args.digits c.args.grid.now c.args.mesh.now) c.from_residual-in_err-effect.result
    (of_place_fault cause) c.from_residual-in_err-effect.ensures.1
    (place_fault_is c.args.digits c.args.grid.now c.args.mesh.now cause c.in_err-effect.ensures.fault)

pub overflow_sub-vanished : goal.overflow_sub-vanished
overflow_sub-vanished c =
    let ts = decimals_of c.args.digits c.args.grid.now c.args.mesh.now in
    let fewer = fewer_decimals c.args.digits c.args.grid.now c.args.mesh.now in
    let indexed = shown_are_written ts c.triangles-indexed.result.now (c.triangles-indexed.ensures ts c.in_ok-written.ensures.mesh) in
    omega (arith, fewer, indexed)

pub returns-in-Err-clause-fault : goal.returns-in-Err-clause-fault
returns-in-Err-clause-fault c =
    let ts = decimals_of c.args.digits c.args.grid.now c.args.mesh.now in
    subst (IsArraysFault c.args.digits c.args.grid.now c.args.mesh.now) (sym c.index_fault.ensures)
    (index_fault_is c.args.digits c.args.grid.now c.args.mesh.now c.in_ok-split.split c.in-Err.fault
    (c.in_ok-split.ensures ts c.in_ok-written.ensures.mesh)
    (subst (λ (us : List IndexedTriangle). IsIndexFault us c.in-Err.fault) c.deref-3.ensures.value c.in-Err.ensures.fault))

pub returns-clause-arrays : goal.returns-clause-arrays
returns-clause-arrays c =
    let ts = decimals_of c.args.digits c.args.grid.now c.args.mesh.now in
    let is = c.in_ok-written.ensures.mesh in
    let of_points = c.triangles-indexed.ensures ts is in
    let fewer = fewer_decimals c.args.digits c.args.grid.now c.args.mesh.now in
    let indexed = shown_are_written ts c.triangles-indexed.result.now of_points in
    record {
      over = c.in_ok-split.split;
      are_over = c.in_ok-split.ensures ts is;
      vertices = c.in_ok-vertices.ensures
          ∙ (λ i. map (doubles_of (c.written_places-places.ensures.value i)) (c.deref-2.ensures.value i));
      triangles = c.in-Ok.ensures.triples ∙ ap (map corners_of) c.deref-3.ensures.value;
      origins = c.in_ok-origins.ensures ∙ ap (λ (rounded : List ℕ). origins_after rounded c.in_ok-split.split.origins) c.in_ok-written.ensures.origins;
      is_manifold = refl;
      effect = c.in_ok-effect.ensures.effect;
      faces = refl;
      planes = omega arith;
      mesh_triangles = omega arith;
      vanished = omega (arith, fewer, indexed);
      count = omega arith;
      shared = subst (λ (us : List IndexedTriangle). AreIndicesClosed us → IsSharedIndexCount us c.in_ok-shared.shared) of_points c.in_ok-shared.ensures;
      no_bytes = c.new.ensures.items;
      none_shown = refl;
    }
