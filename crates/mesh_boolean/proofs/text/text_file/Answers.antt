use Rattle.std.proofs.Common.{ℕ, List, subst, refl, arith}
use Rattle.mesh_write.specs.declared.vertices.point.IndexedTriangle.{IndexedTriangle}
use Rattle.mesh_written.specs.Closed.{AreIndicesClosed}
use Rattle.mesh_written.specs.Shared.{IsSharedIndexCount}
use Rattle.mesh_boolean.specs.declared.wanted.MeshFormat.TheVariants.{Text}
use Rattle.mesh_boolean.specs.Effects.{decimals_of}
use Rattle.mesh_boolean.specs.Outputs.{IsTextOver}
use Rattle.mesh_boolean.specs.WritingFaults.{IsWritingFault, of_place_fault}
use Rattle.mesh_solid.proofs.Passing.{passed_on}
use Rattle.mesh_boolean.proofs.WritingRefusals.{decimal_fault_is, shown_fault_is}
use Rattle.mesh_boolean.proofs.Outputs.{fewer_decimals, shown_are_written}
use Rattle.mesh_boolean.proofs.text.text_file.Goals as goal

pub returns-in_err-written-clause-fault : goal.returns-in_err-written-clause-fault
returns-in_err-written-clause-fault c =
    let cause = c.in_err-written.field-0.0 in
    passed_on (IsWritingFault (Text c.args.format c.args.digits) c.args.grid.now c.args.mesh) c.from_residual.result
    (of_place_fault cause) c.from_residual.ensures.1
    (decimal_fault_is c.args.format c.args.digits c.args.grid.now c.args.mesh cause c.in_err-written.ensures.fault)

pub returns-in_err-effect-clause-fault : goal.returns-in_err-effect-clause-fault
returns-in_err-effect-clause-fault c =
    let cause = c.in_err-effect.field-0.0 in
    passed_on (IsWritingFault (Text c.args.format c.args.digits) c.args.grid.now c.args.mesh)
    c.from_residual-in_err-effect.result (of_place_fault cause) c.from_residual-in_err-effect.ensures.1
    (decimal_fault_is c.args.format c.args.digits c.args.grid.now c.args.mesh cause c.in_err-effect.ensures.fault)

pub returns-in_err-shown-clause-fault : goal.returns-in_err-shown-clause-fault
returns-in_err-shown-clause-fault c =
    let cause = c.in_err-shown.field-0.0 in
    passed_on (IsWritingFault (Text c.args.format c.args.digits) c.args.grid.now c.args.mesh)
    c.from_residual-in_err-shown.result (of_place_fault cause) c.from_residual-in_err-shown.ensures.1
    (shown_fault_is c.args.format c.args.digits c.args.grid.now c.args.mesh cause c.in_err-shown.ensures.fault)

pub overflow_sub-vanished : goal.overflow_sub-vanished
overflow_sub-vanished c =
    let ts = decimals_of c.args.digits c.args.grid.now c.args.mesh in
    let fewer = fewer_decimals c.args.digits c.args.grid.now c.args.mesh in
    let indexed = shown_are_written ts c.triangles-indexed.result.now (c.triangles-indexed.ensures ts c.in_ok-written.ensures.mesh) in
    omega (arith, fewer, indexed)

pub returns-clause-text : goal.returns-clause-text
returns-clause-text c =
    let ts = decimals_of c.args.digits c.args.grid.now c.args.mesh in
    let is = c.in_ok-written.ensures.mesh in
    let of_points = c.triangles-indexed.ensures ts is in
    let fewer = fewer_decimals c.args.digits c.args.grid.now c.args.mesh in
    let indexed = shown_are_written ts c.triangles-indexed.result.now of_points in
    let text = c.in_ok-text.text in
    record {
      bytes = subst (λ (places : ℕ). IsTextOver c.args.format places ts text.bytes.items text.triangles
          text.is_manifold) c.written_places-places.ensures.value (c.in_ok-text.ensures ts is);
      effect = c.in_ok-effect.ensures.effect;
      faces = refl;
      planes = omega arith;
      triangles = omega arith;
      vanished = omega (arith, fewer, indexed);
      shared = subst (λ (us : List IndexedTriangle). AreIndicesClosed us → IsSharedIndexCount us c.in_ok-shared.shared) of_points c.in_ok-shared.ensures;
    }
