use Rattle.std.proofs.Common.{◌≡◌, ◌∙◌, List, length, Option, ap, inr, sym, subst, refl, arith, IfSome}
use Rattle.std.specs.Global.{Vec}
use Rattle.mesh_write.specs.declared.stl.triangle.FloatTriangle.{FloatTriangle}
use Rattle.mesh_written.specs.Closed.{AreWrittenClosed}
use Rattle.mesh_written.specs.Shared.{IsSharedCount}
use Rattle.mesh_boolean.specs.declared.wanted.MeshFormat.TheVariants.{Floats}
use Rattle.mesh_boolean.specs.Outputs.{AreShownIf, AreRounded, IsFloatFile}
use Rattle.mesh_boolean.specs.WritingFaults.{IsFloatFileFault, IsWritingFault, of_place_fault}
use Rattle.mesh_solid.proofs.Passing.{asked_is_there, passed_on}
use Rattle.mesh_boolean.proofs.WritingRefusals.{float_fault_is, file_of_floats_fault_is}
use Rattle.mesh_boolean.proofs.Outputs.{written_are_fewer, shown_if_asked}
use Rattle.mesh_boolean.proofs.floats.float_file.Goals as goal

pub returns-in_err-written-clause-fault : goal.returns-in_err-written-clause-fault
returns-in_err-written-clause-fault c =
    let cause = c.in_err-written.field-0.0 in
    passed_on (IsWritingFault (Floats c.args.format) c.args.grid.now c.args.mesh) c.from_residual.result
    (of_place_fault cause) c.from_residual.ensures.1
    (float_fault_is c.args.format c.args.grid.now c.args.mesh cause c.in_err-written.ensures.fault)

pub returns-then-is_rounded_away-clause-fault : goal.returns-then-is_rounded_away-clause-fault
returns-then-is_rounded_away-clause-fault c =
    let lost = c.is_rounded_away.ensures.lost c.if-is_rounded_away.true in
    inr (record {
      some = lost.0;
      none_left = subst (λ (ws : List FloatTriangle). AreRounded c.args.grid.now c.args.mesh ws)
          (sym c.deref.ensures.value ∙ lost.1) c.in_ok-written.ensures.rounded.rounded;
    })

pub overflow_sub-vanished : goal.overflow_sub-vanished
overflow_sub-vanished c = omega (arith, written_are_fewer _ _ _ _ _ _ c.in_ok-written.ensures.rounded.rounded)

pub returns-in_err-bytes-clause-fault : goal.returns-in_err-bytes-clause-fault
returns-in_err-bytes-clause-fault c =
    let fault = c.in_err-bytes.field-0.0 in
    let written = c.in_ok-written.field-0.triangles.items in
    let of_file = subst (λ ws. IsFloatFileFault c.args.format ws fault) c.deref-3.ensures.value c.in_err-bytes.ensures.fault in
    passed_on (IsWritingFault (Floats c.args.format) c.args.grid.now c.args.mesh) c.from_residual-in_err-bytes.result
    fault c.from_residual-in_err-bytes.ensures.1
    (file_of_floats_fault_is c.args.format c.args.grid.now c.args.mesh written fault
    c.in_ok-written.ensures.rounded.rounded of_file)

pub returns-clause-floats : goal.returns-clause-floats
returns-clause-floats c =
    let written = c.in_ok-written.field-0.triangles in
    let looked_at = ap (λ (ws : List FloatTriangle). length ws) c.deref.ensures.value in
    record {
      written = written.items;
      rounded = c.in_ok-written.ensures.rounded;
      bytes = subst (λ ws. IsFloatFile c.args.format ws c.in_ok-bytes.bytes.items) c.deref-3.ensures.value c.in_ok-bytes.ensures.file;
      shown = subst (λ (shown : Option (Vec FloatTriangle)). IfSome shown (λ shown. shown.items ≡ written.items))
          (sym c.then_some.ensures) (shown_if_asked c.args.shows written);
      not_known = refl;
      faces = refl;
      planes = omega arith;
      triangles = omega arith;
      vanished = omega (arith, written_are_fewer _ _ _ _ _ _ c.in_ok-written.ensures.rounded.rounded);
      some = λ none. omega (arith, c.is_rounded_away.ensures.kept c.if-is_rounded_away.false (omega (arith, none, looked_at)));
      count = omega arith;
      shared = subst (λ ws. AreWrittenClosed ws → IsSharedCount ws c.in_ok-shared.shared) c.deref-2.ensures.value c.in_ok-shared.ensures;
    }

pub returns-clause-shown : goal.returns-clause-shown
returns-clause-shown c =
    let written = c.in_ok-written.field-0.triangles in
    let are : Vec FloatTriangle → Type 0 = λ shown. AreRounded c.args.grid.now c.args.mesh shown.items in
    subst (AreShownIf c.args.shows c.args.grid.now c.args.mesh) (sym c.then_some.ensures)
    (asked_is_there c.args.shows are written c.in_ok-written.ensures.rounded.rounded)
