use Rattle.std.proofs.Common.{sym, subst}
use Rattle.mesh_boolean.specs.declared.wanted.FloatFormat.{FloatFormat}
use Rattle.mesh_boolean.specs.declared.wanted.FloatFormat.TheVariants.{Glb}
use Rattle.mesh_boolean.specs.declared.writing_fault.WritingFault.{WritingFault}
use Rattle.mesh_boolean.specs.WritingFaults.{IsFloatFileFault}
use Rattle.mesh_boolean.proofs.WritingRefusals.{glb_fault_is}
use Rattle.mesh_boolean.proofs.floats.float_bytes.Goals as goal

pub returns-in-Err-glb_bytes-clause-fault : goal.returns-in-Err-glb_bytes-clause-fault
returns-in-Err-glb_bytes-clause-fault c =
    let ts = c.args.triangles.now in
    let of_glb = glb_fault_is ts c.glb_bytes.result c.in-Err-glb_bytes.fault c.in-Err-glb_bytes.is c.glb_bytes.ensures.many in
    let given = subst (λ (f : WritingFault). IsFloatFileFault Glb ts f) (sym c.from-in-Err-glb_bytes.ensures) of_glb in
    subst (λ (format : FloatFormat). IsFloatFileFault format ts c.from-in-Err-glb_bytes.result) (sym c.in-Glb.is) given
