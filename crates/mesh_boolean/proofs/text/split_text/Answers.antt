use Rattle.std.proofs.Common.{arith}
use Rattle.mesh_boolean.proofs.Outputs.{over_is_text}
use Rattle.mesh_boolean.proofs.text.split_text.Goals as goal

pub returns : goal.returns
returns c = λ ts is.
    over_is_text c.args.format c.args.places ts c.in_ok-split.split _ _ c.in_ok-bytes.bytes.items _
    (c.in_ok-split.ensures ts is) c.deref.ensures.value c.deref-2.ensures.value c.in_ok-bytes.ensures (omega arith)
