use Rattle.std.proofs.Common.{arith}
use Rattle.mesh_arrays.proofs.DoubleTexts.{text_has_double}
use Rattle.mesh_arrays.proofs.doubles.double_at.Goals as goal

pub unreachable-requires : goal.unreachable-requires
unreachable-requires c =
    text_has_double _ c.unsigned_abs.result c.args.places _ _ _ c.clear.ensures.items c.in_ok-put_shifted.ensures
    c.as_slice.ensures.value (omega (arith, c.unsigned_abs.ensures.bound)) c.in-Err.ensures.exact
