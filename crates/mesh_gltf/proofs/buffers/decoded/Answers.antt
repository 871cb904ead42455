use Rattle.std.proofs.Common.{◌∙◌, sym, ap, refl, inr}
use Rattle.std.specs.Prelude.{option_and_then}
use Rattle.base64.specs.Engines.{standard}
use Rattle.base64.specs.GeneralPurpose.{decoded_of}
use Rattle.mesh_gltf.specs.Buffers.{bytes_of_uri}
use Rattle.mesh_gltf.proofs.Decodings.{text_decoded, text_refused}
use Rattle.mesh_gltf.proofs.buffers.decoded.Goals as goal

pub returns-in_default-clause-fault : goal.returns-in_default-clause-fault
unfolding bytes_of_uri
returns-in_default-clause-fault c = inr (ap (option_and_then (decoded_of standard)) (sym c.in_default.ensures), refl)

pub returns-in-Ok-clause-ok : goal.returns-in-Ok-clause-ok
unfolding bytes_of_uri
returns-in-Ok-clause-ok c =
    ap (option_and_then (decoded_of standard)) (sym c.in-Some.ensures)
    ∙ text_decoded c.in-Some.text.now c.in-Ok.bytes.items c.in-Ok.ensures.ok

pub returns-in-Err-clause-fault : goal.returns-in-Err-clause-fault
unfolding bytes_of_uri
returns-in-Err-clause-fault c =
    text_refused c.args.index c.in-Some.text.now (bytes_of_uri c.args.uri.now) c.in-Err.fault c.decoding_fault.result
    (ap (option_and_then (decoded_of standard)) (sym c.in-Some.ensures)) c.in-Err.ensures.err c.decoding_fault.ensures.failed
    c.decoding_fault.ensures.memory
