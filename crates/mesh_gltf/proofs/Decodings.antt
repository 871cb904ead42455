-- Texts of base64 that are decoded
use Rattle.std.proofs.Common.{◌≡◌, ◌⊎◌, inl, inr, ℕ, List, Option, None, Some, Ok, Err, refl, ◌∙◌}
use Rattle.base64.specs.declared.decode.DecodeError.{DecodeError}
use Rattle.base64.specs.declared.decode.DecodeAllocError.{DecodeAllocError}
use Rattle.base64.specs.declared.decode.DecodeAllocError.TheVariants as decoding
use Rattle.base64.specs.Engines.{standard}
use Rattle.base64.specs.GeneralPurpose.{decode_of, decoded_of, IsDecodeFailure}
use Rattle.mesh_gltf.specs.declared.fault.GltfFault.{GltfFault}
use Rattle.mesh_gltf.specs.declared.fault.GltfFault.TheVariants.{NoBuffer, OutOfMemory}

pub text_decoded : (text bytes : List ℕ) → decode_of standard text ≡ Ok bytes → decoded_of standard text ≡ Some bytes
unfolding decoded_of
text_decoded text bytes is = rw is refl

not_decoded : (text : List ℕ) (e : DecodeError) → decode_of standard text ≡ Err e → decoded_of standard text ≡ None
unfolding decoded_of
not_decoded text e is = rw is refl

-- the fault of a buffer whose text isn't decoded
pub text_refused : (index : ℕ) (text : List ℕ) (bytes : Option (List ℕ)) (fault : DecodeAllocError) (result : GltfFault) →
    bytes ≡ decoded_of standard text → IsDecodeFailure standard text fault →
    ((d : DecodeError) → fault ≡ decoding.DecodeError d → result ≡ NoBuffer index) →
    (fault ≡ decoding.OutOfMemory → result ≡ OutOfMemory) →
    (result ≡ OutOfMemory) ⊎ ((bytes ≡ None) × (result ≡ NoBuffer index))
text_refused index text bytes (decoding.DecodeError d) result same failure failed memory =
    inr (same ∙ not_decoded text d failure, failed d refl)
text_refused index text bytes decoding.OutOfMemory result same failure failed memory = inl (memory refl)
