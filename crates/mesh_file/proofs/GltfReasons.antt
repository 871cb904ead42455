-- The reason of a glTF's fault, once it is known which fault it is
use Rattle.std.proofs.Common.{◌≡◌, ℕ, List, ◌++◌, Result, OnOk, sym, subst}
use Rattle.std.specs.Prelude.{is_ok, if◌then◌else◌}
use Rattle.mesh_gltf.specs.declared.fault.GltfFault.{GltfFault}
use Rattle.mesh_file.specs.File.Reasons.{gltf_reason}
use Rattle.mesh_file.proofs.TextParts.{one_part}

-- a reason that was put together
pub reason_known : {T E : Type 0} (r : Result T E) (old new : List ℕ) (fault known : GltfFault) → fault ≡ known →
    OnOk r (new ≡ old ++ gltf_reason known) → OnOk r (new ≡ old ++ gltf_reason fault)
reason_known r old new fault known is said = subst (λ (f : GltfFault). OnOk r (new ≡ old ++ gltf_reason f)) (sym is) said

-- a reason that is one text
pub phrase_known : {T E : Type 0} (r : Result T E) (old new : List ℕ) (fault known : GltfFault) → fault ≡ known →
    new ≡ (if is_ok r then old ++ gltf_reason known else old) → OnOk r (new ≡ old ++ gltf_reason fault)
phrase_known r old new fault known is pushed = reason_known r old new fault known is (one_part r old (gltf_reason known) new pushed)
