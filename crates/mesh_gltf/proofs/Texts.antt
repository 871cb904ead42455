-- The document that a JSON text is, and what the file with it is
use Rattle.std.proofs.Common.{◌≡◌, ◌⊎◌, ℕ, List, None, Some, Result, Ok, Err, sym, subst, ◌∙◌, inl, inr}
use Rattle.std.specs.Prelude.{IfOk, IfErr}
use Rattle.std.specs.Str.{IsUtf8, is_utf8}
use Rattle.std.proofs.lemmas.Bool.{cases_Bool, cond-true, cond-false}
use Rattle.std.proofs.lemmas.Str.{IsUtf8-from_is_utf8, is_utf8-from_IsUtf8}
use Rattle.serde_json.specs.Data.{Data}
use Rattle.serde_json.specs.Read.{read}
use Rattle.mesh_read.specs.declared.surface.surface.Surface.{Surface}
use Rattle.mesh_read.specs.Surface.Surfaces.{Content, content_of}
use Rattle.mesh_gltf.specs.declared.fault.GltfFault.{GltfFault}
use Rattle.mesh_gltf.specs.declared.fault.GltfFault.TheVariants.{NoJson, OutOfMemory}
use Rattle.mesh_gltf.specs.Chunks.{Chunks, chunks_of}
use Rattle.mesh_gltf.specs.Primitives.{and_then, or_fault}
use Rattle.mesh_gltf.specs.ReadGltf.{document_content, json_value, content_in}
use Rattle.mesh_gltf.proofs.Steps.{first_read, there, not_there}

text_read : (text : List ℕ) (document : Data) → IsUtf8 text → read text ≡ Some document → json_value text ≡ Some document
text_read text document valid is = cond-true (is_utf8 text) (read text) None (is_utf8-from_IsUtf8 text valid) ∙ is

text_refused : (text : List ℕ) → (IsUtf8 text → read text ≡ None) → json_value text ≡ None
text_refused text none =
    elim (cases_Bool (is_utf8 text)) [
      | inl e ↦ cond-true (is_utf8 text) (read text) None e ∙ none (IsUtf8-from_is_utf8 text e)
      | inr e ↦ cond-false (is_utf8 text) (read text) None e
    ]

-- what is said of the chunks
abbrev with_chunks : Chunks → Result Content GltfFault
with_chunks c = and_then (or_fault NoJson (json_value c.json)) (λ document. document_content c.binary document)

-- a file is read as its document
file_read : (bytes : List ℕ) (c : Chunks) (document : Data) → chunks_of bytes ≡ Ok c → IsUtf8 c.json →
    read c.json ≡ Some document → content_in bytes ≡ document_content c.binary document
unfolding content_in
file_read bytes c document found valid is =
    first_read (chunks_of bytes) c with_chunks found
    ∙ there (json_value c.json) NoJson document (λ d. document_content c.binary d) (text_read c.json document valid is)

-- so it is read as its document is
pub file_content : (bytes : List ℕ) (c : Chunks) (document : Data) (r : Result Surface GltfFault) → chunks_of bytes ≡ Ok c →
    IsUtf8 c.json × (read c.json ≡ Some document) → IfOk r (λ s. document_content c.binary document ≡ Ok (content_of s)) →
    IfOk r (λ s. content_in bytes ≡ Ok (content_of s))
file_content bytes c document r found is h =
    subst (λ (q : Result Content GltfFault). IfOk r (λ s. q ≡ Ok (content_of s))) (sym (file_read bytes c document found is.0 is.1)) h

-- and has its fault
pub file_fault : (bytes : List ℕ) (c : Chunks) (document : Data) (r : Result Surface GltfFault) → chunks_of bytes ≡ Ok c →
    IsUtf8 c.json × (read c.json ≡ Some document) →
    IfErr r (λ e. (e ≡ OutOfMemory) ⊎ (document_content c.binary document ≡ Err e)) →
    IfErr r (λ e. (e ≡ OutOfMemory) ⊎ (content_in bytes ≡ Err e))
file_fault bytes c document r found is h =
    subst (λ (q : Result Content GltfFault). IfErr r (λ e. (e ≡ OutOfMemory) ⊎ (q ≡ Err e)))
    (sym (file_read bytes c document found is.0 is.1)) h

-- a file whose text isn't JSON
pub file_refused : (bytes : List ℕ) (c : Chunks) → chunks_of bytes ≡ Ok c → (IsUtf8 c.json → read c.json ≡ None) →
    content_in bytes ≡ Err NoJson
unfolding content_in
file_refused bytes c found none =
    first_read (chunks_of bytes) c with_chunks found
    ∙ not_there (json_value c.json) NoJson (λ d. document_content c.binary d) (text_refused c.json none)
