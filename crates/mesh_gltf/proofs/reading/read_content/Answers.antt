use Rattle.std.proofs.Common.{inr}
use Rattle.serde_json.specs.View.{view}
use Rattle.mesh_gltf.specs.Chunks.{chunks_seen}
use Rattle.mesh_gltf.proofs.Texts.{file_content, file_fault, file_refused}
use Rattle.mesh_gltf.proofs.reading.read_content.Goals as goal

pub returns-in-Ok-clause-ok : goal.returns-in-Ok-clause-ok
returns-in-Ok-clause-ok c =
    file_content c.args.bytes.now (chunks_seen c.in_ok-chunks.chunks) (view c.in-Ok.document) c.read_document.result
    c.in_ok-chunks.ensures.ok c.in-Ok.ensures.ok c.read_document.ensures.ok

pub returns-in-Ok-clause-fault : goal.returns-in-Ok-clause-fault
returns-in-Ok-clause-fault c =
    file_fault c.args.bytes.now (chunks_seen c.in_ok-chunks.chunks) (view c.in-Ok.document) c.read_document.result
    c.in_ok-chunks.ensures.ok c.in-Ok.ensures.ok c.read_document.ensures.fault

pub returns-in-Err-2-clause-fault : goal.returns-in-Err-2-clause-fault
returns-in-Err-2-clause-fault c =
    inr (file_refused c.args.bytes.now (chunks_seen c.in_ok-chunks.chunks) c.in_ok-chunks.ensures.ok
    (c.in-Err.ensures.err (λ memory. let wrong = c.if-is_memory.ensures.1 memory in cc)))
