use Rattle.std.proofs.Common.{string_bytes}
use Rattle.mesh_gltf.specs.declared.fault.GltfFault.TheVariants as gltf
use Rattle.mesh_file.proofs.GltfReasons.{reason_known, phrase_known}
use Rattle.mesh_file.proofs.file.reason.put_gltf_reason.Goals as goal

pub returns-in-Version : goal.returns-in-Version
returns-in-Version c =
    reason_known c.put_between.result (string_bytes c.args.text.now) (string_bytes c.put_between.new.text) c.args.fault.now (gltf.Version c.in-Version.version) c.in-Version.is
    (rw c.from.ensures at c.put_between.ensures)

pub returns-in-NoJson : goal.returns-in-NoJson
returns-in-NoJson c =
    phrase_known c.push_str-in-NoJson.result (string_bytes c.args.text.now) (string_bytes c.push_str-in-NoJson.new.self) c.args.fault.now gltf.NoJson c.in-NoJson.is
    c.push_str-in-NoJson.ensures.bytes

pub returns-in-Draco : goal.returns-in-Draco
returns-in-Draco c =
    phrase_known c.push_str-in-Draco.result (string_bytes c.args.text.now) (string_bytes c.push_str-in-Draco.new.self) c.args.fault.now gltf.Draco c.in-Draco.is
    c.push_str-in-Draco.ensures.bytes

pub returns-in-Meshopt : goal.returns-in-Meshopt
returns-in-Meshopt c =
    phrase_known c.push_str-in-Meshopt.result (string_bytes c.args.text.now) (string_bytes c.push_str-in-Meshopt.new.self) c.args.fault.now gltf.Meshopt c.in-Meshopt.is
    c.push_str-in-Meshopt.ensures.bytes

pub returns-in-Instances : goal.returns-in-Instances
returns-in-Instances c =
    phrase_known c.push_str-in-Instances.result (string_bytes c.args.text.now) (string_bytes c.push_str-in-Instances.new.self) c.args.fault.now gltf.Instances c.in-Instances.is
    c.push_str-in-Instances.ensures.bytes

pub returns-in-NoBuffer : goal.returns-in-NoBuffer
returns-in-NoBuffer c =
    reason_known c.put_between-in-NoBuffer.result (string_bytes c.args.text.now) (string_bytes c.put_between-in-NoBuffer.new.text)
    c.args.fault.now (gltf.NoBuffer c.in-NoBuffer.buffer) c.in-NoBuffer.is
    c.put_between-in-NoBuffer.ensures

pub returns-in-NoScene : goal.returns-in-NoScene
returns-in-NoScene c =
    phrase_known c.push_str-in-NoScene.result (string_bytes c.args.text.now) (string_bytes c.push_str-in-NoScene.new.self) c.args.fault.now gltf.NoScene c.in-NoScene.is
    c.push_str-in-NoScene.ensures.bytes

pub returns-in-Node : goal.returns-in-Node
returns-in-Node c =
    reason_known c.put_at.result (string_bytes c.args.text.now) (string_bytes c.put_at.new.text) c.args.fault.now (gltf.Node c.in-Node.node) c.in-Node.is
    c.put_at.ensures

pub returns-in-TwiceInScene : goal.returns-in-TwiceInScene
returns-in-TwiceInScene c =
    reason_known c.put_at-in-TwiceInScene.result (string_bytes c.args.text.now) (string_bytes c.put_at-in-TwiceInScene.new.text)
    c.args.fault.now (gltf.TwiceInScene c.in-TwiceInScene.node) c.in-TwiceInScene.is
    c.put_at-in-TwiceInScene.ensures

pub returns-in-Transform : goal.returns-in-Transform
returns-in-Transform c =
    reason_known c.put_at-in-Transform.result (string_bytes c.args.text.now) (string_bytes c.put_at-in-Transform.new.text) c.args.fault.now (gltf.Transform c.in-Transform.node) c.in-Transform.is
    c.put_at-in-Transform.ensures

pub returns-in-Mesh : goal.returns-in-Mesh
returns-in-Mesh c =
    reason_known c.put_at-in-Mesh.result (string_bytes c.args.text.now) (string_bytes c.put_at-in-Mesh.new.text) c.args.fault.now (gltf.Mesh c.in-Mesh.mesh) c.in-Mesh.is
    c.put_at-in-Mesh.ensures

pub returns-in-Accessor : goal.returns-in-Accessor
returns-in-Accessor c =
    reason_known c.put_at-in-Accessor.result (string_bytes c.args.text.now) (string_bytes c.put_at-in-Accessor.new.text) c.args.fault.now (gltf.Accessor c.in-Accessor.accessor) c.in-Accessor.is
    c.put_at-in-Accessor.ensures

pub returns-in-Sparse : goal.returns-in-Sparse
returns-in-Sparse c =
    reason_known c.put_at-in-Sparse.result (string_bytes c.args.text.now) (string_bytes c.put_at-in-Sparse.new.text) c.args.fault.now (gltf.Sparse c.in-Sparse.accessor) c.in-Sparse.is
    c.put_at-in-Sparse.ensures

pub returns-in-NotFinite : goal.returns-in-NotFinite
returns-in-NotFinite c =
    reason_known c.put_at-in-NotFinite.result (string_bytes c.args.text.now) (string_bytes c.put_at-in-NotFinite.new.text) c.args.fault.now (gltf.NotFinite c.in-NotFinite.accessor) c.in-NotFinite.is
    c.put_at-in-NotFinite.ensures

pub returns-in-NoSuchVertex : goal.returns-in-NoSuchVertex
returns-in-NoSuchVertex c =
    reason_known c.put_at-in-NoSuchVertex.result (string_bytes c.args.text.now) (string_bytes c.put_at-in-NoSuchVertex.new.text)
    c.args.fault.now (gltf.NoSuchVertex c.in-NoSuchVertex.mesh) c.in-NoSuchVertex.is
    c.put_at-in-NoSuchVertex.ensures

pub returns-in-TooMany : goal.returns-in-TooMany
returns-in-TooMany c =
    phrase_known c.push_str-in-TooMany.result (string_bytes c.args.text.now) (string_bytes c.push_str-in-TooMany.new.self) c.args.fault.now gltf.TooMany c.in-TooMany.is
    c.push_str-in-TooMany.ensures.bytes

pub returns-in-NoTriangles : goal.returns-in-NoTriangles
returns-in-NoTriangles c =
    phrase_known c.push_str-in-NoTriangles.result (string_bytes c.args.text.now) (string_bytes c.push_str-in-NoTriangles.new.self) c.args.fault.now gltf.NoTriangles c.in-NoTriangles.is
    c.push_str-in-NoTriangles.ensures.bytes

pub returns-in-TooLarge : goal.returns-in-TooLarge
returns-in-TooLarge c =
    reason_known c.put_at-in-TooLarge.result (string_bytes c.args.text.now) (string_bytes c.put_at-in-TooLarge.new.text) c.args.fault.now (gltf.TooLarge c.in-TooLarge.triangle) c.in-TooLarge.is
    c.put_at-in-TooLarge.ensures

pub returns-in-OutOfMemory : goal.returns-in-OutOfMemory
returns-in-OutOfMemory c =
    phrase_known c.push_str-in-OutOfMemory.result (string_bytes c.args.text.now) (string_bytes c.push_str-in-OutOfMemory.new.self) c.args.fault.now gltf.OutOfMemory c.in-OutOfMemory.is
    c.push_str-in-OutOfMemory.ensures.bytes
