-- The JSON of a glTF 2.0 asset: its nodes, its mesh, and where among the bytes behind it the numbers are
use Rattle.std.specs.Prelude.{ℕ, ◌-◌, ◌*◌, ◌%◌, List, ◌++◌, length, take, codes, decimal}

-- ---- an asset without a mesh
abbrev pub empty_json : List ℕ
empty_json = codes "{\"asset\":{\"version\":\"2.0\",\"generator\":\"ember-mesh\"},\"scene\":0,\"scenes\":[{}]}"

-- ---- an asset with one mesh
-- all that is the same for each mesh
abbrev pub scene_text : List ℕ
scene_text =
    codes "{\"asset\":{\"version\":\"2.0\",\"generator\":\"ember-mesh\"},\"scene\":0,\"scenes\":[{\"nodes\":[0]}],\"nodes\":[{\"mesh\":0}],\"meshes\":[{\"primitives\":[{\"attributes\":{\"POSITION\":0,\"NORMAL\":1},\"material\":0}]}],\"materials\":[{\"pbrMetallicRoughness\":{\"baseColorFactor\":[0.8,0.55,0.3,1],\"metallicFactor\":0.1}}],"

-- the one buffer, which has so many bytes
unfoldable pub buffers_text : ℕ → List ℕ
buffers_text size = codes "\"buffers\":[{\"byteLength\":" ++ (decimal size ++ codes "}],")

-- a part of the buffer, from this byte on, which has so many bytes
unfoldable pub view_text : ℕ → ℕ → List ℕ
view_text offset size =
    codes "{\"buffer\":0,\"byteOffset\":" ++
    (decimal offset ++ (codes ",\"byteLength\":" ++ (decimal size ++ codes ",\"target\":34962}")))

-- two parts of this size, one behind the other
unfoldable pub views_text : ℕ → List ℕ
views_text size =
    codes "\"bufferViews\":[" ++ (view_text 0 size ++ (codes "," ++ (view_text size size ++ codes "],")))

-- so many groups of three binary32 in this part; its end is left open
unfoldable pub accessor_text : ℕ → ℕ → List ℕ
accessor_text view count =
    codes "{\"bufferView\":" ++
    (decimal view ++ (codes ",\"componentType\":5126,\"count\":" ++ (decimal count ++ codes ",\"type\":\"VEC3\"")))

-- so many corners with these texts of their bounds, and as many normals
unfoldable pub accessors_text : ℕ → List ℕ → List ℕ → List ℕ
accessors_text count low high =
    codes "\"accessors\":[" ++
    (accessor_text 0 count ++
    (codes ",\"min\":" ++ (low ++ (codes ",\"max\":"
    ++ (high ++ (codes "}," ++ (accessor_text 1 count ++ codes "}]}")))))))

-- the JSON of so many triangles, whose corners have these texts of their bounds
abbrev pub mesh_json : ℕ → List ℕ → List ℕ → List ℕ
mesh_json triangles low high =
    scene_text ++
    (buffers_text (72 * triangles) ++ (views_text (36 * triangles) ++ accessors_text (3 * triangles) low high))

-- with spaces behind it, up to a multiple of four bytes
abbrev pub padded : List ℕ → List ℕ
padded text = text ++ take ((4 - length text % 4) % 4) (codes "   ")
