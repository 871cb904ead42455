-- The bytes of a GLB
use Rattle.std.specs.Prelude.{◌≡◌, ℕ, ◌+◌, ◌*◌, ◌^◌, ◌<◌, ◌≤◌, List, [], ◌∷◌, ◌++◌, length, codes, flat_map, All}
use Rattle.mesh_write.specs.declared.stl.triangle.FloatTriangle.{FloatTriangle}
use Rattle.mesh_write.specs.Stl.Written.{number_bytes, point_bytes}
use Rattle.mesh_write.specs.declared.glb.bounds.Bounds.{Bounds}
use Rattle.mesh_write.specs.Glb.Bounds.{corners_of, IsFinite, AreBounds}
use Rattle.mesh_write.specs.Glb.Texts.{IsVectorText}
use Rattle.mesh_write.specs.Glb.Json.{empty_json, mesh_json, padded}

-- ---- chunks
-- the head of a file with so many bytes
unfoldable pub file_head : ℕ → List ℕ
file_head size = codes "glTF" ++ (number_bytes 2 ++ number_bytes size)

-- a chunk of JSON
unfoldable pub json_chunk : List ℕ → List ℕ
json_chunk text = number_bytes (length text) ++ (codes "JSON" ++ text)

-- the head of a chunk of so many other bytes
unfoldable pub data_head : ℕ → List ℕ
data_head size = number_bytes size ++ (codes "BIN" ++ 0 ∷ [])

-- ---- numbers
unfoldable pub corner_bytes : FloatTriangle → List ℕ
corner_bytes t = point_bytes t.a ++ (point_bytes t.b ++ point_bytes t.c)

-- the normal, for each corner
unfoldable pub normal_bytes : FloatTriangle → List ℕ
normal_bytes t = point_bytes t.normal ++ (point_bytes t.normal ++ point_bytes t.normal)

-- the corners of all triangles, and then the normals
abbrev pub data_of : List FloatTriangle → List ℕ
data_of ts = flat_map corner_bytes ts ++ flat_map normal_bytes ts

-- ---- files
-- a GLB without a mesh
abbrev pub empty_glb : List ℕ
empty_glb = file_head (20 + length empty_json) ++ json_chunk empty_json

-- so many bytes has a GLB with this JSON and so many triangles
abbrev pub glb_size : List ℕ → ℕ → ℕ
glb_size json triangles = 28 + length json + 72 * triangles

-- a GLB with this JSON and these triangles
abbrev pub glb_of : List ℕ → List FloatTriangle → List ℕ
glb_of json ts =
    file_head (glb_size json (length ts)) ++
    (json_chunk json ++ (data_head (72 * length ts) ++ data_of ts))

-- the JSON of these triangles, with the bounds of their corners, if all of these are finite
pub record IsJsonOf (ts : List FloatTriangle) (json : List ℕ) : Type 0 where
  pub bounds : Bounds
  pub are_bounds : All IsFinite (corners_of ts) → AreBounds (corners_of ts) bounds
  pub low : List ℕ
  pub high : List ℕ
  pub low_is : IsVectorText bounds.low low
  pub high_is : IsVectorText bounds.high high
  pub is : json ≡ padded (mesh_json (length ts) low high)

-- a GLB of these triangles
pub record IsMeshGlb (ts : List FloatTriangle) (bytes : List ℕ) : Type 0 where
  pub json : List ℕ
  pub json_is : IsJsonOf ts json
  pub is : bytes ≡ glb_of json ts
  pub short : glb_size json (length ts) < 2 ^ 32

abbrev pub IsGlb : List FloatTriangle → List ℕ → Type 0
IsGlb [] bytes = bytes ≡ empty_glb
IsGlb (t ∷ ts) bytes = IsMeshGlb (t ∷ ts) bytes

-- it would have 2^32 bytes or more
pub record IsTooLong (ts : List FloatTriangle) : Type 0 where
  pub json : List ℕ
  pub json_is : IsJsonOf ts json
  pub long : 2 ^ 32 ≤ glb_size json (length ts)
