-- What a reader of GLB finds in the bytes
use Rattle.std.specs.Prelude.{◌≡◌, ℕ, zero, suc, ◌+◌, ◌*◌, List, [], ◌∷◌, length, take, drop, flat_map}
use Rattle.mesh_read.specs.Stl.Binary.{number_at}
use Rattle.mesh_write.specs.declared.stl.triangle.FloatPoint.{FloatPoint}
use Rattle.mesh_write.specs.declared.stl.triangle.FloatTriangle.{FloatTriangle}

-- ---- the two chunks, by the format's rules
-- the chunk whose head is at this byte: its size, its type and its bytes
abbrev pub chunk_size : List ℕ → ℕ → ℕ
chunk_size bytes at = number_at bytes at

abbrev pub chunk_type : List ℕ → ℕ → ℕ
chunk_type bytes at = number_at bytes (at + 4)

abbrev pub chunk_bytes : List ℕ → ℕ → List ℕ
chunk_bytes bytes at = take (chunk_size bytes at) (drop (at + 8) bytes)

-- where the chunk ends
abbrev pub chunk_end : List ℕ → ℕ → ℕ
chunk_end bytes at = at + 8 + chunk_size bytes at

-- version 2 of glTF, and as many bytes as its head says: this chunk of JSON, and these further bytes. The numbers are
-- those of the format: glTF, JSON and BIN as numbers of four bytes
pub record HasChunks (bytes json numbers : List ℕ) : Type 0 where
  pub magic : number_at bytes 0 ≡ 0x46546C67
  pub version : number_at bytes 4 ≡ 2
  pub size : number_at bytes 8 ≡ length bytes
  pub json_type : chunk_type bytes 12 ≡ 0x4E4F534A
  pub json_is : chunk_bytes bytes 12 ≡ json
  pub numbers_type : chunk_type bytes (chunk_end bytes 12) ≡ 0x004E4942
  pub numbers_are : chunk_bytes bytes (chunk_end bytes 12) ≡ numbers
  pub end : chunk_end bytes (chunk_end bytes 12) ≡ length bytes

-- ---- numbers
-- so many points, one behind the other from this byte on
abbrev pub points_at : List ℕ → ℕ → ℕ → List FloatPoint
points_at bytes at zero = []
points_at bytes at (suc n) =
    record { x = number_at bytes at; y = number_at bytes (at + 4); z = number_at bytes (at + 8) } ∷
    points_at bytes (at + 12) n

-- the corners of triangles, and the normal of each corner
abbrev pub corner_points : List FloatTriangle → List FloatPoint
corner_points ts = flat_map (λ t. t.a ∷ t.b ∷ t.c ∷ []) ts

abbrev pub normal_points : List FloatTriangle → List FloatPoint
normal_points ts = flat_map (λ t. t.normal ∷ t.normal ∷ t.normal ∷ []) ts

-- reading the bytes gives the corners of the triangles, in order, and behind them the normals
pub record IsReadBack (ts : List FloatTriangle) (bytes : List ℕ) : Type 0 where
  pub json : List ℕ
  pub numbers : List ℕ
  pub chunks : HasChunks bytes json numbers
  pub corners : points_at numbers 0 (3 * length ts) ≡ corner_points ts
  pub normals : points_at numbers (36 * length ts) (3 * length ts) ≡ normal_points ts
