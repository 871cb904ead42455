-- Indices in bytes, the lowest byte first
use Rattle.std.specs.Prelude.{ℕ, ◌+◌, ◌*◌, List, slice_index}
use Rattle.mesh_read.specs.Stl.Binary.{number_at}
use Rattle.mesh_gltf.specs.declared.corners.IndexSize.{IndexSize}
use Rattle.mesh_gltf.specs.declared.corners.IndexSize.TheVariants.{OneByte, TwoBytes, FourBytes}

-- how many bytes an index has
abbrev pub bytes_of : IndexSize → ℕ
bytes_of OneByte = 1
bytes_of TwoBytes = 2
bytes_of FourBytes = 4

-- the index at a place
abbrev pub index_at : IndexSize → List ℕ → ℕ → ℕ
index_at OneByte bytes at = slice_index bytes at
index_at TwoBytes bytes at = slice_index bytes at + slice_index bytes (at + 1) * 256
index_at FourBytes bytes at = number_at bytes at
