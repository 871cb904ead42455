-- The corners of a primitive: indices of its points, behind the points that there are already
use Rattle.std.specs.Prelude.{ℕ, zero, suc, ◌+◌, ◌*◌, List, [], ◌∷◌, if◌then◌else◌, nat_lt, ◌==◌}
use Rattle.std.specs.Prelude.{Option, None, Some}
use Rattle.mesh_gltf.specs.declared.corners.IndexSize.{IndexSize}
use Rattle.mesh_gltf.specs.declared.corners.IndexSize.TheVariants.{OneByte, TwoBytes, FourBytes}
use Rattle.mesh_gltf.specs.declared.windows.Window.{Window}
use Rattle.mesh_gltf.specs.Bytes.{index_at}
use Rattle.mesh_gltf.specs.Heads.{with_head}

-- the size of indices of this component type
abbrev pub size_of_type : ℕ → Option IndexSize
size_of_type component =
    if component == 5121 then Some OneByte
    else (if component == 5123 then Some TwoBytes
    else (if component == 5125 then Some FourBytes
    else None))

-- a corner by its index among so many points, which come after `base` others
abbrev pub corner_of : ℕ → ℕ → ℕ → Option ℕ
corner_of base points index = if nat_lt index points then Some (base + index) else None

-- the corners by n indices in a window, from one on
abbrev pub corners_from : ℕ → ℕ → IndexSize → Window → List ℕ → ℕ → ℕ → Option (List ℕ)
corners_from base points size w bytes index zero = Some []
corners_from base points size w bytes index (suc left) =
    with_head (corner_of base points (index_at size bytes (w.start + w.stride * index)))
    (corners_from base points size w bytes (index + 1) left)

-- the corners by all indices of a window, if each is one of so many points
unfoldable pub corners_in : ℕ → ℕ → IndexSize → Window → List ℕ → Option (List ℕ)
corners_in base points size w bytes = corners_from base points size w bytes 0 w.count

-- n points in a row, from this one on: the corners of a primitive without indices
abbrev pub corners_in_row : ℕ → ℕ → List ℕ
corners_in_row first zero = []
corners_in_row first (suc left) = first ∷ corners_in_row (first + 1) left
