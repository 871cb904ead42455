-- The greatest move of the corners of triangles, squared
use Rattle.std.specs.Prelude.{ℕ, ◌+◌, ◌*◌, max, List, [], ◌∷◌, Option, Some, None, slice_get, slice_index}
use Rattle.mesh_number.specs.Number.Values.{value_of}
use Rattle.mesh_grid.specs.declared.snap.steps.GridStep.{GridStep}
use Rattle.mesh_read.specs.declared.surface.surface.Vertex.{Vertex}
use Rattle.mesh_read.specs.declared.surface.surface.Facet.{Facet}
use Rattle.mesh_grid.specs.Moves.Moves.{ticks_of}

abbrev pub square : ℕ → ℕ
square n = n * n

-- the square of a vertex's move, where each axis is rounded up to whole ticks
abbrev pub square_of : GridStep → ℕ → Vertex → ℕ
square_of s fineness v =
    square (ticks_of s fineness (value_of v.x)) +
    (square (ticks_of s fineness (value_of v.y)) + square (ticks_of s fineness (value_of v.z)))

-- the same for the vertex with this index; what is no vertex, in no surface, doesn't move
abbrev pub square_from : GridStep → ℕ → Option Vertex → ℕ
square_from s fineness None = 0
square_from s fineness (Some v) = square_of s fineness v

abbrev pub square_at : GridStep → ℕ → List Vertex → ℕ → ℕ
square_at s fineness vertices index = square_from s fineness (slice_get vertices index)

-- the greatest square of the corners of a triangle
abbrev pub facet_square : GridStep → ℕ → List Vertex → Facet → ℕ
facet_square s fineness vertices f =
    max (max (square_at s fineness vertices (slice_index f.corners 0))
    (square_at s fineness vertices (slice_index f.corners 1)))
    (square_at s fineness vertices (slice_index f.corners 2))

-- and of all triangles
abbrev pub greatest_square : GridStep → ℕ → List Vertex → List Facet → ℕ
greatest_square s fineness vertices [] = 0
greatest_square s fineness vertices (f ∷ fs) =
    max (facet_square s fineness vertices f) (greatest_square s fineness vertices fs)
