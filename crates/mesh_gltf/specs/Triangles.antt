-- The triangles of a primitive, by the corners of its list, its strip or its fan
use Rattle.std.specs.Prelude.{ℕ, ◌+◌, Bool, false, not, List, [], ◌∷◌, if◌then◌else◌}
use Rattle.mesh_gltf.specs.declared.triangles.Topology.{Topology}
use Rattle.mesh_gltf.specs.declared.triangles.Topology.TheVariants.{Triangles, Strip, Fan}
use Rattle.mesh_read.specs.declared.surface.surface.Facet.{Facet}

-- the triangle of three corners
abbrev pub triangle : ℕ → ℕ → ℕ → ℕ → Facet
triangle place a b c = record { corners = a ∷ b ∷ c ∷ []; place = place }

-- each three corners are a triangle; fewer at the end are none
abbrev pub of_list : ℕ → List ℕ → List Facet
of_list place [] = []
of_list place (a ∷ []) = []
of_list place (a ∷ b ∷ []) = []
of_list place (a ∷ b ∷ c ∷ more) = triangle place a b c ∷ of_list (place + 1) more

-- each corner is one with the two before it; every second such triangle is turned over
abbrev pub of_strip : Bool → ℕ → ℕ → ℕ → List ℕ → List Facet
of_strip odd place a b [] = []
of_strip odd place a b (c ∷ more) =
    (if odd then triangle place b a c else triangle place a b c) ∷ of_strip (not odd) (place + 1) b c more

-- each corner is one with the one before it and the first
abbrev pub of_fan : ℕ → ℕ → ℕ → List ℕ → List Facet
of_fan place first b [] = []
of_fan place first b (c ∷ more) = triangle place b c first ∷ of_fan (place + 1) first c more

-- the triangles of corners; the first has this place, and each other one the next
abbrev pub triangles_of : Topology → ℕ → List ℕ → List Facet
triangles_of Triangles place corners = of_list place corners
triangles_of Strip place [] = []
triangles_of Strip place (a ∷ []) = []
triangles_of Strip place (a ∷ b ∷ more) = of_strip false place a b more
triangles_of Fan place [] = []
triangles_of Fan place (a ∷ []) = []
triangles_of Fan place (a ∷ b ∷ more) = of_fan place a b more
