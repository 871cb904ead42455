-- How many triangles corners have
use Rattle.std.proofs.Common.{◌≡◌, ℕ, suc, ◌≤◌, ◌+◌, ◌^◌, Bool, false, not, List, [], ◌∷◌, ◌++◌, length, length-append, refl, ap, arith}
use Rattle.mesh_read.specs.declared.surface.surface.Facet.{Facet}
use Rattle.mesh_gltf.specs.declared.triangles.Topology.{Topology}
use Rattle.mesh_gltf.specs.declared.triangles.Topology.TheVariants.{Triangles, Strip, Fan}
use Rattle.mesh_gltf.specs.Triangles.{of_list, of_strip, of_fan, triangles_of}

list_few : (place : ℕ) (corners : List ℕ) → length (of_list place corners) ≤ length corners
list_few place [] = omega arith
list_few place (a ∷ []) = omega arith
list_few place (a ∷ b ∷ []) = omega arith
list_few place (a ∷ b ∷ c ∷ more) =
    let others : length (of_list (place + 1) more) ≤ length more = list_few (place + 1) more in
    omega (arith, others)

strip_few : (odd : Bool) (place a b : ℕ) (corners : List ℕ) → length (of_strip odd place a b corners) ≡ length corners
strip_few odd place a b [] = refl
strip_few odd place a b (c ∷ more) = ap (λ (n : ℕ). suc n) (strip_few (not odd) (place + 1) b c more)

fan_few : (place first b : ℕ) (corners : List ℕ) → length (of_fan place first b corners) ≡ length corners
fan_few place first b [] = refl
fan_few place first b (c ∷ more) = ap (λ (n : ℕ). suc n) (fan_few (place + 1) first c more)

-- no more than the corners
pub triangles_few : (topology : Topology) (place : ℕ) (corners : List ℕ) → length (triangles_of topology place corners) ≤ length corners
triangles_few Triangles place corners = list_few place corners
triangles_few Strip place [] = omega arith
triangles_few Strip place (a ∷ []) = omega arith
triangles_few Strip place (a ∷ b ∷ more) = omega (arith, strip_few false place a b more)
triangles_few Fan place [] = omega arith
triangles_few Fan place (a ∷ []) = omega arith
triangles_few Fan place (a ∷ b ∷ more) = omega (arith, fan_few place a b more)

-- so they fit where their corners do
pub facets_few : (old new : List Facet) (topology : Topology) (place : ℕ) (corners : List ℕ) →
    new ≡ old ++ triangles_of topology place corners → length old + length corners ≤ 2 ^ 24 → length new ≤ 2 ^ 24
facets_few old new topology place corners is fit =
    omega (arith, ap length is, length-append old (triangles_of topology place corners), triangles_few topology place corners, fit)
