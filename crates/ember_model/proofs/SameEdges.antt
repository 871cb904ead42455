-- The tests of two corners and of two edges are their equality
use Rattle.std.proofs.Common.{◌≡◌, true, ◌&&◌, arith, ◌-ℤ◌}
use Rattle.std.proofs.lemmas.Bool.{and_parts, and_from}
use Rattle.ember_algebra.specs.Sign.{is_zero}
use Rattle.ember_algebra.proofs.Laws.{linear}
use Rattle.ember_algebra.proofs.Sums.{IsEquality}
use Rattle.ember_algebra.proofs.Booleans.{and_swapped}
use Rattle.ember_model.specs.declared.point.Corner.{Corner}
use Rattle.ember_model.specs.Meshes.{same_corner, Edge, same_edge, reversed}
use Rattle.ember_model.proofs.SignTests.{zero_out, is_zero-self}

-- corners that pass the test are equal
pub same_corner_out : (u v : Corner) → same_corner u v ≡ true → u ≡ v
same_corner_out u v e =
    let p = and_parts (is_zero (u.x -ℤ v.x)) (is_zero (u.y -ℤ v.y) && is_zero (u.z -ℤ v.z)) e in
    let q = and_parts (is_zero (u.y -ℤ v.y)) (is_zero (u.z -ℤ v.z)) p.1 in
    let a = zero_out (u.x -ℤ v.x) p.0 in let b = zero_out (u.y -ℤ v.y) q.0 in let c = zero_out (u.z -ℤ v.z) q.1 in
    let x : u.x ≡ v.x = omega (arith, linear, a) in
    let y : u.y ≡ v.y = omega (arith, linear, b) in
    let z : u.z ≡ v.z = omega (arith, linear, c) in
    λ i. record { x = x i; y = y i; z = z i }

-- a corner passes the test with itself
pub same_corner-refl : (u : Corner) → same_corner u u ≡ true
same_corner-refl u =
    and_from _ _ (is_zero-self u.x) (and_from _ _ (is_zero-self u.y) (is_zero-self u.z))

-- edges that pass the test are equal
pub same_edge_out : (e f : Edge) → same_edge e f ≡ true → e ≡ f
same_edge_out e f h =
    let p = and_parts (same_corner e.from f.from) (same_corner e.to f.to) h in
    let from = same_corner_out e.from f.from p.0 in let to = same_corner_out e.to f.to p.1 in
    λ i. record { from = from i; to = to i }

-- an edge passes the test with itself
pub same_edge-refl : (e : Edge) → same_edge e e ≡ true
same_edge-refl e = and_from _ _ (same_corner-refl e.from) (same_corner-refl e.to)

-- the test of two edges is their equality
pub edges_are_equal : IsEquality Edge same_edge
edges_are_equal = record { sound = same_edge_out; reflexive = same_edge-refl }

-- an edge is the reverse of another if its own reverse is the other
pub same_edge_reversed : (e f : Edge) → same_edge e (reversed f) ≡ same_edge (reversed e) f
same_edge_reversed e f = and_swapped (same_corner e.from f.to) (same_corner e.to f.from)
