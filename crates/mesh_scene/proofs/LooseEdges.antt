-- A loose edge is an edge of some triangle
use Rattle.std.proofs.Common.{◌≡◌, ℕ, ◌+◌, ◌<◌, Bool, false, cond, List, [], ◌∷◌, refl, arith}
use Rattle.std.specs.List.{All}
use Rattle.std.proofs.lemmas.Bool.{or_parts}
use Rattle.std.proofs.lemmas.List.Elements.{All-head, All-tail}
use Rattle.ember_model.specs.declared.tri.Tri.{Tri}
use Rattle.ember_model.specs.Meshes.{Edge, edges_in, same_edge, edge_count}
use Rattle.ember_balance.specs.declared.loose.Loose.{Loose}
use Rattle.ember_balance.specs.Loose.{edge_of, IsLeastLoose}
use Rattle.mesh_grid.specs.Grid.Places.{has_edge}

occurs : (ts : List Tri) (l : Loose) → IsLeastLoose ts l → 0 < edge_count (edge_of l) (edges_in ts)
occurs ts l h = omega (arith, h.more, h.there)

-- an edge that no triangle has doesn't occur
absent_edge : (e : Edge) (ts : List Tri) → All (λ t. has_edge e t ≡ false) ts → edge_count e (edges_in ts) ≡ 0
absent_edge e [] h = refl
absent_edge e (t ∷ ts) h =
    let first : Edge = record { from = t.a; to = t.b } in
    let second : Edge = record { from = t.b; to = t.c } in
    let third : Edge = record { from = t.c; to = t.a } in
    let p = or_parts (same_edge e first) _ (All-head (λ t. has_edge e t ≡ false) t ts h) in
    let q = or_parts (same_edge e second) (same_edge e third) p.1 in
    let r = absent_edge e ts (All-tail (λ t. has_edge e t ≡ false) t ts h) in
    all (same_edge e first) (same_edge e second) (same_edge e third) (edge_count e (edges_in ts)) p.0 q.0 q.1 r
  where
    all : (a b c : Bool) (n : ℕ) → a ≡ false → b ≡ false → c ≡ false → n ≡ 0 → cond a 1 0 + (cond b 1 0 + (cond c 1 0 + n)) ≡ 0
    all a b c n x y z w = rw (x, y, z) (omega (arith, w))

-- some triangle has the loose edge
pub loose_edge_is_there : (ts : List Tri) (l : Loose) → IsLeastLoose ts l → All (λ t. has_edge (edge_of l) t ≡ false) ts → ⊥
loose_edge_is_there ts l h none =
    let a = occurs ts l h in let b = absent_edge (edge_of l) ts none in omega (arith, a, b)
