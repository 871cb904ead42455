-- Closed triangles stay closed under a map of positions, without those that have two equal corners there
use Rattle.std.proofs.Common.{◌≡◌, ◌⊎◌, inl, inr, ℕ, ◌+◌, Bool, true, false, cond, eqb, not, ◌||◌, List, [], ◌∷◌}
use Rattle.std.proofs.Common.{map, refl, sym, ap, subst, ◌∙◌, arith, ℤ, pos, ◌+ℤ◌, ◌-ℤ◌, neg_ℤ}
use borrow.Author.Differences.{ints}
use Rattle.std.proofs.lemmas.Bool.{and_parts, and_from, or_cases, cases_eq, eq-eqb, eqb-true}
use Rattle.ember_algebra.specs.Sums.{total}
use Rattle.ember_algebra.proofs.Sums.{IsEquality, total-sub, total_odd}
use Rattle.ember_algebra.proofs.Booleans.{and_swapped}
use Rattle.mesh_read.specs.declared.surface.surface.Facet.{Facet}
use Rattle.ember_model.specs.declared.point.Corner.{Corner}
use Rattle.ember_model.specs.Meshes.{Edge, reversed, edges_in, same_corner, same_edge, edge_count, IsBalanced}
use Rattle.ember_model.proofs.SameEdges.{same_corner_out, same_edge_reversed}
use Rattle.mesh_grid.specs.Grid.Images.{image, vanishes, kept, images}
use Rattle.mesh_grid.specs.Grid.Closed.{Arc, turned, same_arc, arc_count, arcs_in, AreClosed}

-- ---- directed edges between positions
arcs_are_equal : IsEquality Arc same_arc
arcs_are_equal = record {
  sound = λ a b h.
      let p = and_parts _ _ h in
      let from = eqb-true a.from b.from p.0 in let to = eqb-true a.to b.to p.1 in
      λ i. record { from = from i; to = to i };
  reflexive = λ a. and_from _ _ (eq-eqb a.from a.from refl) (eq-eqb a.to a.to refl);
}

same_turned : (a b : Arc) → same_arc a (turned b) ≡ same_arc (turned a) b
same_turned a b = and_swapped (eqb a.from b.to) (eqb a.to b.from)

closed_all : (position : ℕ → ℕ) (fs : List Facet) → AreClosed position fs → (a : Arc) →
    arc_count a (arcs_in position fs) ≡ arc_count (turned a) (arcs_in position fs)
closed_all position fs h a = by (cases_eq a.from a.to)
  where
    by : (a.from ≡ a.to) ⊎ (a.from ≡ a.to → ⊥) → arc_count a (arcs_in position fs) ≡ arc_count (turned a) (arcs_in position fs)
    by (inl q) = λ i. arc_count (record { from = q i; to = sym q i }) (arcs_in position fs)
    by (inr d) = h a d

-- ---- under a map
abbrev edge_under : (ℕ → Corner) → Arc → Edge
edge_under to a = record { from = to a.from; to = to a.to }

edges_under : (position : ℕ → ℕ) (to : ℕ → Corner) (mesh : ℕ) (fs : List Facet) →
    edges_in (map (image (λ corner. to (position corner)) mesh) fs) ≡ map (edge_under to) (arcs_in position fs)
edges_under position to mesh [] = refl
edges_under position to mesh (f ∷ fs) =
    let r = edges_under position to mesh fs in
    let t = image (λ corner. to (position corner)) mesh f in
    λ i. record { from = t.a; to = t.b } ∷ record { from = t.b; to = t.c } ∷ record { from = t.c; to = t.a } ∷ r i

abbrev one_if : Bool → ℤ
one_if b = cond b (pos 1) (pos 0)

count_total : (to : ℕ → Corner) (e : Edge) (arcs : List Arc) →
    pos (edge_count e (map (edge_under to) arcs)) ≡ total (λ a. one_if (same_edge e (edge_under to a))) arcs
count_total to e [] = refl
count_total to e (a ∷ arcs) = by (same_edge e (edge_under to a)) (count_total to e arcs)
  where
    by : (b : Bool) → pos (edge_count e (map (edge_under to) arcs)) ≡ total
        (λ a. one_if (same_edge e (edge_under to a))) arcs →
        pos (cond b 1 0 + edge_count e (map (edge_under to) arcs)) ≡ one_if b +ℤ total
        (λ a. one_if (same_edge e (edge_under to a))) arcs
    by true r = omega (arith, ints, r)
    by false r = omega (arith, ints, r)

abbrev surplus_at : (ℕ → Corner) → Edge → Arc → ℤ
surplus_at to e a =
    one_if (same_edge e (edge_under to a)) -ℤ one_if (same_edge (reversed e) (edge_under to a))

surplus_turned : (to : ℕ → Corner) (e : Edge) (a : Arc) → surplus_at to e (turned a) ≡ neg_ℤ (surplus_at to e a)
surplus_turned to e a =
    ap (λ (b : Bool). one_if b -ℤ one_if (same_edge (reversed e) (edge_under to (turned a))))
    (same_edge_reversed e (edge_under to a)) ∙ ap (λ (b : Bool). one_if (same_edge (reversed e) (edge_under to a)) -ℤ
    one_if b) (same_edge_reversed (reversed e) (edge_under to a))
    ∙ by (same_edge e (edge_under to a)) (same_edge (reversed e) (edge_under to a))
  where
    by : (b c : Bool) → one_if c -ℤ one_if b ≡ neg_ℤ (one_if b -ℤ one_if c)
    by true true = refl
    by true false = refl
    by false true = refl
    by false false = refl

-- all images, those with two equal corners among them
all_balanced : (position : ℕ → ℕ) (to : ℕ → Corner) (mesh : ℕ) (fs : List Facet) → AreClosed position fs →
    IsBalanced (map (image (λ corner. to (position corner)) mesh) fs)
all_balanced position to mesh fs h e =
    let arcs = arcs_in position fs in
    let zero = total_odd same_arc arcs_are_equal (surplus_at to e) turned (surplus_turned to e) same_turned arcs (closed_all position fs h) in
    let split = total-sub (λ a. one_if (same_edge e (edge_under to a))) (λ a. one_if (same_edge (reversed e) (edge_under to a))) arcs in
    let there = count_total to e arcs in
    let back = count_total to (reversed e) arcs in
    let even : edge_count e (map (edge_under to) arcs) ≡ edge_count (reversed e) (map (edge_under to) arcs) = omega (arith, ints, zero, split, there, back) in
    let edges = edges_under position to mesh fs in
    ap (edge_count e) edges ∙ even ∙ sym (ap (edge_count (reversed e)) edges)

-- ---- triangles that vanish
abbrev Loops : Corner → Corner → Corner → Type 0
Loops a b c = IsBalanced (record { a = a; b = b; c = c; mesh = 0 } ∷ [])

abbrev one_times : Bool → ℕ
one_times b = cond b 1 0

weight : (e f : Edge) → one_times (same_edge (reversed e) f) ≡ one_times (same_edge e (reversed f))
weight e f = ap one_times (sym (same_edge_reversed e f))

loops_first : (a c : Corner) → Loops a a c
loops_first a c e =
    let p = weight e (record { from = a; to = a }) in
    let q = weight e (record { from = a; to = c }) in
    let r = weight e (record { from = c; to = a }) in
    omega (arith, p, q, r)

loops_second : (a b : Corner) → Loops a b b
loops_second a b e =
    let p = weight e (record { from = a; to = b }) in
    let q = weight e (record { from = b; to = b }) in
    let r = weight e (record { from = b; to = a }) in
    omega (arith, p, q, r)

loops_third : (a b : Corner) → Loops a b a
loops_third a b e =
    let p = weight e (record { from = a; to = b }) in
    let q = weight e (record { from = b; to = a }) in
    let r = weight e (record { from = a; to = a }) in
    omega (arith, p, q, r)

loops : (a b c : Corner) → (same_corner a b || (same_corner b c || same_corner c a)) ≡ true → Loops a b c
loops a b c h = first (or_cases (same_corner a b) (same_corner b c || same_corner c a) h)
  where
    second : (same_corner b c ≡ true) ⊎ (same_corner c a ≡ true) → Loops a b c
    second (inl p) = subst (λ (d : Corner). Loops a b d) (same_corner_out b c p) (loops_second a b)
    second (inr p) = subst (λ (d : Corner). Loops a b d) (sym (same_corner_out c a p)) (loops_third a b)

    first : (same_corner a b ≡ true) ⊎ ((same_corner b c || same_corner c a) ≡ true) → Loops a b c
    first (inl p) = subst (λ (d : Corner). Loops a d c) (same_corner_out a b p) (loops_first a c)
    first (inr p) = second (or_cases (same_corner b c) (same_corner c a) p)

-- how often an edge occurs in the images of all these
abbrev standing : (ℕ → Corner) → ℕ → Edge → List Facet → ℕ
standing at mesh e fs = edge_count e (edges_in (map (image at mesh) fs))

-- without them the surplus of each edge is the same
same_surplus : (at : ℕ → Corner) (mesh : ℕ) (e : Edge) (fs : List Facet) →
    standing at mesh e fs + standing at mesh (reversed e) (kept at fs) ≡ standing at mesh (reversed e) fs
    + standing at mesh e (kept at fs)
same_surplus at mesh e [] = refl
same_surplus at mesh e (f ∷ fs) = by (vanishes at f) refl (same_surplus at mesh e fs)
  where
    by : (b : Bool) → vanishes at f ≡ b → standing at mesh e fs
        + standing at mesh (reversed e) (kept at fs) ≡ standing at mesh (reversed e) fs
        + standing at mesh e (kept at fs) → standing at mesh e (f ∷ fs)
        + standing at mesh (reversed e) (cond (not b) (f ∷ kept at fs) (kept at fs)) ≡ standing at mesh (reversed e)
        (f ∷ fs) + standing at mesh e (cond (not b) (f ∷ kept at fs) (kept at fs))
    by true h r =
        let even = loops (image at mesh f).a (image at mesh f).b (image at mesh f).c h e in omega (arith, r, even)
    by false h r = omega (arith, r)

-- the law
pub map_keeps_closed : (position : ℕ → ℕ) (to : ℕ → Corner) (mesh : ℕ) (fs : List Facet) → AreClosed position fs →
    IsBalanced (images (λ corner. to (position corner)) mesh fs)
map_keeps_closed position to mesh fs h e =
    let all = all_balanced position to mesh fs h e in
    let same = same_surplus (λ corner. to (position corner)) mesh e fs in
    omega (arith, all, same)
