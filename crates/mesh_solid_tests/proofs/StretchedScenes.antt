-- Triangles that are stretched over the broad grid are a scene there: any map of corners keeps triangles balanced.
use Rattle.std.proofs.Common.{◌≡◌, ℕ, ◌+◌, nat_eq, Bool, true, false, cond, List, [], ◌∷◌, map, length, le_refl}
use Rattle.std.proofs.Common.{refl, sym, ap, subst, ◌∙◌, arith, lit≤, ℤ, pos, ◌+ℤ◌, ◌-ℤ◌, neg_ℤ}
use Rattle.std.specs.List.{All}
use Rattle.std.specs.Ordering.{int_eq}
use Rattle.std.proofs.lemmas.List.{length-map}
use Rattle.std.proofs.lemmas.List.Elements.{All-nil, All-cons, All-head, All-tail}
use borrow.Author.Differences.{ints}
use Rattle.ember_algebra.specs.Size.{Small}
use Rattle.ember_algebra.specs.Sums.{total}
use Rattle.ember_algebra.proofs.Sums.{total-sub, total_odd}
use Rattle.ember_model.specs.declared.point.Corner.{Corner}
use Rattle.ember_model.specs.declared.tri.Tri.{Tri}
use Rattle.ember_model.specs.Limits.{broad_limit, most_meshes}
use Rattle.ember_model.specs.Meshes.{Edge, reversed, edges_in, same_edge, edge_count, of_mesh, HasMesh, IsBalanced, IsScene}
use Rattle.ember_model.specs.Within.{IsCornerWithin, IsTriWithin}
use Rattle.ember_model.proofs.SameEdges.{edges_are_equal, same_edge_reversed}
use Rattle.ember_visit.proofs.IndexLists.{scene_within}
use Rattle.ember_width.specs.Scenes.{IsSceneWithin}
use Rattle.mesh_solid_tests.specs.Stretched.{stretched, stretched_corner, stretched_tri}

-- ---- under a map of corners
module _ (to : Corner → Corner) where
  abbrev edge_under : Edge → Edge
  edge_under e = record { from = to e.from; to = to e.to }

  abbrev tri_under : Tri → Tri
  tri_under t = record { a = to t.a; b = to t.b; c = to t.c; mesh = t.mesh }

  edges_under : (ts : List Tri) → edges_in (map tri_under ts) ≡ map edge_under (edges_in ts)
  edges_under [] = refl
  edges_under (t ∷ ts) =
      let r = edges_under ts in let u = tri_under t in
      λ i. record { from = u.a; to = u.b } ∷ record { from = u.b; to = u.c } ∷ record { from = u.c; to = u.a } ∷ r i

  abbrev one_if : Bool → ℤ
  one_if b = cond b (pos 1) (pos 0)

  count_total : (e : Edge) (es : List Edge) →
      pos (edge_count e (map edge_under es)) ≡ total (λ d. one_if (same_edge e (edge_under d))) es
  count_total e [] = refl
  count_total e (d ∷ es) = by (same_edge e (edge_under d)) (count_total e es)
    where
      by : (b : Bool) → pos (edge_count e (map edge_under es)) ≡ total (λ d. one_if (same_edge e (edge_under d))) es →
          pos (cond b 1 0 + edge_count e (map edge_under es)) ≡ one_if b +ℤ total (λ d. one_if (same_edge e (edge_under d))) es
      by true r = omega (arith, ints, r)
      by false r = omega (arith, ints, r)

  abbrev surplus_at : Edge → Edge → ℤ
  surplus_at e d = one_if (same_edge e (edge_under d)) -ℤ one_if (same_edge (reversed e) (edge_under d))

  surplus_reversed : (e d : Edge) → surplus_at e (reversed d) ≡ neg_ℤ (surplus_at e d)
  surplus_reversed e d =
      ap (λ (b : Bool). one_if b -ℤ one_if (same_edge (reversed e) (edge_under (reversed d)))) (same_edge_reversed e (edge_under d))
      ∙ ap (λ (b : Bool). one_if (same_edge (reversed e) (edge_under d)) -ℤ one_if b) (same_edge_reversed (reversed e) (edge_under d))
      ∙ by (same_edge e (edge_under d)) (same_edge (reversed e) (edge_under d))
    where
      by : (b c : Bool) → one_if c -ℤ one_if b ≡ neg_ℤ (one_if b -ℤ one_if c)
      by true true = refl
      by true false = refl
      by false true = refl
      by false false = refl

  map_keeps_balance : (ts : List Tri) → IsBalanced ts → IsBalanced (map tri_under ts)
  map_keeps_balance ts h e =
      let es = edges_in ts in
      let zero = total_odd same_edge edges_are_equal (surplus_at e) reversed (surplus_reversed e) same_edge_reversed es h in
      let split = total-sub (λ d. one_if (same_edge e (edge_under d))) (λ d. one_if (same_edge (reversed e) (edge_under d))) es in
      let there = count_total e es in
      let back = count_total (reversed e) es in
      let even : edge_count e (map edge_under es) ≡ edge_count (reversed e) (map edge_under es) =
      omega (arith, ints, zero, split, there, back) in
      ap (edge_count e) (edges_under ts) ∙ even ∙ sym (ap (edge_count (reversed e)) (edges_under ts))

  of_mesh_under : (m : ℕ) (ts : List Tri) → of_mesh m (map tri_under ts) ≡ map tri_under (of_mesh m ts)
  of_mesh_under m [] = refl
  of_mesh_under m (t ∷ ts) = by (nat_eq t.mesh m) (of_mesh_under m ts)
    where
      by : (b : Bool) → of_mesh m (map tri_under ts) ≡ map tri_under (of_mesh m ts) →
          cond b (tri_under t ∷ of_mesh m (map tri_under ts)) (of_mesh m (map tri_under ts)) ≡ map tri_under
          (cond b (t ∷ of_mesh m ts) (of_mesh m ts))
      by true r = ap (λ (us : List Tri). tri_under t ∷ us) r
      by false r = r

  numbered_under : (n : ℕ) (ts : List Tri) → All (HasMesh n) ts → All (HasMesh n) (map tri_under ts)
  numbered_under n [] h = All-nil (HasMesh n)
  numbered_under n (t ∷ ts) h =
      let one = All-head (HasMesh n) t ts h in
      All-cons (HasMesh n) (tri_under t) (map tri_under ts) (record { first = one.first; last = one.last })
      (numbered_under n ts (All-tail (HasMesh n) t ts h))

-- ---- stretched
stretched_is_within : (x : ℤ) → Small broad_limit (stretched x)
stretched_is_within x = by (int_eq x (pos 0)) (int_eq x (pos 5)) (int_eq x (pos 10))
  where
    by : (a b c : Bool) → Small broad_limit (cond a (neg_ℤ (pos 524280)) (cond b (neg_ℤ (pos 174760)) (cond c (pos 174760) (pos 524280))))
    by true b c = record { small = lit≤ tt }
    by false true c = record { small = lit≤ tt }
    by false false true = record { small = lit≤ tt }
    by false false false = record { small = lit≤ tt }

corner_is_within : (c : Corner) → IsCornerWithin broad_limit (stretched_corner c)
corner_is_within c =
    record { x = stretched_is_within c.x; y = stretched_is_within c.y; z = stretched_is_within c.z }

all_within : (ts : List Tri) → All (IsTriWithin broad_limit) (map stretched_tri ts)
all_within [] = All-nil (IsTriWithin broad_limit)
all_within (t ∷ ts) =
    All-cons (IsTriWithin broad_limit) (stretched_tri t) (map stretched_tri ts)
    (record { a = corner_is_within t.a; b = corner_is_within t.b; c = corner_is_within t.c }) (all_within ts)

pub stretched_is_scene : (ts : List Tri) (n : ℕ) → IsScene ts n → IsSceneWithin broad_limit (map stretched_tri ts) most_meshes
stretched_is_scene ts n s =
    let narrow = scene_within ts n s in
    record {
      within = all_within ts;
      few = omega (arith, narrow.few, length-map ts stretched_tri);
      few_meshes = narrow.few_meshes;
      numbered = numbered_under stretched_corner most_meshes ts narrow.numbered;
      balanced = λ m. subst IsBalanced (sym (of_mesh_under stretched_corner m ts))
          (map_keeps_balance stretched_corner (of_mesh m ts) (narrow.balanced m));
    }
