-- The twelve triangles of a box: they are closed and valid
use Rattle.std.proofs.Common.{◌≡◌, ℕ, ◌+◌, ◌*◌, cond, List, ◌++◌, append_assoc, length, refl, ap, ◌∙◌, arith, pos, ◌+ℤ◌}
use borrow.Author.Differences.{ints}
use Rattle.std.specs.List.{All}
use Rattle.std.proofs.lemmas.Nat.{mod_below}
use Rattle.std.proofs.lemmas.List.Elements.{All-from_recursion}
use Rattle.ember_algebra.specs.Size.{Small}
use Rattle.ember_model.specs.declared.point.Corner.{Corner}
use Rattle.ember_model.specs.declared.tri.Tri.{Tri}
use Rattle.ember_model.specs.Valid.{IsValidCorner, IsValidTri}
use Rattle.ember_model.specs.Meshes.{edges_in, same_edge, IsBalanced}
use Rattle.ember_balance.proofs.Edges.{times_reversed}
use Rattle.ember_gen.specs.declared.block.Block.{Block}
use Rattle.ember_gen.specs.Numbers.{draw, place, side}
use Rattle.ember_gen.specs.Blocks.{low_of, high_of, block_of, corner, quad, block_faces, triangles_of}

-- each edge of a box and each diagonal of its faces occurs once in either direction
in_pairs : (k : Corner → Corner → ℕ) (c1 c2 c3 c4 c5 c6 c7 c8 : Corner) →
    k c1 c4 + (k c4 c3 + (k c3 c1 + (k c1 c3 + (k c3 c2
    + (k c2 c1 + (k c5 c6 + (k c6 c7 + (k c7 c5 + (k c5 c7
    + (k c7 c8 + (k c8 c5 + (k c1 c2 + (k c2 c6 + (k c6 c1
    + (k c1 c6 + (k c6 c5 + (k c5 c1 + (k c2 c3 + (k c3 c7
    + (k c7 c2 + (k c2 c7 + (k c7 c6 + (k c6 c2 + (k c3 c4
    + (k c4 c8 + (k c8 c3 + (k c3 c8 + (k c8 c7 + (k c7 c3
    + (k c4 c1 + (k c1 c5 + (k c5 c4 + (k c4 c5 + (k c5 c8 + (k c8 c4 + 0))))))))))))))))))))))))))))))))))) ≡ k c4 c1
    + (k c3 c4 + (k c1 c3 + (k c3 c1 + (k c2 c3 + (k c1 c2
    + (k c6 c5 + (k c7 c6 + (k c5 c7 + (k c7 c5 + (k c8 c7
    + (k c5 c8 + (k c2 c1 + (k c6 c2 + (k c1 c6 + (k c6 c1
    + (k c5 c6 + (k c1 c5 + (k c3 c2 + (k c7 c3 + (k c2 c7
    + (k c7 c2 + (k c6 c7 + (k c2 c6 + (k c4 c3 + (k c8 c4
    + (k c3 c8 + (k c8 c3 + (k c7 c8 + (k c3 c7 + (k c1 c4
    + (k c5 c1 + (k c4 c5 + (k c5 c4 + (k c8 c5 + (k c4 c8 + 0)))))))))))))))))))))))))))))))))))
in_pairs k c1 c2 c3 c4 c5 c6 c7 c8 = omega arith

balanced_faces : (m : ℕ) (c1 c2 c3 c4 c5 c6 c7 c8 : Corner) → IsBalanced (block_faces m c1 c2 c3 c4 c5 c6 c7 c8)
balanced_faces m c1 c2 c3 c4 c5 c6 c7 c8 e =
    in_pairs (λ u v. cond (same_edge e (record { from = u; to = v })) 1 0) c1 c2 c3 c4 c5 c6 c7 c8
    ∙ times_reversed e (edges_in (block_faces m c1 c2 c3 c4 c5 c6 c7 c8))

-- the triangles of a box are balanced
pub balanced_block : (m : ℕ) (b : Block) → IsBalanced (triangles_of m b)
unfolding triangles_of
balanced_block m b = balanced_faces m _ _ _ _ _ _ _ _

-- ---- what holds of each triangle
quads : (P : Tri → Type 0) (m : ℕ) (c1 c2 c3 c4 c5 c6 c7 c8 : Corner) →
    ((a b c : Corner) → P (record { a = a; b = b; c = c; mesh = m })) → All P (block_faces m c1 c2 c3 c4 c5 c6 c7 c8)
quads P m c1 c2 c3 c4 c5 c6 c7 c8 h =
    All-from_recursion P (block_faces m c1 c2 c3 c4 c5 c6 c7 c8) (
      h c1 c4 c3,
      (
        h c1 c3 c2,
        (
          h c5 c6 c7,
          (
            h c5 c7 c8,
            (
              h c1 c2 c6,
              (h c1 c6 c5, (h c2 c3 c7, (h c2 c7 c6, (h c3 c4 c8, (h c3 c8 c7, (h c4 c1 c5, (h c4 c5 c8, tt))))))),
            ),
          ),
        ),
      ),
    )

-- the triangles of a box have its mesh number
pub block_has_mesh : (m : ℕ) (b : Block) → All (λ t. t.mesh ≡ m) (triangles_of m b)
unfolding triangles_of
block_has_mesh m b = quads (λ t. t.mesh ≡ m) m _ _ _ _ _ _ _ _ (λ p q r. refl)

-- a box has twelve triangles
pub length-triangles_of : (m : ℕ) (b : Block) → length (triangles_of m b) ≡ 12
unfolding triangles_of
length-triangles_of m b = refl

valid_faces : (m : ℕ) {c1 c2 c3 c4 c5 c6 c7 c8 : Corner} → IsValidCorner c1 → IsValidCorner c2 → IsValidCorner c3 →
    IsValidCorner c4 → IsValidCorner c5 → IsValidCorner c6 → IsValidCorner c7 → IsValidCorner c8 →
    All IsValidTri (block_faces m c1 c2 c3 c4 c5 c6 c7 c8)
valid_faces m {c1} {c2} {c3} {c4} {c5} {c6} {c7} {c8} v1 v2 v3 v4 v5 v6 v7 v8 =
    All-from_recursion IsValidTri (block_faces m c1 c2 c3 c4 c5 c6 c7 c8) (
      t v1 v4 v3,
      (
        t v1 v3 v2,
        (
          t v5 v6 v7,
          (
            t v5 v7 v8,
            (
              t v1 v2 v6,
              (t v1 v6 v5, (t v2 v3 v7, (t v2 v7 v6, (t v3 v4 v8, (t v3 v8 v7, (t v4 v1 v5, (t v4 v5 v8, tt))))))),
            ),
          ),
        ),
      ),
    )
  where
    t : {a b c : Corner} → IsValidCorner a → IsValidCorner b → IsValidCorner c → IsValidTri (record { a = a; b = b; c = c; mesh = m })
    t a b c = record { a = a; b = b; c = c }

valid_triangles : (m : ℕ) (b : Block) → IsValidCorner b.low → IsValidCorner b.high → All IsValidTri (triangles_of m b)
unfolding triangles_of
valid_triangles m b v w =
    valid_faces m (record { x = v.x; y = v.y; z = v.z }) (record { x = w.x; y = v.y; z = v.z })
    (record { x = w.x; y = w.y; z = v.z }) (record { x = v.x; y = w.y; z = v.z })
    (record { x = v.x; y = v.y; z = w.z }) (record { x = w.x; y = v.y; z = w.z })
    (record { x = w.x; y = w.y; z = w.z }) (record { x = v.x; y = w.y; z = w.z })

low_small : (r : ℕ) → Small 2047 (place r)
low_small r =
    let l = mod_below r 3584 (omega arith) in record { small = omega (arith, ints, l) }

high_small : (r s : ℕ) → Small 2047 (place r +ℤ pos (side s))
high_small r s =
    let l = mod_below r 3584 (omega arith) in let m = mod_below s 256 (omega arith) in
    record { small = omega (arith, ints, l, m) }

-- the triangles of a drawn box are valid
pub valid_block : (m i : ℕ) → All IsValidTri (triangles_of m (block_of i))
unfolding block_of
valid_block m i =
    valid_triangles m (record { low = low_of i; high = high_of i })
    (record { x = low_small (draw (6 * i + 1)); y = low_small (draw (6 * i + 2)); z = low_small (draw (6 * i + 3)) })
    (record {
      x = high_small (draw (6 * i + 1)) (draw (6 * i + 4));
      y =
          high_small (draw (6 * i + 2)) (draw (6 * i + 5));
      z = high_small (draw (6 * i + 3)) (draw (6 * i + 6));
    })

-- ---- laid down face by face
appended : (n0 q1 q2 q3 q4 q5 q6 : List Tri) {n1 n2 n3 n4 n5 n6 : List Tri} → n1 ≡ n0 ++ q1 → n2 ≡ n1 ++ q2 →
    n3 ≡ n2 ++ q3 → n4 ≡ n3 ++ q4 → n5 ≡ n4 ++ q5 → n6 ≡ n5 ++ q6 → n6 ≡ n0 ++ (q1 ++ q2 ++ q3 ++ q4 ++ q5 ++ q6)
appended n0 q1 q2 q3 q4 q5 q6 p1 p2 p3 p4 p5 p6 =
    p6 ∙ ap (λ ts. ts ++ q6) (p5 ∙ ap (λ ts. ts ++ q5) (p4 ∙ ap (λ ts. ts ++ q4) (p3 ∙ ap (λ ts. ts ++ q3) (p2 ∙ ap (λ ts. ts ++ q2) p1)))) ∙ joined
  where
    joined : n0 ++ q1 ++ q2 ++ q3 ++ q4 ++ q5 ++ q6 ≡ n0 ++ (q1 ++ q2 ++ q3 ++ q4 ++ q5 ++ q6)
    joined = simp append_assoc refl

-- the six faces of a box, one after another, are its triangles
pub laid_down : (m : ℕ) (b : Block) (n0 : List Tri) {n1 n2 n3 n4 n5 n6 : List Tri} {c1 c2 c3 c4 c5 c6 c7 c8 : Corner} →
    c1 ≡ corner b.low.x b.low.y b.low.z → c2 ≡ corner b.high.x b.low.y b.low.z → c3 ≡ corner b.high.x b.high.y b.low.z →
    c4 ≡ corner b.low.x b.high.y b.low.z → c5 ≡ corner b.low.x b.low.y b.high.z → c6 ≡ corner b.high.x b.low.y b.high.z →
    c7 ≡ corner b.high.x b.high.y b.high.z → c8 ≡ corner b.low.x b.high.y b.high.z → n1 ≡ n0 ++ quad m c1 c4 c3 c2 →
    n2 ≡ n1 ++ quad m c5 c6 c7 c8 → n3 ≡ n2 ++ quad m c1 c2 c6 c5 → n4 ≡ n3 ++ quad m c2 c3 c7 c6 →
    n5 ≡ n4 ++ quad m c3 c4 c8 c7 → n6 ≡ n5 ++ quad m c4 c1 c5 c8 → n6 ≡ n0 ++ triangles_of m b
unfolding triangles_of
laid_down m b n0 e1 e2 e3 e4 e5 e6 e7 e8 p1 p2 p3 p4 p5 p6 =
    appended n0 _ _ _ _ _ _ p1 p2 p3 p4 p5 p6 ∙ (λ k. n0 ++ block_faces m (e1 k) (e2 k) (e3 k) (e4 k) (e5 k) (e6 k) (e7 k) (e8 k))
