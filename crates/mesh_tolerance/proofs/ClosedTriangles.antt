-- Over closed triangles, what changes its sign with the direction of an edge cancels.
use Rattle.std.proofs.Common.{◌≡◌, refl, sym, ap, ◌∙◌, arith, ℕ, ◌+◌, Bool, ◌&&◌, eqb, eqb-true, eq-eqb, List, [], ◌∷◌, ℤ, ◌+ℤ◌}
use Rattle.std.proofs.lemmas.Bool.{and_parts}
use Rattle.ember_algebra.specs.Sums.{total, occurrences}
use Rattle.ember_algebra.proofs.Laws.{linear}
use Rattle.ember_algebra.proofs.Sums.{IsEquality, total_odd}
use Rattle.ember_algebra.proofs.Booleans.{and_swapped}
use Rattle.mesh_written.specs.Closed.{Positions, one_if_edge, edges_between, AreTrianglesClosed}
use Rattle.mesh_tolerance.proofs.MovedTriangles.{around, HaveNoOddSum}

-- ---- the ways along the sides
record Way : Type 0 where
  from : ℕ
  to : ℕ

abbrev back : Way → Way
back w = record { from = w.to; to = w.from }

abbrev same_way : Way → Way → Bool
same_way v w = eqb v.from w.from && eqb v.to w.to

abbrev ways_in : List (Positions ℕ) → List Way
ways_in [] = []
ways_in (t ∷ ts) =
    record { from = t.a; to = t.b } ∷ record { from = t.b; to = t.c } ∷ record { from = t.c; to = t.a } ∷ ways_in ts

ways_are_equal : IsEquality Way same_way
ways_are_equal = record {
  sound = λ v w h. let p = and_parts (eqb v.from w.from) (eqb v.to w.to) h in
      let f = eqb-true v.from w.from p.0 in let t = eqb-true v.to w.to p.1 in λ i. record { from = f i; to = t i };
  reflexive = λ v. let f = eq-eqb v.from v.from refl in let t = eq-eqb v.to v.to refl in λ i. f i && t i;
}

-- as many ways lead from u to v as edges do
ways_between : (u v : ℕ) (ts : List (Positions ℕ)) →
    occurrences same_way (record { from = u; to = v }) (ways_in ts) ≡ edges_between eqb u v ts
ways_between u v [] = refl
ways_between u v (t ∷ ts) =
    ap (λ (n : ℕ). one_if_edge eqb u v t.a t.b + (one_if_edge eqb u v t.b t.c + (one_if_edge eqb u v t.c t.a + n)))
    (ways_between u v ts)

-- a sum over the ways is one round the triangles
sum_of_ways : (f : ℕ → ℕ → ℤ) (ts : List (Positions ℕ)) → total (λ w. f w.from w.to) (ways_in ts) ≡ total (around f) ts
sum_of_ways f [] = refl
sum_of_ways f (t ∷ ts) =
    grouped (f t.a t.b) (f t.b t.c) (f t.c t.a) (total (λ w. f w.from w.to) (ways_in ts)) (total (around f) ts) (sum_of_ways f ts)
  where
    grouped : (x y z s r : ℤ) → s ≡ r → x +ℤ (y +ℤ (z +ℤ s)) ≡ (x +ℤ y +ℤ z) +ℤ r
    grouped x y z s r e = omega (arith, linear, e)

pub closed_have_no_odd_sum : (ts : List (Positions ℕ)) → AreTrianglesClosed eqb ts → HaveNoOddSum ts
closed_have_no_odd_sum ts closed = record {
  cancels = λ f odd. sym (sum_of_ways f ts) ∙ total_odd same_way ways_are_equal (λ w. f w.from w.to) back
      (λ w. odd w.from w.to) (λ v w. and_swapped (eqb v.from w.to) (eqb v.to w.from)) (ways_in ts)
      (λ w. ways_between w.from w.to ts ∙ closed.each w.from w.to ∙ sym (ways_between w.to w.from ts));
}
