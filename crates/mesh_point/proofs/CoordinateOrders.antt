-- The order of coordinates by their floors.
use Rattle.std.proofs.Common.{◌≡◌, ℤ, pos, ◌+ℤ◌, ◌*ℤ◌, ◌<ℤ◌, ◌≤ℤ◌, sym, ◌∙◌, arith}
use Rattle.std.specs.declared.cmp.Ordering.{Ordering}
use Rattle.std.specs.declared.cmp.Ordering.TheVariants.{Less, Equal, Greater}
use Rattle.std.specs.Ordering.{int_cmp, MatchOrdering}
use Rattle.std.specs.Cmp.{int_cmp_is}
use Rattle.std.proofs.lemmas.Cmp.{int_ranked}
use borrow.Author.Differences.{ints}
use Rattle.ember_algebra.proofs.Laws.{linear}
use Rattle.ember_algebra.proofs.Order.{mul_le, mul_lt, pos_mul}
use Rattle.ember_algebra.proofs.Ring.{◌⊕◌, ◌⊖◌, ◌⊗◌, num, ◌≈◌, solve, cancels}
use Rattle.ember_width.specs.Broad.{IsRemainder}

-- a coordinate with a lesser floor is less
below_next : (i j r s v w : ℤ) → pos 0 <ℤ v → pos 0 <ℤ w → IsRemainder r v → IsRemainder s w → i <ℤ j →
    ((i *ℤ v +ℤ r) *ℤ w) <ℤ ((j *ℤ w +ℤ s) *ℤ v)
below_next i j r s v w pv pw hr hs l =
    let k : (i +ℤ pos 1) ≤ℤ j = omega (arith, ints, l) in let m = pos_mul pv pw in
    let up = mul_le {c = v *ℤ w} (omega (arith, ints, m)) k in
    let rest = mul_lt {c = w} pw hr.below in
    let more = mul_le {c = v} (omega (arith, ints, pv)) hs.at_least in
    let e = solve 4 (λ i r v w. (i ⊗ v ⊕ r) ⊗ w ≈ v ⊗ w ⊗ i ⊕ w ⊗ r) cancels i r v w in
    let f = solve 4 (λ j s v w. (j ⊗ w ⊕ s) ⊗ v ≈ v ⊗ w ⊗ j ⊕ v ⊗ s) cancels j s v w in
    let g = solve 3 (λ i v w. v ⊗ w ⊗ (i ⊕ num (pos 1)) ≈ v ⊗ w ⊗ i ⊕ w ⊗ v) cancels i v w in
    omega (arith, linear, up, rest, more, e, f, g)

module _ (i j r s v w : ℤ) (pv : pos 0 <ℤ v) (pw : pos 0 <ℤ w) (hr : IsRemainder r v) (hs : IsRemainder s w) where
  pub less_by_floors : Less ≡ int_cmp i j → Less ≡ int_cmp ((i *ℤ v +ℤ r) *ℤ w) ((j *ℤ w +ℤ s) *ℤ v)
  less_by_floors e = int_cmp_is _ _ Less (below_next i j r s v w pv pw hr hs (int_ranked i j Less e))

  pub greater_by_floors : Greater ≡ int_cmp i j → Greater ≡ int_cmp ((i *ℤ v +ℤ r) *ℤ w) ((j *ℤ w +ℤ s) *ℤ v)
  greater_by_floors e = int_cmp_is _ _ Greater (below_next j i s r w v pw pv hs hr (int_ranked i j Greater e))

  -- equal floors leave it to the remainders
  pub order_by_rests : (o : Ordering) → Equal ≡ int_cmp i j → o ≡ int_cmp (r *ℤ w) (s *ℤ v) → o ≡ int_cmp ((i *ℤ v +ℤ r) *ℤ w) ((j *ℤ w +ℤ s) *ℤ v)
  order_by_rests o e h =
      let p : i ≡ j = int_ranked i j Equal e in
      int_cmp_is _ _ o (by o (sides p) (int_ranked _ _ o h))
    where
      sides : i ≡ j → (i *ℤ v +ℤ r) *ℤ w +ℤ s *ℤ v ≡ (j *ℤ w +ℤ s) *ℤ v +ℤ r *ℤ w
      sides p = rw p (solve 5 (λ j r s v w. (j ⊗ v ⊕ r) ⊗ w ⊕ s ⊗ v ≈ (j ⊗ w ⊕ s) ⊗ v ⊕ r ⊗ w) cancels j r s v w)

      by : (o : Ordering) → (i *ℤ v +ℤ r) *ℤ w +ℤ s *ℤ v ≡ (j *ℤ w +ℤ s) *ℤ v +ℤ r *ℤ w →
          MatchOrdering o ((r *ℤ w) <ℤ (s *ℤ v)) (r *ℤ w ≡ s *ℤ v) ((s *ℤ v) <ℤ (r *ℤ w)) →
          MatchOrdering o (((i *ℤ v +ℤ r) *ℤ w) <ℤ ((j *ℤ w +ℤ s) *ℤ v)) ((i *ℤ v +ℤ r) *ℤ w ≡ (j *ℤ w +ℤ s) *ℤ v)
          (((j *ℤ w +ℤ s) *ℤ v) <ℤ ((i *ℤ v +ℤ r) *ℤ w))
      by Less q l = omega (arith, linear, q, l)
      by Equal q l = omega (arith, linear, q, l)
      by Greater q l = omega (arith, linear, q, l)
