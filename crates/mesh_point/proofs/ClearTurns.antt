-- Turns that the floors of coordinates decide.
use Rattle.std.proofs.Common.{◌≡◌, ℕ, ◌+◌, ◌*◌, ◌≤◌, ◌<◌, ℤ, pos, neg_ℤ, ◌+ℤ◌, ◌-ℤ◌, ◌*ℤ◌, ◌<ℤ◌, ◌≤ℤ◌}
use Rattle.std.proofs.Common.{unsigned_abs, mul-le-mul, refl, sym, ap, ◌∙◌, subst, arith}
use Rattle.std.proofs.lemmas.Int.{unsigned_abs-mul}
use borrow.Author.Differences.{ints}
use Rattle.ember_algebra.specs.Size.{Small}
use Rattle.ember_algebra.specs.Det.{det3}
use Rattle.ember_algebra.proofs.Size.{small_add, small_sub}
use Rattle.ember_algebra.proofs.Laws.{linear}
use Rattle.ember_algebra.proofs.Order.{mul_le, nonneg_mul, cancel_lt}
use Rattle.ember_algebra.proofs.Ring.{◌⊕◌, ◌⊖◌, ◌⊗◌, neg, ◌≈◌, solve, cancels}
use Rattle.ember_width.specs.Broad.{IsRemainder}
use Rattle.mesh_point.specs.FloorTurns.{turn_of, most_change}

-- ---- one product
-- the size of a times the step k times s, where s is at most l in size
part_size : (a s : ℤ) (k l : ℕ) → unsigned_abs s ≤ l → unsigned_abs ((a *ℤ pos k) *ℤ s) ≤ unsigned_abs a * (k * l)
part_size a s k l h =
    let e : unsigned_abs ((a *ℤ pos k) *ℤ s) ≡ unsigned_abs a * k * unsigned_abs s =
    unsigned_abs-mul (a *ℤ pos k) s ∙ ap (λ (n : ℕ). n * unsigned_abs s) (unsigned_abs-mul a (pos k)) in
    let m : unsigned_abs a * k * unsigned_abs s ≤ unsigned_abs a * k * l = mul-le-mul (omega arith) h in
    omega (arith, e, m)

-- the size of a product of two numbers with these bounds
both_size : (s t : ℤ) (k l : ℕ) → unsigned_abs s ≤ k → unsigned_abs t ≤ l → unsigned_abs (s *ℤ t) ≤ k * l
both_size s t k l h g = let e = unsigned_abs-mul s t in let m = mul-le-mul h g in omega (arith, e, m)

-- a number above m times a positive one
pub multiple_above : (z : ℤ) (m n : ℕ) → pos m <ℤ z → pos (n * (m + 1)) ≤ℤ (pos n *ℤ z)
multiple_above z m n l =
    let h : pos (m + 1) ≤ℤ z = omega (arith, ints, l) in mul_le {c = pos n} (omega (arith, ints)) h

-- ---- the vectors (a k + s, b k + t) and (c l + u, d l + v), where the rests are at most k and l in size
module _ (a b c d s t u v : ℤ) (k l : ℕ) (sk : unsigned_abs s ≤ k) (tk : unsigned_abs t ≤ k) (ul : unsigned_abs u ≤ l)
    (vl : unsigned_abs v ≤ l) where
  expanded : (a *ℤ pos k +ℤ s) *ℤ (d *ℤ pos l +ℤ v) -ℤ (b *ℤ pos k +ℤ t) *ℤ (c *ℤ pos l +ℤ u)
      ≡ (pos k *ℤ pos l) *ℤ (a *ℤ d -ℤ b *ℤ c) +ℤ ((a *ℤ pos k) *ℤ v +ℤ (d *ℤ pos l) *ℤ s +ℤ s *ℤ v -ℤ (b *ℤ pos k) *ℤ u -ℤ
      (c *ℤ pos l) *ℤ t -ℤ t *ℤ u)
  expanded =
      solve 10 (λ a b c d s t u v k l. (a ⊗ k ⊕ s) ⊗ (d ⊗ l ⊕ v) ⊖ (b ⊗ k ⊕ t) ⊗ (c ⊗ l ⊕ u) ≈ (k ⊗ l) ⊗ (a ⊗ d ⊖ b ⊗ c) ⊕
      ((a ⊗ k) ⊗ v ⊕ (d ⊗ l) ⊗ s ⊕ s ⊗ v ⊖ (b ⊗ k) ⊗ u ⊖ (c ⊗ l) ⊗ t ⊖ t ⊗ u)) cancels a b c d s t u v (pos k) (pos l)

  sizes : unsigned_abs ((a *ℤ pos k) *ℤ v +ℤ (d *ℤ pos l) *ℤ s +ℤ s *ℤ v -ℤ (b *ℤ pos k) *ℤ u -ℤ (c *ℤ pos l) *ℤ t -ℤ t *ℤ u)
      ≤ (k * l) * (unsigned_abs a + unsigned_abs b + unsigned_abs c + unsigned_abs d + 2)
  sizes =
      let av : Small (unsigned_abs a * (k * l)) ((a *ℤ pos k) *ℤ v) = record { small = part_size a v k l vl } in
      let ds : Small (unsigned_abs d * (l * k)) ((d *ℤ pos l) *ℤ s) = record { small = part_size d s l k sk } in
      let sv : Small (k * l) (s *ℤ v) = record { small = both_size s v k l sk vl } in
      let bu : Small (unsigned_abs b * (k * l)) ((b *ℤ pos k) *ℤ u) = record { small = part_size b u k l ul } in
      let ct : Small (unsigned_abs c * (l * k)) ((c *ℤ pos l) *ℤ t) = record { small = part_size c t l k tk } in
      let tu : Small (k * l) (t *ℤ u) = record { small = both_size t u k l tk ul } in
      let all = small_sub (small_sub (small_sub (small_add (small_add av ds) sv) bu) ct) tu in
      omega (arith, all.small)

  -- they turn to the left if (a, b) and (c, d) clearly do
  clear_left : 0 < k → 0 < l → pos (most_change a b c d) <ℤ turn_of a b c d →
      pos 0 <ℤ ((a *ℤ pos k +ℤ s) *ℤ (d *ℤ pos l +ℤ v) -ℤ (b *ℤ pos k +ℤ t) *ℤ (c *ℤ pos l +ℤ u))
  clear_left pk pl h =
      let n = unsigned_abs a + unsigned_abs b + unsigned_abs c + unsigned_abs d + 2 in
      let least = multiple_above (turn_of a b c d) n (k * l) h in
      let some : 1 * 1 ≤ k * l = mul-le-mul pk pl in
      omega (arith, ints, expanded, sizes, least, some)

-- ---- three points: (i, j), (i + a, j + b) and (i + c, j + d) are the floors of their coordinates
-- a remainder times the other weight, less the other way round
rest_size : (x y : ℤ) (m n : ℕ) → IsRemainder x (pos m) → IsRemainder y (pos n) → unsigned_abs (y *ℤ pos m -ℤ x *ℤ pos n) ≤ m * n
rest_size x y m n rx ry =
    let f : x ≤ℤ pos m = omega (arith, ints, rx.below) in let g : y ≤ℤ pos n = omega (arith, ints, ry.below) in
    let a = mul_le {c = pos m} (omega (arith, ints)) g in let b = nonneg_mul {a = pos m} (omega (arith, ints)) ry.at_least in
    let d = mul_le {c = pos n} (omega (arith, ints)) f in let e = nonneg_mul {a = pos n} (omega (arith, ints)) rx.at_least in
    omega (arith, ints, a, b, d, e)

-- the first weight times the determinant
weighed : (i j a b c d x y z w e f p q r : ℤ) → p *ℤ det3 (i *ℤ p +ℤ x) (j *ℤ p +ℤ y) p ((i +ℤ a) *ℤ q +ℤ z) ((j +ℤ b) *ℤ q +ℤ w) q
    ((i +ℤ c) *ℤ r +ℤ e) ((j +ℤ d) *ℤ r +ℤ f) r ≡ (a *ℤ (p *ℤ q) +ℤ (z *ℤ p -ℤ x *ℤ q)) *ℤ (d *ℤ (p *ℤ r) +ℤ (f *ℤ p -ℤ y *ℤ r)) -ℤ
    (b *ℤ (p *ℤ q) +ℤ (w *ℤ p -ℤ y *ℤ q)) *ℤ (c *ℤ (p *ℤ r) +ℤ (e *ℤ p -ℤ x *ℤ r))
weighed =
    solve 15 (λ i j a b c d x y z w e f p q r. p ⊗ ((i ⊗ p ⊕ x) ⊗ (((j ⊕ b) ⊗ q ⊕ w) ⊗ r ⊖ q ⊗ ((j ⊕ d) ⊗ r ⊕ f)) ⊖
    (j ⊗ p ⊕ y) ⊗ (((i ⊕ a) ⊗ q ⊕ z) ⊗ r ⊖ q ⊗ ((i ⊕ c) ⊗ r ⊕ e)) ⊕ p ⊗ (((i ⊕ a) ⊗ q ⊕ z) ⊗ ((j ⊕ d) ⊗ r ⊕ f) ⊖
    ((j ⊕ b) ⊗ q ⊕ w) ⊗ ((i ⊕ c) ⊗ r ⊕ e))) ≈ (a ⊗ (p ⊗ q) ⊕ (z ⊗ p ⊖ x ⊗ q)) ⊗ (d ⊗ (p ⊗ r) ⊕ (f ⊗ p ⊖ y ⊗ r)) ⊖
    (b ⊗ (p ⊗ q) ⊕ (w ⊗ p ⊖ y ⊗ q)) ⊗ (c ⊗ (p ⊗ r) ⊕ (e ⊗ p ⊖ x ⊗ r))) cancels

-- the determinant of three points, from their floors and remainders
abbrev pub det_of : (i j a b c d x y z w e f p q r : ℤ) → ℤ
det_of i j a b c d x y z w e f p q r =
    det3 (i *ℤ p +ℤ x) (j *ℤ p +ℤ y) p ((i +ℤ a) *ℤ q +ℤ z) ((j +ℤ b) *ℤ q +ℤ w) q ((i +ℤ c) *ℤ r +ℤ e) ((j +ℤ d) *ℤ r +ℤ f) r

positive_size : (p : ℤ) → pos 0 <ℤ p → (pos (unsigned_abs p) ≡ p) × (0 < unsigned_abs p)
positive_size p l = (omega (arith, ints, l), omega (arith, ints, l))

-- one that is clear to the left
clear_by_size : (i j a b c d x y z w e f : ℤ) (m n o : ℕ) → 0 < m → 0 < n → 0 < o → IsRemainder x (pos m) → IsRemainder y (pos m) →
    IsRemainder z (pos n) → IsRemainder w (pos n) → IsRemainder e (pos o) → IsRemainder f (pos o) →
    pos (most_change a b c d) <ℤ turn_of a b c d → pos 0 <ℤ det_of i j a b c d x y z w e f (pos m) (pos n) (pos o)
clear_by_size i j a b c d x y z w e f m n o pm pn po hx hy hz hw he hf l =
    let k : 0 < m * n = pos_product pm pn in let h : 0 < m * o = pos_product pm po in
    let g = clear_left a b c d (z *ℤ pos m -ℤ x *ℤ pos n) (w *ℤ pos m -ℤ y *ℤ pos n) (e *ℤ pos m -ℤ x *ℤ pos o) (f *ℤ pos m -ℤ y *ℤ pos o)
    (m * n) (m * o) (rest_size x z m n hx hz) (rest_size y w m n hy hw) (rest_size x e m o hx he) (rest_size y f m o hy hf) k h l in
    cancel_lt {c = pos m} (omega (arith, ints, pm))
    (omega (arith, linear, weighed i j a b c d x y z w e f (pos m) (pos n) (pos o), g))
  where
    pos_product : {s t : ℕ} → 0 < s → 0 < t → 0 < s * t
    pos_product {s} {t} ps pt = let q : 1 * 1 ≤ s * t = mul-le-mul ps pt in omega (arith, q)

module _ (i j a b c d x y z w e f p q r : ℤ) (pp : pos 0 <ℤ p) (pq : pos 0 <ℤ q) (pr : pos 0 <ℤ r) (hx : IsRemainder x p)
    (hy : IsRemainder y p) (hz : IsRemainder z q) (hw : IsRemainder w q) (he : IsRemainder e r) (hf : IsRemainder f r) where
  -- three points whose floors clearly turn to the left turn so
  pub clear_to_left : pos (most_change a b c d) <ℤ turn_of a b c d → pos 0 <ℤ det_of i j a b c d x y z w e f p q r
  clear_to_left l =
      let sp = positive_size p pp in let sq = positive_size q pq in let sr = positive_size r pr in
      let g = clear_by_size i j a b c d x y z w e f (unsigned_abs p) (unsigned_abs q) (unsigned_abs r) sp.1 sq.1 sr.1
      (subst (λ k. IsRemainder x k) (sym sp.0) hx) (subst (λ k. IsRemainder y k) (sym sp.0) hy)
      (subst (λ k. IsRemainder z k) (sym sq.0) hz) (subst (λ k. IsRemainder w k) (sym sq.0) hw)
      (subst (λ k. IsRemainder e k) (sym sr.0) he) (subst (λ k. IsRemainder f k) (sym sr.0) hf) l in
      rw (sp.0, sq.0, sr.0) at g

-- two rows exchanged
exchanged : (x y p z w q e f r : ℤ) → det3 x y p e f r z w q ≡ neg_ℤ (det3 x y p z w q e f r)
exchanged =
    solve 9 (λ x y p z w q e f r. x ⊗ (f ⊗ q ⊖ r ⊗ w) ⊖ y ⊗ (e ⊗ q ⊖ r ⊗ z) ⊕ p ⊗ (e ⊗ w ⊖ f ⊗ z) ≈
    neg (x ⊗ (w ⊗ r ⊖ q ⊗ f) ⊖ y ⊗ (z ⊗ r ⊖ q ⊗ e) ⊕ p ⊗ (z ⊗ f ⊖ w ⊗ e))) cancels

module _ (i j a b c d x y z w e f p q r : ℤ) (pp : pos 0 <ℤ p) (pq : pos 0 <ℤ q) (pr : pos 0 <ℤ r) (hx : IsRemainder x p)
    (hy : IsRemainder y p) (hz : IsRemainder z q) (hw : IsRemainder w q) (he : IsRemainder e r) (hf : IsRemainder f r) where
  -- and to the right
  pub clear_to_right : turn_of a b c d <ℤ neg_ℤ (pos (most_change a b c d)) → det_of i j a b c d x y z w e f p q r <ℤ pos 0
  clear_to_right l =
      let o : turn_of c d a b ≡ neg_ℤ (turn_of a b c d) = solve 4 (λ a b c d. c ⊗ b ⊖ d ⊗ a ≈ neg (a ⊗ d ⊖ b ⊗ c)) cancels a b c d in
      let h : pos (most_change c d a b) <ℤ turn_of c d a b = omega (arith, ints, o, l) in
      let g = clear_to_left i j c d a b x y e f z w p r q pp pr pq hx hy he hf hz hw h in
      let k = exchanged (i *ℤ p +ℤ x) (j *ℤ p +ℤ y) p ((i +ℤ a) *ℤ q +ℤ z) ((j +ℤ b) *ℤ q +ℤ w) q ((i +ℤ c) *ℤ r +ℤ e) ((j +ℤ d) *ℤ r +ℤ f) r in
      omega (arith, ints, g, k)
