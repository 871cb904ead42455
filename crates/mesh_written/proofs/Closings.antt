-- Closed triangles stay closed under a map of their corners to positions, without triangles of which two positions are
-- equal
use Rattle.std.proofs.Common.{◌≡◌, ◌⊎◌, inl, inr, ℕ, ◌+◌, Bool, true, false, cond, not, ◌||◌, List, [], ◌∷◌, map}
use Rattle.std.proofs.Common.{filter, ℤ, pos, ◌+ℤ◌, ◌-ℤ◌, neg_ℤ, refl, sym, ap, subst, ◌∙◌, arith}
use borrow.Author.Differences.{ints}
use Rattle.std.specs.List.{All}
use Rattle.std.proofs.lemmas.Bool.{and_parts, or_cases, eqb-true}
use Rattle.std.proofs.lemmas.List.Elements.{All-head, All-tail}
use Rattle.ember_algebra.specs.Sums.{total}
use Rattle.ember_algebra.proofs.Laws.{linear}
use Rattle.ember_algebra.proofs.Booleans.{and_swapped}
use Rattle.mesh_certificate.specs.declared.certificate.triangle.Triangle.{Triangle}
use Rattle.mesh_certificate.specs.Certificate.Certificate.{leads_round, edges_in}
use Rattle.mesh_certificate.proofs.Cancels.{closed_cancels}
use Rattle.mesh_written.specs.Closed.{AreRoundAndClosed, Positions, one_if_edge, edges_between, AreTrianglesClosed}

abbrev once : Bool → ℕ
once b = cond b 1 0

-- an edge is the one from q to p exactly if its reverse is the one from p to q
reversed_edge : {P : Type 0} (same : P → P → Bool) (p q u v : P) → one_if_edge same q p u v ≡ one_if_edge same p q v u
reversed_edge same p q u v = ap once (and_swapped (same q u) (same p v))

-- ---- triangles that vanish
-- two of its positions are equal
abbrev pub vanishing : {P : Type 0} → (P → P → Bool) → Positions P → Bool
vanishing same t = same t.a t.b || (same t.b t.c || same t.c t.a)

module _ {P : Type 0} (same : P → P → Bool) (sound : (x y : P) → same x y ≡ true → x ≡ y) where
  -- how many of the edges from a to b, to c and back to a run from p to q
  abbrev around : P → P → P → P → P → ℕ
  around p q a b c =
      one_if_edge same p q a b + (one_if_edge same p q b c + one_if_edge same p q c a)

  abbrev IsEven : P → P → P → Type 0
  IsEven a b c = (p q : P) → around p q a b c ≡ around q p a b c

  even_first : (a c : P) → IsEven a a c
  even_first a c p q =
      let x = reversed_edge same p q a a in
      let y = reversed_edge same p q a c in
      let z = reversed_edge same p q c a in
      omega (arith, x, y, z)

  even_second : (a b : P) → IsEven a b b
  even_second a b p q =
      let x = reversed_edge same p q a b in
      let y = reversed_edge same p q b b in
      let z = reversed_edge same p q b a in
      omega (arith, x, y, z)

  even_third : (a b : P) → IsEven a b a
  even_third a b p q =
      let x = reversed_edge same p q a b in
      let y = reversed_edge same p q b a in
      let z = reversed_edge same p q a a in
      omega (arith, x, y, z)

  even : (a b c : P) → (same a b || (same b c || same c a)) ≡ true → IsEven a b c
  even a b c h = first (or_cases (same a b) (same b c || same c a) h)
    where
      second : (same b c ≡ true) ⊎ (same c a ≡ true) → IsEven a b c
      second (inl e) = subst (λ (d : P). IsEven a b d) (sound b c e) (even_second a b)
      second (inr e) = subst (λ (d : P). IsEven a b d) (sym (sound c a e)) (even_third a b)

      first : (same a b ≡ true) ⊎ ((same b c || same c a) ≡ true) → IsEven a b c
      first (inl e) = subst (λ (d : P). IsEven a d c) (sound a b e) (even_first a c)
      first (inr e) = second (or_cases (same b c) (same c a) e)

  -- without triangles that vanish the surplus of each edge is the same
  module _ {T : Type 0} (f : T → Positions P) (gone : T → Bool) (vanish : (t : T) → gone t ≡ true → vanishing same (f t) ≡ true) where
    abbrev others : List T → List T
    others ts = filter (λ t. not (gone t)) ts

    pub same_surplus : (p q : P) (ts : List T) →
        edges_between same p q (map f ts) + edges_between same q p (map f (others ts)) ≡ edges_between same q p (map f ts)
        + edges_between same p q (map f (others ts))
    same_surplus p q [] = refl
    same_surplus p q (t ∷ ts) = by (gone t) refl (same_surplus p q ts)
      where
        by : (b : Bool) → gone t ≡ b → edges_between same p q (map f ts)
            + edges_between same q p (map f (others ts)) ≡ edges_between same q p (map f ts)
            + edges_between same p q (map f (others ts)) →
            edges_between same p q (f t ∷ map f ts)
            + edges_between same q p (map f (cond (not b) (t ∷ others ts) (others ts))) ≡ edges_between same q p
            (f t ∷ map f ts) + edges_between same p q (map f (cond (not b) (t ∷ others ts) (others ts)))
        by true h r =
            let u = f t in let e = even u.a u.b u.c (vanish t h) p q in omega (arith, r, e)
        by false h r = omega (arith, r)

-- ---- all triangles under a map
-- each edge ends where the next one starts
record EndsMeet (t : Triangle) : Type 0 where
  first : t.first.end ≡ t.second.start
  second : t.second.end ≡ t.third.start
  third : t.third.end ≡ t.first.start

ends_meet : (t : Triangle) → leads_round t ≡ true → EndsMeet t
ends_meet t h =
    let p = and_parts _ _ h in
    let q = and_parts _ _ p.1 in
    record {
      first = eqb-true t.first.end t.second.start p.0;
      second = eqb-true t.second.end t.third.start q.0;
      third = eqb-true t.third.end t.first.start q.1;
    }

-- the triangle with each corner at its position
abbrev pub at_positions : {P : Type 0} → (ℕ → P) → Triangle → Positions P
at_positions position t =
    record { a = position t.first.start; b = position t.second.start; c = position t.third.start }

opposite : (x y : ℤ) → x -ℤ y ≡ neg_ℤ (y -ℤ x)
opposite x y = omega (arith, linear)

-- a difference of sums is the sum of the differences
differences : (i j k l m n x y : ℕ) → pos (i + (j + (k + x))) -ℤ pos (l + (m + (n + y))) ≡ (pos i -ℤ pos l) +ℤ
    ((pos j -ℤ pos m) +ℤ ((pos k -ℤ pos n) +ℤ (pos x -ℤ pos y)))
differences i j k l m n x y = omega (arith, ints, linear)

equal_from : (x y : ℕ) → pos x -ℤ pos y ≡ pos 0 → x ≡ y
equal_from x y e = omega (arith, ints, e)

module _ {P : Type 0} (same : P → P → Bool) (position : ℕ → P) where
  -- 1 if the edge between two corners is the one from p to q, less 1 if it is the reverse
  abbrev surplus : P → P → ℕ → ℕ → ℤ
  surplus p q u v =
      pos (one_if_edge same p q (position u) (position v)) -ℤ pos (one_if_edge same q p (position u) (position v))

  surplus_is_odd : (p q : P) (u v : ℕ) → surplus p q v u ≡ neg_ℤ (surplus p q u v)
  surplus_is_odd p q u v =
      let there = one_if_edge same p q (position u) (position v) in
      let back = one_if_edge same q p (position u) (position v) in
      let e = reversed_edge same p q (position u) (position v) in
      let f = reversed_edge same p q (position v) (position u) in
      let turned : surplus p q v u ≡ pos back -ℤ pos there = λ i. pos (sym e i) -ℤ pos (f i) in
      turned ∙ opposite (pos back) (pos there)

  -- the surplus of the images is that of the edges, all together
  surplus_of_images : (p q : P) (ts : List Triangle) → All (λ t. leads_round t ≡ true) ts →
      pos (edges_between same p q (map (at_positions position) ts)) -ℤ pos
      (edges_between same q p (map (at_positions position) ts)) ≡ total (λ s. surplus p q s.start s.end) (edges_in ts)
  surplus_of_images p q [] h = refl
  surplus_of_images p q (t ∷ ts) h =
      let meet = ends_meet t (All-head (λ t. leads_round t ≡ true) t ts h) in
      let rest = surplus_of_images p q ts (All-tail (λ t. leads_round t ≡ true) t ts h) in
      let u = position t.first.start in
      let v = position t.second.start in
      let w = position t.third.start in
      let images = map (at_positions position) ts in
      let x = ap (λ (end : ℕ). surplus p q t.first.start end) (sym meet.first) in
      let y = ap (λ (end : ℕ). surplus p q t.second.start end) (sym meet.second) in
      let z = ap (λ (end : ℕ). surplus p q t.third.start end) (sym meet.third) in
      differences (one_if_edge same p q u v) (one_if_edge same p q v w) (one_if_edge same p q w u)
      (one_if_edge same q p u v) (one_if_edge same q p v w) (one_if_edge same q p w u) (edges_between same p q images)
      (edges_between same q p images)
      ∙ (λ i. x i +ℤ (y i +ℤ (z i +ℤ rest i)))

  images_are_even : (p q : P) (ts : List Triangle) → AreRoundAndClosed ts →
      edges_between same p q (map (at_positions position) ts) ≡ edges_between same q p (map (at_positions position) ts)
  images_are_even p q ts h =
      let images = map (at_positions position) ts in
      let sum = surplus_of_images p q ts h.round in
      let none = closed_cancels (surplus p q) (surplus_is_odd p q) (edges_in ts) h.closed in
      equal_from (edges_between same p q images) (edges_between same q p images) (sum ∙ none)

  -- the law, of the triangles that aren't gone; each triangle that is gone has two equal positions
  pub map_keeps_closed : ((x y : P) → same x y ≡ true → x ≡ y) → (gone : Triangle → Bool) →
      ((t : Triangle) → gone t ≡ true → vanishing same (at_positions position t) ≡ true) → (ts : List Triangle) →
      AreRoundAndClosed ts → AreTrianglesClosed same (map (at_positions position) (filter (λ t. not (gone t)) ts))
  map_keeps_closed sound gone vanish ts h = record {
    each = λ p q.
        let all = images_are_even p q ts h in
        let rest = same_surplus same sound (at_positions position) gone vanish p q ts in
        omega (arith, all, rest);
  }
