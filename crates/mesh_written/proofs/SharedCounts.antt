-- The edges that are noted, triangle by triangle, and how often each occurs among them
use Rattle.std.proofs.Common.{◌≡◌, ◌⊎◌, inl, inr, ℕ, ◌+◌, ◌<◌, ◌≤◌, Bool, true, false, cond, ◌&&◌, nat_eq, nat_lt, List}
use Rattle.std.proofs.Common.{[], ◌∷◌, ◌++◌, map, length, take, get_or, refl, sym, ap, subst, ◌∙◌, arith, append_assoc}
use Rattle.std.proofs.lemmas.Bool.{and_parts, eqb-true, cases_lt, lt-ltb, le-ltb}
use Rattle.std.proofs.lemmas.List.{append-nil, map-append, take_more, take_all}
use Rattle.ember_algebra.specs.Sums.{occurrences}
use Rattle.ember_algebra.proofs.Sums.{IsEquality, occurrences-append}
use Rattle.mesh_written.specs.Triangles.{same_point}
use Rattle.mesh_written.specs.Closed.{Positions, one_if_edge, edges_between, AreTrianglesClosed}
use Rattle.mesh_written.specs.Shared.{key_between, same_ends, index_edge, same_edge, is_shared, IsCountOfShared, rising, rising_edges, one_above, AreNoted}
use Rattle.mesh_written.proofs.WrittenClosed.{one_point}
use Rattle.mesh_written.proofs.Noted.{once_if, keys_are_equal, index_edges_are_equal}

-- ---- edges that are noted
module _ {P K : Type 0} (lower : P → P → Bool) (key : P → P → K) (same_key : K → K → Bool) where
  abbrev rises : P → P → List K
  rises p q = rising lower key p q

  abbrev edges : List (Positions P) → List K
  edges ts = rising_edges lower key ts

  -- before the first
  pub noted_none : {once again : List K} → once ≡ [] → again ≡ [] → AreNoted same_key [] once again
  noted_none a b = record { all = λ k. ap (occurrences same_key k) a; repeated = λ k. ap (occurrences same_key k) b }

  module _ (p q : P) (keys once again : List K) where
    -- an edge whose start comes before its end
    pub noted_rising : (k : K) → lower p q ≡ true → k ≡ key p q → AreNoted same_key (keys ++ k ∷ []) once again →
        AreNoted same_key (keys ++ rises p q) once again
    noted_rising k is_lower e h =
        let one : rises p q ≡ key p q ∷ [] = ap (λ (b : Bool). cond b (key p q ∷ []) []) is_lower in
        let same : k ∷ [] ≡ rises p q = ap (λ (l : K). l ∷ []) e ∙ sym one in
        subst (λ (more : List K). AreNoted same_key (keys ++ more) once again) same h

    -- another one isn't noted
    pub noted_skipped : lower p q ≡ false → AreNoted same_key keys once again → AreNoted same_key (keys ++ rises p q) once again
    noted_skipped upper h =
        let none : rises p q ≡ [] = ap (λ (b : Bool). cond b (key p q ∷ []) []) upper in
        let same : keys ≡ keys ++ rises p q = sym (append-nil keys) ∙ sym (ap (λ (more : List K). keys ++ more) none) in
        subst (λ (all : List K). AreNoted same_key all once again) same h

  -- the three edges of a triangle
  pub noted_triangle : (t : Positions P) (keys : List K) {once again : List K} →
      AreNoted same_key (((keys ++ rises t.a t.b) ++ rises t.b t.c) ++ rises t.c t.a) once again →
      AreNoted same_key (keys ++ edges (t ∷ [])) once again
  noted_triangle t keys {once} {again} h =
      let x = rises t.a t.b in
      let y = rises t.b t.c in
      let z = rises t.c t.a in
      let ended = ap (λ (more : List K). keys ++ (x ++ (y ++ more))) (sym (append-nil z)) in
      let same = append_assoc (keys ++ x) y z ∙ append_assoc keys x (y ++ z) ∙ ended in
      subst (λ (all : List K). AreNoted same_key all once again) same h

  edges-append : (ts us : List (Positions P)) → edges (ts ++ us) ≡ edges ts ++ edges us
  edges-append [] us = refl
  edges-append (t ∷ ts) us =
      let x = rises t.a t.b in
      let y = rises t.b t.c in
      let z = rises t.c t.a in
      let rest = ap (λ (more : List K). x ++ (y ++ (z ++ more))) (edges-append ts us) in
      let first = sym (append_assoc z (edges ts) (edges us)) in
      let second = sym (append_assoc y (z ++ edges ts) (edges us)) in
      let third = sym (append_assoc x (y ++ (z ++ edges ts)) (edges us)) in
      rest ∙ ap (λ (more : List K). x ++ (y ++ more)) first ∙ ap (λ (more : List K). x ++ more) second ∙ third

  -- those of one triangle more, where `f` gives the positions of a triangle
  pub noted_next : {T : Type 0} (f : T → Positions P) (ts : List T) (i : ℕ) (d : T) {once again : List K} →
      i < length ts → AreNoted same_key (edges (map f (take i ts)) ++ edges (f (get_or ts i d) ∷ [])) once again →
      AreNoted same_key (edges (map f (take (i + 1) ts))) once again
  noted_next {T} f ts i d {once} {again} l h =
      let mapped = ap (map f) (take_more ts i d l) ∙ map-append f (take i ts) (get_or ts i d ∷ []) in
      let same = ap (λ (us : List (Positions P)). edges us) mapped ∙ edges-append (map f (take i ts)) (f (get_or ts i d) ∷ []) in
      subst (λ (all : List K). AreNoted same_key all once again) (sym same) h

-- ---- keys of edges
-- keys are equal if the ends of the edges are
pub record AreKeys {P K : Type 0} (same : P → P → Bool) (key : P → P → K) (same_key : K → K → Bool) : Type 0 where
  pub sound : (p q : P) → same p q ≡ true → p ≡ q
  pub equality : IsEquality K same_key
  pub by_ends : (p q u v : P) → same_key (key p q) (key u v) ≡ same p u && same q v

regrouped : (a b c x : Bool) → (a && (b && c)) && x ≡ a && (b && (c && x))
regrouped true true true x = refl
regrouped true true false x = refl
regrouped true false c x = refl
regrouped false b c x = refl

pub float_keys : AreKeys same_point key_between same_ends
float_keys = record {
  sound = one_point;
  equality = keys_are_equal;
  by_ends = λ p q u v. sym (regrouped (nat_eq p.x u.x) (nat_eq p.y u.y) (nat_eq p.z u.z) (same_point q v));
}

pub index_keys : AreKeys nat_eq index_edge same_edge
index_keys = record {
  sound = λ p q h. eqb-true p q h;
  equality = index_edges_are_equal;
  by_ends = λ p q u v. refl;
}

-- ---- how often an edge occurs among those that rise
none_either : (b : Bool) → ◌≡◌ {A = ℕ} 0 (cond b 0 0)
none_either true = refl
none_either false = refl

summed : (b : Bool) (i j k n : ℕ) → cond b i 0 + (cond b j 0 + (cond b k 0 + cond b n 0)) ≡ cond b (i + (j + (k + n))) 0
summed true i j k n = refl
summed false i j k n = refl

doubled : (n : ℕ) → nat_lt 1 n ≡ nat_lt 2 (n + n)
doubled n = by (cases_lt 1 n)
  where
    by : (1 < n) ⊎ (n ≤ 1) → nat_lt 1 n ≡ nat_lt 2 (n + n)
    by (inl l) = lt-ltb 1 n l ∙ sym (lt-ltb 2 (n + n) (omega (arith, l)))
    by (inr l) = le-ltb 1 n l ∙ sym (le-ltb 2 (n + n) (omega (arith, l)))

module _ {P K : Type 0} (same lower : P → P → Bool) (key : P → P → K) (same_key : K → K → Bool) (keys : AreKeys same key same_key) where
  abbrev found : P → P → List K → ℕ
  found p q ks = occurrences same_key (key p q) ks

  abbrev rises_to : P → P → List K
  rises_to p q = rising lower key p q

  abbrev all_rising : List (Positions P) → List K
  all_rising ts = rising_edges lower key ts

  own_rising : (p q : P) → found p q (rises_to p q) ≡ cond (lower p q) 1 0
  own_rising p q = by (lower p q)
    where
      by : (b : Bool) → found p q (cond b (key p q ∷ []) []) ≡ cond b 1 0
      by true =
          let own : once_if (same_key (key p q) (key p q)) ≡ 1 = ap once_if (keys.equality.reflexive (key p q)) in
          omega (arith, own)
      by false = refl

  count_rising : (p q u v : P) → found p q (rises_to u v) ≡ cond (lower p q) (one_if_edge same p q u v) 0
  count_rising p q u v = by (same p u && same q v) refl
    where
      other : (b : Bool) → same_key (key p q) (key u v) ≡ false → found p q (cond b (key u v ∷ []) []) ≡ 0
      other true f =
          let none : once_if (same_key (key p q) (key u v)) ≡ 0 = ap once_if f in
          omega (arith, none)
      other false f = refl

      by : (b : Bool) → same p u && same q v ≡ b → found p q (rises_to u v) ≡ cond (lower p q) (cond b 1 0) 0
      by true e =
          let both = and_parts (same p u) (same q v) e in
          subst (λ (w : P). found p q (rises_to w v) ≡ cond (lower p q) 1 0) (keys.sound p u both.0)
          (subst (λ (w : P). found p q (rises_to p w) ≡ cond (lower p q) 1 0) (keys.sound q v both.1) (own_rising p q))
      by false e = other (lower u v) (keys.by_ends p q u v ∙ e) ∙ none_either (lower p q)

  count_all_rising : (p q : P) (ts : List (Positions P)) → found p q (all_rising ts) ≡ cond (lower p q) (edges_between same p q ts) 0
  count_all_rising p q [] = none_either (lower p q)
  count_all_rising p q (t ∷ ts) =
      let k = key p q in
      let x = rises_to t.a t.b in
      let y = rises_to t.b t.c in
      let z = rises_to t.c t.a in
      let first = occurrences-append same_key k x (y ++ (z ++ all_rising ts)) in
      let second = occurrences-append same_key k y (z ++ all_rising ts) in
      let third = occurrences-append same_key k z (all_rising ts) in
      let i = count_rising p q t.a t.b in
      let j = count_rising p q t.b t.c in
      let l = count_rising p q t.c t.a in
      let n = count_all_rising p q ts in
      let parts : occurrences same_key k (x ++ (y ++ (z ++ all_rising ts))) ≡ occurrences same_key k x
      + (occurrences same_key k y + (occurrences same_key k z + occurrences same_key k (all_rising ts))) =
      omega (arith, first, second, third) in
      parts ∙ (λ h. i h + (j h + (l h + n h))) ∙ summed (lower p q) (one_if_edge same p q t.a t.b)
      (one_if_edge same p q t.b t.c) (one_if_edge same p q t.c t.a) (edges_between same p q ts)

  -- an edge occurs again exactly if it rises and belongs to more than two triangles
  each_edge : (ts : List (Positions P)) {once again : List K} → AreNoted same_key (all_rising ts) once again →
      AreTrianglesClosed same ts → (p q : P) → found p q again ≡ cond (lower p q && is_shared same ts p q) 1 0
  each_edge ts noted closed p q =
      noted.repeated (key p q) ∙ ap (λ (n : ℕ). one_above 1 n) (count_all_rising p q ts) ∙ by (lower p q)
    where
      by : (b : Bool) → one_above 1 (cond b (edges_between same p q ts) 0) ≡ cond (b && is_shared same ts p q) 1 0
      by true =
          let there = edges_between same p q ts in
          let even : there ≡ edges_between same q p ts = closed.each p q in
          ap (λ (c : Bool). cond c 1 0) (doubled there ∙ ap (λ (n : ℕ). nat_lt 2 (there + n)) even)
      by false = refl

  -- the number of those that occur again is that of the edges of more than two triangles
  pub shared_counted : {T : Type 0} (f : T → Positions P) (ts : List T) (i : ℕ) {once again : List K} (count : ℕ) →
      length ts ≤ i → AreNoted same_key (all_rising (map f (take i ts))) once again → count ≡ length again →
      AreTrianglesClosed same (map f ts) → IsCountOfShared same lower key same_key (map f ts) count
  shared_counted {T} f ts i {once} {again} count l noted is closed =
      let all : AreNoted same_key (all_rising (map f ts)) once again =
      subst (λ (us : List T). AreNoted same_key (all_rising (map f us)) once again) (take_all i ts l) noted in
      record { listed = again; each = each_edge (map f ts) all closed; count_is = is }
