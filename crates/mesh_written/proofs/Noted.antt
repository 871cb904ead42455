-- Edges that were noted, and one more
use Rattle.std.proofs.Common.{◌≡◌, ◌⊎◌, inl, inr, ℕ, ◌+◌, ◌<◌, ◌≤◌, Bool, true, false, true≢false, cond, not, ◌||◌}
use Rattle.std.proofs.Common.{nat_lt, List, [], ◌∷◌, ◌++◌, Result, Ok, Err, OnOk, refl, sym, ap, subst, ◌∙◌, arith}
use Rattle.std.proofs.lemmas.Bool.{and_parts, and_from, cases_lt, lt-ltb, le-ltb, eqb-true, eq-eqb}
use Rattle.ember_algebra.specs.Sums.{occurrences}
use Rattle.ember_algebra.proofs.Sums.{IsEquality, occurrences-append}
use Rattle.mesh_written.specs.declared.shared.EdgeKey.{EdgeKey}
use Rattle.mesh_written.specs.declared.shared_by_index.IndexEdge.{IndexEdge}
use Rattle.mesh_written.specs.Shared.{same_ends, same_edge, has_key, with_key, one_above, AreNoted}

-- ---- results
-- what follows from two facts about an Ok
pub on_ok_both : {X E : Type 0} {P Q R : Type 0} (r : Result X E) → OnOk r P → OnOk r Q → (P → Q → R) → OnOk r R
on_ok_both (Ok x) p q f = f p q
on_ok_both (Err e) p q f = tt

pub on_ok_then : {X E : Type 0} {P R : Type 0} (r : Result X E) → OnOk r P → (P → R) → OnOk r R
on_ok_then (Ok x) p f = f p
on_ok_then (Err e) p f = tt

-- ---- keys
one_key : (k l : EdgeKey) → same_ends k l ≡ true → k ≡ l
one_key k l h =
    let a = and_parts _ _ h in
    let b = and_parts _ _ a.1 in
    let c = and_parts _ _ b.1 in
    let d = and_parts _ _ c.1 in
    let e = and_parts _ _ d.1 in
    let from_x = eqb-true k.from_x l.from_x a.0 in
    let from_y = eqb-true k.from_y l.from_y b.0 in
    let from_z = eqb-true k.from_z l.from_z c.0 in
    let to_x = eqb-true k.to_x l.to_x d.0 in
    let to_y = eqb-true k.to_y l.to_y e.0 in
    let to_z = eqb-true k.to_z l.to_z e.1 in
    λ i. record { from_x = from_x i; from_y = from_y i; from_z = from_z i; to_x = to_x i; to_y = to_y i; to_z = to_z i }

pub keys_are_equal : IsEquality EdgeKey same_ends
keys_are_equal = record {
  sound = one_key;
  reflexive = λ k. and_from _ _ (eq-eqb k.from_x k.from_x refl)
      (and_from _ _ (eq-eqb k.from_y k.from_y refl)
      (and_from _ _ (eq-eqb k.from_z k.from_z refl)
      (and_from _ _ (eq-eqb k.to_x k.to_x refl) (and_from _ _ (eq-eqb k.to_y k.to_y refl) (eq-eqb k.to_z k.to_z refl)))));
}

one_edge : (e f : IndexEdge) → same_edge e f ≡ true → e ≡ f
one_edge e f h =
    let both = and_parts _ _ h in
    let from = eqb-true e.from f.from both.0 in
    let to = eqb-true e.to f.to both.1 in
    λ i. record { from = from i; to = to i }

pub index_edges_are_equal : IsEquality IndexEdge same_edge
index_edges_are_equal = record {
  sound = one_edge;
  reflexive = λ e. and_from _ _ (eq-eqb e.from e.from refl) (eq-eqb e.to e.to refl);
}

-- ---- numbers above others
abbrev pub once_if : Bool → ℕ
once_if b = cond b 1 0

above : (m n : ℕ) → m < n → one_above m n ≡ 1
above m n l = ap once_if (lt-ltb m n l)

not_above : (m n : ℕ) → n ≤ m → one_above m n ≡ 0
not_above m n l = ap once_if (le-ltb m n l)

-- a number that isn't there doesn't occur
none_of : (m n : ℕ) → m ≡ one_above 0 n → nat_lt 0 m ≡ false → (m ≡ 0) × (n ≡ 0)
none_of m n e f = by (cases_lt 0 n)
  where
    by : (0 < n) ⊎ (n ≤ 0) → (m ≡ 0) × (n ≡ 0)
    by (inl l) = let one = above 0 n l in absurd (true≢false (sym (lt-ltb 0 m (omega (arith, e, one))) ∙ f))
    by (inr l) = let zero = not_above 0 n l in (omega (arith, e, zero), omega (arith, l))

some_of : (m n : ℕ) → m ≡ one_above 0 n → nat_lt 0 m ≡ true → (m ≡ 1) × (0 < n)
some_of m n e f = by (cases_lt 0 n)
  where
    by : (0 < n) ⊎ (n ≤ 0) → (m ≡ 1) × (0 < n)
    by (inl l) = let one = above 0 n l in (omega (arith, e, one), l)
    by (inr l) =
        let zero = not_above 0 n l in absurd (true≢false (sym f ∙ le-ltb 0 m (omega (arith, e, zero))))

absent : (n : ℕ) → nat_lt 0 n ≡ false → n ≡ 0
absent n g = by (cases_lt 0 n)
  where
    by : (0 < n) ⊎ (n ≤ 0) → n ≡ 0
    by (inl l) = absurd (true≢false (sym (lt-ltb 0 n l) ∙ g))
    by (inr l) = omega (arith, l)

present : (m n : ℕ) → m ≡ one_above 1 n → nat_lt 0 m ≡ true → m ≡ 1
present m n e g = by (cases_lt 1 n)
  where
    by : (1 < n) ⊎ (n ≤ 1) → m ≡ 1
    by (inl l) = let one = above 1 n l in omega (arith, e, one)
    by (inr l) =
        let zero = not_above 1 n l in absurd (true≢false (sym g ∙ le-ltb 0 m (omega (arith, e, zero))))

-- ---- keys that are noted
module _ {K : Type 0} (same_key : K → K → Bool) (equality : IsEquality K same_key) where
  abbrev occ : K → List K → ℕ
  occ k keys = occurrences same_key k keys

  -- a key occurs once more in a list with one more
  grown : (e k : K) (keys : List K) → occ e (keys ++ k ∷ []) ≡ occ e keys + once_if (same_key e k)
  grown e k keys = let a = occurrences-append same_key e keys (k ∷ []) in omega (arith, a)

  -- a list has a key if the key occurs in it
  has_if_occurs : (k : K) (keys : List K) → has_key same_key keys k ≡ nat_lt 0 (occ k keys)
  has_if_occurs k [] = refl
  has_if_occurs k (l ∷ keys) = by (same_key k l) (has_if_occurs k keys)
    where
      by : (b : Bool) → has_key same_key keys k ≡ nat_lt 0 (occ k keys) → (b || has_key same_key keys k) ≡ nat_lt 0 (once_if b + occ k keys)
      by true r = sym (lt-ltb 0 (1 + occ k keys) (omega arith))
      by false r = let e : occ k keys ≡ 0 + occ k keys = omega arith in r ∙ ap (λ (n : ℕ). nat_lt 0 n) e

  -- one more key
  module _ (keys once again : List K) (k : K) (h : AreNoted same_key keys once again) where
    -- what stays the same for another key
    same_else : (m : ℕ) (list : List K) (e : K) → occ e list ≡ one_above m (occ e keys) → same_key e k ≡ false →
        occ e list ≡ one_above m (occ e (keys ++ k ∷ []))
    same_else m list e old f =
        let more = grown e k keys in
        let none : once_if (same_key e k) ≡ 0 = ap once_if f in
        let equal : occ e keys ≡ occ e (keys ++ k ∷ []) = omega (arith, more, none) in
        old ∙ ap (one_above m) equal

    grown_else : (list : List K) (e : K) → same_key e k ≡ false → occ e (list ++ k ∷ []) ≡ occ e list
    grown_else list e f =
        let more = grown e k list in
        let none : once_if (same_key e k) ≡ 0 = ap once_if f in
        omega (arith, more, none)

    -- the key itself, where it occurs n times
    here : (m count : ℕ) (list : List K) → occ k list ≡ count → one_above m (occ k keys + 1) ≡ count → occ k list ≡ one_above m (occ k (keys ++ k ∷ []))
    here m count list a b =
        let more = grown k k keys in
        let own : once_if (same_key k k) ≡ 1 = ap once_if (equality.reflexive k) in
        let equal : occ k keys + 1 ≡ occ k (keys ++ k ∷ []) = omega (arith, more, own) in
        a ∙ sym b ∙ ap (one_above m) equal

    grown_here : (list : List K) → occ k (list ++ k ∷ []) ≡ occ k list + 1
    grown_here list =
        let more = grown k k list in
        let own : once_if (same_key k k) ≡ 1 = ap once_if (equality.reflexive k) in
        omega (arith, more, own)

    -- what holds of the key and of all others holds of each
    each_key : (P : K → Type 0) → P k → ((e : K) → same_key e k ≡ false → P e) → (e : K) → P e
    each_key P own else e = by (same_key e k) refl
      where
        by : (b : Bool) → same_key e k ≡ b → P e
        by true t = subst P (sym (equality.sound e k t)) own
        by false f = else e f

    -- a key that is new
    noted_new : has_key same_key once k ≡ false → AreNoted same_key (keys ++ k ∷ []) (once ++ k ∷ []) again
    noted_new f =
        let none = none_of (occ k once) (occ k keys) (h.all k) (sym (has_if_occurs k once) ∙ f) in
        record {
          all = each_key (λ e. occ e (once ++ k ∷ []) ≡ one_above 0 (occ e (keys ++ k ∷ [])))
              (let added = grown_here once in here 0 1 (once ++ k ∷ []) (omega (arith, added, none.0)) (above 0 (occ k keys + 1) (omega arith)))
              (λ e g. grown_else once e g ∙ same_else 0 once e (h.all e) g);
          repeated = each_key (λ e. occ e again ≡ one_above 1 (occ e (keys ++ k ∷ [])))
              (here 1 0 again (h.repeated k ∙ not_above 1 (occ k keys) (omega (arith, none.1))) (not_above 1 (occ k keys + 1) (omega (arith, none.1))))
              (λ e g. same_else 1 again e (h.repeated e) g);
        }

    -- a key that was there: the list of those that occur again is without it, or has it
    all_again : has_key same_key once k ≡ true → (e : K) → occ e once ≡ one_above 0 (occ e (keys ++ k ∷ []))
    all_again t =
        let some = some_of (occ k once) (occ k keys) (h.all k) (sym (has_if_occurs k once) ∙ t) in
        each_key (λ e. occ e once ≡ one_above 0 (occ e (keys ++ k ∷ [])))
        (here 0 1 once some.0 (above 0 (occ k keys + 1) (omega arith)))
        (λ e g. same_else 0 once e (h.all e) g)

    noted_first_time : has_key same_key once k ≡ true → has_key same_key again k ≡ false → AreNoted same_key (keys ++ k ∷ []) once (again ++ k ∷ [])
    noted_first_time t f =
        let some = some_of (occ k once) (occ k keys) (h.all k) (sym (has_if_occurs k once) ∙ t) in
        let none : occ k again ≡ 0 = absent (occ k again) (sym (has_if_occurs k again) ∙ f) in
        let added = grown_here again in
        record {
          all = all_again t;
          repeated = each_key (λ e. occ e (again ++ k ∷ []) ≡ one_above 1 (occ e (keys ++ k ∷ [])))
              (here 1 1 (again ++ k ∷ []) (omega (arith, added, none)) (above 1 (occ k keys + 1) (omega (arith, some.1))))
              (λ e g. grown_else again e g ∙ same_else 1 again e (h.repeated e) g);
        }

    noted_later : has_key same_key once k ≡ true → has_key same_key again k ≡ true → AreNoted same_key (keys ++ k ∷ []) once again
    noted_later t s =
        let some = some_of (occ k once) (occ k keys) (h.all k) (sym (has_if_occurs k once) ∙ t) in
        let one : occ k again ≡ 1 = present (occ k again) (occ k keys) (h.repeated k) (sym (has_if_occurs k again) ∙ s) in
        record {
          all = all_again t;
          repeated = each_key (λ e. occ e again ≡ one_above 1 (occ e (keys ++ k ∷ [])))
              (here 1 1 again one (above 1 (occ k keys + 1) (omega (arith, some.1))))
              (λ e g. same_else 1 again e (h.repeated e) g);
        }

  -- the steps of the code
  -- a key that is new
  pub add_new : (keys once after again : List K) (k : K) (new : Bool) → after ≡ with_key same_key once k →
      new ≡ not (has_key same_key once k) → new ≡ true → AreNoted same_key keys once again →
      AreNoted same_key (keys ++ k ∷ []) after again
  add_new keys once after again k new put is told h = by (has_key same_key once k) refl put is
    where
      by : (b : Bool) → has_key same_key once k ≡ b → after ≡ cond b once (once ++ k ∷ []) → new ≡ not b → AreNoted same_key (keys ++ k ∷ []) after again
      by true e p n = absurd (true≢false (sym told ∙ n))
      by false e p n =
          subst (λ (list : List K). AreNoted same_key (keys ++ k ∷ []) list again) (sym p) (noted_new keys once again k h e)

  -- a key that was there
  pub add_old : (keys once after last again more : List K) (k : K) (new : Bool) → after ≡ with_key same_key once k →
      new ≡ not (has_key same_key once k) → new ≡ false → last ≡ after → more ≡ with_key same_key again k →
      AreNoted same_key keys once again → AreNoted same_key (keys ++ k ∷ []) last more
  add_old keys once after last again more k new put is told same again_is h =
      by (has_key same_key once k) (has_key same_key again k) refl refl put is again_is
    where
      by : (b c : Bool) → has_key same_key once k ≡ b → has_key same_key again k ≡ c →
          after ≡ cond b once (once ++ k ∷ []) → new ≡ not b → more ≡ cond c again (again ++ k ∷ []) →
          AreNoted same_key (keys ++ k ∷ []) last more
      by false c e f p n m = absurd (true≢false (sym n ∙ told))
      by true true e f p n m =
          subst (λ (list : List K). AreNoted same_key (keys ++ k ∷ []) list more) (sym (same ∙ p))
          (subst (λ (list : List K). AreNoted same_key (keys ++ k ∷ []) once list) (sym m) (noted_later keys once again k h e f))
      by true false e f p n m =
          subst (λ (list : List K). AreNoted same_key (keys ++ k ∷ []) list more) (sym (same ∙ p))
          (subst (λ (list : List K). AreNoted same_key (keys ++ k ∷ []) once list) (sym m) (noted_first_time keys once again k h e f))
