-- Systems of linear inequalities: each has a solution, or it has none. One unknown after another
-- is eliminated. Solutions may be multiplied by positive numbers, so integers are enough.
use Rattle.std.proofs.Common.{◌≡◌, ap, ◌⊎◌, inl, inr, ℕ, zero, suc, ◌∙◌, arith, List, [], ◌∷◌, ◌++◌, ℤ, pos, ◌+ℤ◌, ◌*ℤ◌, neg_ℤ, ◌≤ℤ◌, ◌<ℤ◌}
use Rattle.std.proofs.lemmas.Int.{by_lt_z}
use Rattle.ember_algebra.specs.Relations.{Every}
use lib.IntN.{zero-*ℤ}
use Rattle.ember_algebra.proofs.Laws.{linear, neg-*ℤ}
use Rattle.ember_algebra.proofs.Order.{by_sign, mul_le, nonneg_mul, cancel_le}
use Rattle.ember_algebra.proofs.Relations.{every_append}
use Rattle.ember_algebra.proofs.Ring.{◌⊕◌, ◌⊗◌, neg, num, ◌≈◌, solve, cancels}

-- ---- rows of n integers
abbrev pub Row : ℕ → Type 0
Row zero = Unit {0}
Row (suc n) = ℤ × Row n

abbrev pub dot : (n : ℕ) → Row n → Row n → ℤ
dot zero a x = pos 0
dot (suc n) a x = a.0 *ℤ x.0 +ℤ dot n a.1 x.1

abbrev times : (n : ℕ) → ℤ → Row n → Row n
times zero m a = tt
times (suc n) m a = (m *ℤ a.0, times n m a.1)

abbrev plus : (n : ℕ) → Row n → Row n → Row n
plus zero a b = tt
plus (suc n) a b = (a.0 +ℤ b.0, plus n a.1 b.1)

dot_times : (n : ℕ) (m : ℤ) (a x : Row n) → dot n a (times n m x) ≡ m *ℤ dot n a x
dot_times zero m a x = solve 1 (λ m. num (pos 0) ≈ m ⊗ num (pos 0)) cancels m
dot_times (suc n) m a x =
    let h = dot_times n m a.1 x.1 in
    omega (arith, linear, h, solve 4 (λ m a x d. a ⊗ (m ⊗ x) ⊕ m ⊗ d ≈ m ⊗ (a ⊗ x ⊕ d)) cancels m a.0 x.0 (dot n a.1 x.1))

times_dot : (n : ℕ) (m : ℤ) (a x : Row n) → dot n (times n m a) x ≡ m *ℤ dot n a x
times_dot zero m a x = solve 1 (λ m. num (pos 0) ≈ m ⊗ num (pos 0)) cancels m
times_dot (suc n) m a x =
    let h = times_dot n m a.1 x.1 in
    omega (arith, linear, h, solve 4 (λ m a x d. (m ⊗ a) ⊗ x ⊕ m ⊗ d ≈ m ⊗ (a ⊗ x ⊕ d)) cancels m a.0 x.0 (dot n a.1 x.1))

plus_dot : (n : ℕ) (a b x : Row n) → dot n (plus n a b) x ≡ dot n a x +ℤ dot n b x
plus_dot zero a b x = omega (arith, linear)
plus_dot (suc n) a b x =
    let h = plus_dot n a.1 b.1 x.1 in
    omega (arith, linear, h, solve 3 (λ a b x. (a ⊕ b) ⊗ x ≈ a ⊗ x ⊕ b ⊗ x) cancels a.0 b.0 x.0)

-- ---- inequalities
-- the row's value and the slack are at most 0
pub record Inequality (n : ℕ) : Type 0 where
  pub row : Row n
  pub slack : ℤ
  pub least : pos 0 ≤ℤ slack

abbrev side : (n : ℕ) → Inequality n → Row n → ℤ
side n b x = dot n b.row x +ℤ b.slack

pub record Solves (n : ℕ) (b : Inequality n) (x : Row n) : Type 0 where
  pub at_most : (dot n b.row x +ℤ b.slack) ≤ℤ pos 0

solves_times : (n : ℕ) (m : ℤ) (b : Inequality n) (x : Row n) → pos 1 ≤ℤ m → Solves n b x → Solves n b (times n m x)
solves_times n m b x l h =
    let p : pos 0 ≤ℤ m = omega (arith, linear, l) in let q = mul_le p h.at_most in let r = mul_le b.least l in let e = dot_times n m b.row x in
    record {
      at_most = omega (
        arith,
        linear,
        q,
        r,
        e,
        solve 3 (λ m d k. m ⊗ (d ⊕ k) ≈ m ⊗ d ⊕ k ⊗ m) cancels m (dot n b.row x) b.slack,
        solve 1 (λ k. k ⊗ num (pos 1) ≈ k) cancels b.slack,
        solve 1 (λ m. m ⊗ num (pos 0) ≈ num (pos 0)) cancels m,
      );
    }

-- ---- by the sign of the first unknown's factor
-- the factor, which is positive, and the rest
record Bound (n : ℕ) : Type 0 where
  by : ℤ
  positive : pos 0 <ℤ by
  rest : Inequality n

-- from above and from below
record Upper (n : ℕ) (u : Bound n) (x : ℤ) (xs : Row n) : Type 0 where
  holds : (u.by *ℤ x +ℤ side n u.rest xs) ≤ℤ pos 0

record Lower (n : ℕ) (l : Bound n) (x : ℤ) (xs : Row n) : Type 0 where
  holds : side n l.rest xs ≤ℤ (l.by *ℤ x)

-- what an upper and a lower bound say of the others
joined : (n : ℕ) → Bound n → Bound n → Inequality n
joined n u l =
    record {
      row = plus n (times n l.by u.rest.row) (times n u.by l.rest.row);
      slack =
          l.by *ℤ u.rest.slack +ℤ u.by *ℤ l.rest.slack;
      least =
          sum (nonneg_mul (weak l.positive) u.rest.least) (nonneg_mul (weak u.positive) l.rest.least);
    }
  where
    weak : {a : ℤ} → pos 0 <ℤ a → pos 0 ≤ℤ a
    weak p = omega (arith, linear, p)

    sum : {a b : ℤ} → pos 0 ≤ℤ a → pos 0 ≤ℤ b → pos 0 ≤ℤ (a +ℤ b)
    sum p q = omega (arith, linear, p, q)

joined_side : (n : ℕ) (u l : Bound n) (xs : Row n) → side n (joined n u l) xs ≡ l.by *ℤ side n u.rest xs +ℤ u.by *ℤ side n l.rest xs
unfolding joined
joined_side n u l xs =
    let e = plus_dot n (times n l.by u.rest.row) (times n u.by l.rest.row) xs in let f =
    times_dot n l.by u.rest.row xs in let g = times_dot n u.by l.rest.row xs in
    omega (
      arith,
      linear,
      e,
      f,
      g,
      solve 3 (λ m d k. m ⊗ (d ⊕ k) ≈ m ⊗ d ⊕ m ⊗ k) cancels l.by (dot n u.rest.row xs)
          u.rest.slack,
      solve 3 (λ m d k. m ⊗ (d ⊕ k) ≈ m ⊗ d ⊕ m ⊗ k) cancels u.by (dot n l.rest.row xs) l.rest.slack,
    )

joined_solves : (n : ℕ) (u l : Bound n) (x : ℤ) (xs : Row n) → Upper n u x xs → Lower n l x xs → Solves n (joined n u l) xs
joined_solves n u l x xs p q =
    let a = mul_le (weak l.positive) p.holds in let b = mul_le (weak u.positive) q.holds in let e = joined_side n u l xs in
    record {
      at_most = omega (
        arith,
        linear,
        a,
        b,
        e,
        solve 4 (λ m k x s. m ⊗ (k ⊗ x ⊕ s) ≈ k ⊗ (m ⊗ x) ⊕ m ⊗ s) cancels l.by u.by x (side n u.rest xs),
        solve 1 (λ m. m ⊗ num (pos 0) ≈ num (pos 0)) cancels l.by,
      );
    }
  where
    weak : {a : ℤ} → pos 0 <ℤ a → pos 0 ≤ℤ a
    weak p = omega (arith, linear, p)

-- each lower bound against each upper one
abbrev against : (n : ℕ) → List (Bound n) → Bound n → List (Inequality n)
against n [] l = []
against n (u ∷ us) l = joined n u l ∷ against n us l

abbrev all_joined : (n : ℕ) → List (Bound n) → List (Bound n) → List (Inequality n)
all_joined n us [] = []
all_joined n us (l ∷ ls) = against n us l ++ all_joined n us ls

against_solved : (n : ℕ) (us : List (Bound n)) (l : Bound n) (x : ℤ) (xs : Row n) → Every (λ u. Upper n u x xs) us →
    Lower n l x xs → Every (λ b. Solves n b xs) (against n us l)
against_solved n [] l x xs h q = tt
against_solved n (u ∷ us) l x xs h q = (joined_solves n u l x xs h.0 q, against_solved n us l x xs h.1 q)

all_joined_solved : (n : ℕ) (us ls : List (Bound n)) (x : ℤ) (xs : Row n) → Every (λ u. Upper n u x xs) us →
    Every (λ l. Lower n l x xs) ls → Every (λ b. Solves n b xs) (all_joined n us ls)
all_joined_solved n us [] x xs h k = tt
all_joined_solved n us (l ∷ ls) x xs h k =
    every_append (λ b. Solves n b xs) (against n us l) (all_joined n us ls) (against_solved n us l x xs h k.0) (all_joined_solved n us ls x xs h k.1)

-- what holds of each member of a joined list holds of each member of both parts
pub every_parts : {X : Type 0} (P : X → Type 0) (xs ys : List X) → Every P (xs ++ ys) → Every P xs × Every P ys
every_parts P [] ys h = (tt, h)
every_parts P (x ∷ xs) ys h = let k = every_parts P xs ys h.1 in ((h.0, k.0), k.1)

-- ---- back: the greatest lower bound is a value of the first unknown
-- one lower bound is below another
record Least (n : ℕ) (xs : Row n) (best l : Bound n) : Type 0 where
  holds : (side n l.rest xs *ℤ best.by) ≤ℤ (side n best.rest xs *ℤ l.by)

least_trans : (n : ℕ) (xs : Row n) (a b c : Bound n) → Least n xs a b → Least n xs b c → Least n xs a c
least_trans n xs a b c p q =
    let va = side n a.rest xs in let vb = side n b.rest xs in let vc = side n c.rest xs in
    let x = mul_le (weak c.positive) p.holds in let y = mul_le (weak a.positive) q.holds in
    record {
      holds = cancel_le b.positive (omega (
        arith,
        linear,
        x,
        y,
        solve 3 (λ v m k. m ⊗ (v ⊗ k) ≈ k ⊗ (v ⊗ m)) cancels vc a.by b.by,
        solve 3 (λ v m k. k ⊗ (v ⊗ m) ≈ m ⊗ (v ⊗ k)) cancels vb a.by c.by,
        solve 3 (λ v m k. k ⊗ (v ⊗ m) ≈ m ⊗ (v ⊗ k)) cancels va b.by c.by,
      ));
    }
  where
    weak : {a : ℤ} → pos 0 <ℤ a → pos 0 ≤ℤ a
    weak p = omega (arith, linear, p)

least_self : (n : ℕ) (xs : Row n) (a : Bound n) → Least n xs a a
least_self n xs a = record { holds = same (side n a.rest xs *ℤ a.by) }
  where
    same : (z : ℤ) → z ≤ℤ z
    same z = omega (arith, linear)

record Best (n : ℕ) (us ls : List (Bound n)) (xs : Row n) : Type 0 where
  best : Bound n
  below : Every (λ l. Least n xs best l) ls
  joins : Every (λ b. Solves n b xs) (against n us best)

least_all : (n : ℕ) (xs : Row n) (a b : Bound n) (ls : List (Bound n)) → Least n xs a b → Every (λ l. Least n xs b l) ls → Every (λ l. Least n xs a l) ls
least_all n xs a b [] p h = tt
least_all n xs a b (l ∷ ls) p h = (least_trans n xs a b l p h.0, least_all n xs a b ls p h.1)

better : (n : ℕ) (us : List (Bound n)) (l : Bound n) (ls : List (Bound n)) (xs : Row n) →
    Every (λ b. Solves n b xs) (against n us l) → Best n us ls xs → Best n us (l ∷ ls) xs
better n us l ls xs h r =
    let v = side n l.rest xs in let w = side n r.best.rest xs in
    by_lt_z (w *ℤ l.by) (v *ℤ r.best.by)
    (λ q. record { best = l; below = (least_self n xs l, least_all n xs l r.best ls (record { holds = weak q }) r.below); joins = h })
    (λ q. record { best = r.best; below = (record { holds = q }, r.below); joins = r.joins })
  where
    weak : {a b : ℤ} → a <ℤ b → a ≤ℤ b
    weak q = omega (arith, linear, q)

find_best : (n : ℕ) (us : List (Bound n)) (l : Bound n) (ls : List (Bound n)) (xs : Row n) →
    Every (λ b. Solves n b xs) (all_joined n us (l ∷ ls)) → Best n us (l ∷ ls) xs
find_best n us l [] xs h =
    record { best = l; below = (least_self n xs l, tt); joins = (every_parts (λ b. Solves n b xs) (against n us l) [] h).0 }
find_best n us l (k ∷ ks) xs h =
    let p = every_parts (λ b. Solves n b xs) (against n us l) (all_joined n us (k ∷ ks)) h in
    better n us l (k ∷ ks) xs p.0 (find_best n us k ks xs p.1)

-- a positive factor and a value of the first unknown, so that all bounds hold
record Chosen (n : ℕ) (us ls : List (Bound n)) (xs : Row n) : Type 0 where
  factor : ℤ
  at_least : pos 1 ≤ℤ factor
  first : ℤ
  uppers : Every (λ u. Upper n u first (times n factor xs)) us
  lowers : Every (λ l. Lower n l first (times n factor xs)) ls

-- the side grows by no more than the factor
side_times : (n : ℕ) (m : ℤ) (b : Inequality n) (xs : Row n) → pos 1 ≤ℤ m → side n b (times n m xs) ≤ℤ (m *ℤ side n b xs)
side_times n m b xs l =
    let r = mul_le b.least l in let e = dot_times n m b.row xs in
    omega (
      arith,
      linear,
      r,
      e,
      solve 3 (λ m d k. m ⊗ (d ⊕ k) ≈ m ⊗ d ⊕ k ⊗ m) cancels m (dot n b.row xs) b.slack,
      solve 1 (λ k. k ⊗ num (pos 1) ≈ k) cancels b.slack,
    )

chosen_uppers : (n : ℕ) (us : List (Bound n)) (l : Bound n) (xs : Row n) → pos 1 ≤ℤ l.by →
    Every (λ b. Solves n b xs) (against n us l) → Every (λ u. Upper n u (side n l.rest xs) (times n l.by xs)) us
chosen_uppers n [] l xs o h = tt
chosen_uppers n (u ∷ us) l xs o h =
    let t = side_times n l.by u.rest xs o in let e = joined_side n u l xs in let a = h.0.at_most in
    (record { holds = omega (arith, linear, t, e, a) }, chosen_uppers n us l xs o h.1)

chosen_lowers : (n : ℕ) (best : Bound n) (ls : List (Bound n)) (xs : Row n) → pos 1 ≤ℤ best.by →
    Every (λ l. Least n xs best l) ls → Every (λ l. Lower n l (side n best.rest xs) (times n best.by xs)) ls
chosen_lowers n best [] xs o h = tt
chosen_lowers n best (l ∷ ls) xs o h =
    let t = side_times n best.by l.rest xs o in let a = h.0.holds in (
      record {
        holds = omega (
          arith,
          linear,
          t,
          a,
          solve 2 (λ v m. m ⊗ v ≈ v ⊗ m) cancels (side n l.rest xs) best.by,
          solve 2 (λ v m. m ⊗ v ≈ v ⊗ m) cancels (side n best.rest xs) l.by,
        );
      },
      chosen_lowers n best ls xs o h.1,
    )

-- no lower bound: a value that is low enough
record AtMost (n : ℕ) (xs : Row n) (size : ℤ) (u : Bound n) : Type 0 where
  holds : side n u.rest xs ≤ℤ size

record Sized (n : ℕ) (us : List (Bound n)) (xs : Row n) : Type 0 where
  size : ℤ
  least : pos 0 ≤ℤ size
  sides : Every (AtMost n xs size) us

at_most_all : (n : ℕ) (xs : Row n) (s t : ℤ) (us : List (Bound n)) → s ≤ℤ t → Every (AtMost n xs s) us → Every (AtMost n xs t) us
at_most_all n xs s t [] l h = tt
at_most_all n xs s t (u ∷ us) l h =
    let a = h.0.holds in (record { holds = omega (arith, linear, l, a) }, at_most_all n xs s t us l h.1)

sized : (n : ℕ) (us : List (Bound n)) (xs : Row n) → Sized n us xs
sized n [] xs = record { size = pos 0; least = omega (arith, linear); sides = tt }
sized n (u ∷ us) xs =
    let r = sized n us xs in let v = side n u.rest xs in let least = r.least in
    by_lt_z r.size v
    (λ l. record {
      size = v;
      least = omega (arith, linear, l, least);
      sides =
          (record { holds = omega (arith, linear) }, at_most_all n xs r.size v us (omega (arith, linear, l)) r.sides);
    })
    (λ l. record { size = r.size; least = least; sides = (record { holds = l }, r.sides) })

low_uppers : (n : ℕ) (us : List (Bound n)) (xs : Row n) (s : ℤ) → pos 0 ≤ℤ s → Every (AtMost n xs s) us →
    Every (λ u. Upper n u (neg_ℤ s) (times n (pos 1) xs)) us
low_uppers n [] xs s l h = tt
low_uppers n (u ∷ us) xs s l h =
    let a = h.0.holds in let p = u.positive in let one : pos 1 ≤ℤ u.by = omega (arith, linear, p) in
    let t = side_times n (pos 1) u.rest xs (omega (arith, linear)) in let m = mul_le l one in (
      record {
        holds = omega (
          arith,
          linear,
          a,
          t,
          m,
          solve 2 (λ b s. b ⊗ neg s ≈ neg (s ⊗ b)) cancels u.by s,
          solve 1 (λ s. s ⊗ num (pos 1) ≈ s) cancels s,
          solve 1 (λ v. num (pos 1) ⊗ v ≈ v) cancels (side n u.rest xs),
        );
      },
      low_uppers n us xs s l h.1,
    )

choose : (n : ℕ) (us ls : List (Bound n)) (xs : Row n) → Every (λ b. Solves n b xs) (all_joined n us ls) → Chosen n us ls xs
choose n us [] xs h =
    let r = sized n us xs in
    record { factor = pos 1; at_least = omega (arith, linear); first = neg_ℤ r.size; uppers = low_uppers n us xs r.size r.least r.sides; lowers = tt }
choose n us (l ∷ ls) xs h =
    let r = find_best n us l ls xs h in let p = r.best.positive in let one : pos 1 ≤ℤ r.best.by = omega (arith, linear, p) in
    record {
      factor = r.best.by;
      at_least = one;
      first = side n r.best.rest xs;
      uppers =
          chosen_uppers n us r.best xs one r.joins;
      lowers = chosen_lowers n r.best (l ∷ ls) xs one r.below;
    }

-- ---- the system by the sign of the first unknown's factor
record Sorted (n : ℕ) (bs : List (Inequality (suc n))) : Type 0 where
  uppers : List (Bound n)
  lowers : List (Bound n)
  others : List (Inequality n)
  forth : (x : ℤ) (xs : Row n) → Every (λ b. Solves (suc n) b (x, xs)) bs →
      Every (λ u. Upper n u x xs) uppers × Every (λ l. Lower n l x xs) lowers × Every (λ b. Solves n b xs) others
  back : (x : ℤ) (xs : Row n) → Every (λ u. Upper n u x xs) uppers → Every (λ l. Lower n l x xs) lowers →
      Every (λ b. Solves n b xs) others → Every (λ b. Solves (suc n) b (x, xs)) bs

rest_of : (n : ℕ) (b : Inequality (suc n)) → Inequality n
rest_of n b = record { row = b.row.1; slack = b.slack; least = b.least }

sort_one : (n : ℕ) (b : Inequality (suc n)) (bs : List (Inequality (suc n))) → Sorted n bs → Sorted n (b ∷ bs)
unfolding rest_of
sort_one n b bs s =
    by_sign b.row.0
    (λ p. let u : Bound n = record { by = b.row.0; positive = p; rest = rest_of n b } in record {
      uppers = u ∷ s.uppers;
      lowers = s.lowers;
      others = s.others;
      forth = λ x xs h. let k = s.forth x xs h.1 in let a = h.0.at_most in ((record { holds = omega (arith, linear, a) }, k.0), k.1, k.2);
      back = λ x xs f g h. let a = f.0.holds in (record { at_most = omega (arith, linear, a) }, s.back x xs f.1 g h);
    })
    (λ e. record {
      uppers = s.uppers;
      lowers = s.lowers;
      others = rest_of n b ∷ s.others;
      forth = λ x xs h. let k = s.forth x xs h.1 in let a = h.0.at_most in (k.0, k.1, (record { at_most = omega (arith, linear, a, none x e) }, k.2));
      back = λ x xs f g h. let a = h.0.at_most in (record { at_most = omega (arith, linear, a, none x e) }, s.back x xs f g h.1);
    })
    (λ p. let l : Bound n = record { by = neg_ℤ b.row.0; positive = turned p; rest = rest_of n b } in record {
      uppers = s.uppers;
      lowers = l ∷ s.lowers;
      others = s.others;
      forth = λ x xs h. let k = s.forth x xs h.1 in let a = h.0.at_most in (k.0, (record { holds = omega (arith, linear, a, minus x) }, k.1), k.2);
      back = λ x xs f g h. let a = g.0.holds in (record { at_most = omega (arith, linear, a, minus x) }, s.back x xs f g.1 h);
    })
  where
    none : (x : ℤ) → b.row.0 ≡ pos 0 → b.row.0 *ℤ x ≡ pos 0
    none x e = ap (λ (a : ℤ). a *ℤ x) e ∙ zero-*ℤ x

    minus : (x : ℤ) → neg_ℤ b.row.0 *ℤ x ≡ neg_ℤ (b.row.0 *ℤ x)
    minus x = neg-*ℤ b.row.0 x

    turned : {a : ℤ} → a <ℤ pos 0 → pos 0 <ℤ neg_ℤ a
    turned p = omega (arith, linear, p)

sort : (n : ℕ) (bs : List (Inequality (suc n))) → Sorted n bs
sort n [] =
    record { uppers = []; lowers = []; others = []; forth = λ x xs h. (tt, tt, tt); back = λ x xs f g h. tt }
sort n (b ∷ bs) = sort_one n b bs (sort n bs)

-- ---- decided
abbrev pub IsDecided : (n : ℕ) → List (Inequality n) → Type 0
IsDecided n bs =
    ((x : Row n) × Every (λ b. Solves n b x) bs) ⊎ ((x : Row n) → Every (λ b. Solves n b x) bs → ⊥)

decide_none : (bs : List (Inequality zero)) → IsDecided zero bs
decide_none [] = inl (tt, tt)
decide_none (b ∷ bs) = by_lt_z (pos 0) b.slack (λ l. inr (λ x h. none l h.0)) (λ l. some l (decide_none bs))
  where
    none : {x : Row zero} → pos 0 <ℤ b.slack → Solves zero b x → ⊥
    none l h = let a = h.at_most in omega (arith, linear, l, a)

    some : b.slack ≤ℤ pos 0 → IsDecided zero bs → IsDecided zero (b ∷ bs)
    some l (inl r) = inl (r.0, (record { at_most = omega (arith, linear, l) }, r.1))
    some l (inr f) = inr (λ x h. f x h.1)

solved_times : (n : ℕ) (m : ℤ) (bs : List (Inequality n)) (x : Row n) → pos 1 ≤ℤ m → Every (λ b. Solves n b x) bs → Every (λ b. Solves n b (times n m x)) bs
solved_times n m [] x l h = tt
solved_times n m (b ∷ bs) x l h = (solves_times n m b x l h.0, solved_times n m bs x l h.1)

module _ (n : ℕ) (bs : List (Inequality (suc n))) (s : Sorted n bs) where
  abbrev left : List (Inequality n)
  left = all_joined n s.uppers s.lowers ++ s.others

  up : IsDecided n left → IsDecided (suc n) bs
  up (inl r) =
      let p = every_parts (λ b. Solves n b r.0) (all_joined n s.uppers s.lowers) s.others r.1 in
      let k = choose n s.uppers s.lowers r.0 p.0 in let xs = times n k.factor r.0 in
      inl ((k.first, xs), s.back k.first xs k.uppers k.lowers (solved_times n k.factor s.others r.0 k.at_least p.1))
  up (inr f) =
      inr (λ x h. let k = s.forth x.0 x.1 h in f x.1
      (every_append (λ b. Solves n b x.1) (all_joined n s.uppers s.lowers) s.others
      (all_joined_solved n s.uppers s.lowers x.0 x.1 k.0 k.1) k.2))

-- each system has a solution, or it has none
pub system_is_decided : (n : ℕ) (bs : List (Inequality n)) → IsDecided n bs
system_is_decided zero bs = decide_none bs
system_is_decided (suc n) bs = let s = sort n bs in up n bs s (system_is_decided n (left n bs s))
