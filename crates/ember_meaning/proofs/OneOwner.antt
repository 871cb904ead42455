-- Of the regions that hold one place exactly one is owned, and what is written there is what that
-- one gives.
use Rattle.std.proofs.Common.{◌≡◌, ℕ, zero, suc, ◌+◌, ◌<◌, ◌≤◌, refl, ap, ◌∙◌, sym, List, [], ◌∷◌, ◌++◌, Bool, true}
use Rattle.std.proofs.Common.{false, ◌&&◌, cond, eqb, ℤ, pos, ◌+ℤ◌, ◌*ℤ◌, ◌⊎◌, inl, inr, ⊎_elim, arith, below_more}
use borrow.Author.Differences.{ints}
use Rattle.std.specs.List.{count_by}
use Rattle.std.proofs.lemmas.List.Sums.{sum_by-cons}
use Rattle.std.proofs.lemmas.Bool.{cases_Bool, false≢true, eq-eqb, ne_eqb, cases_order}
use Rattle.ember_algebra.specs.Relations.{Each, none, more}
use Rattle.ember_algebra.proofs.Laws.{linear}
use Rattle.ember_box.specs.Sums.{number}
use Rattle.ember_meaning.proofs.Lines.{In, here, there, total_of}
use Rattle.ember_meaning.proofs.Telescope.{count_same}

-- a member that passes is counted
pub count_in : {E : Type 0} (p : E → Bool) (es : List E) (e : E) → In e es → p e ≡ true → 0 < count_by p es
count_in p es e (here {xs = xs}) h =
    omega (arith, sum_by-cons (λ x. cond (p x) 1 0) e xs, ap number h)
count_in p es e (there {y = y} {xs = xs} i) h =
    omega (arith, sum_by-cons (λ x. cond (p x) 1 0) y xs, count_in p xs e i h)

module _ {E : Type 0} (tri : E → ℕ) (has owned : E → Bool) (hit : ℕ → Bool) (es : List E) where
  pub record IsCovered : Type 0 where
    -- the regions of triangle t that have x inside: one if its face has, otherwise none
    pub cover : (t : ℕ) → count_by (λ e. eqb (tri e) t && has e) es ≡ number (hit t)
    -- of those, one is owned if no lower triangle's face has x inside
    pub owned_if : (e : E) → In e es → has e ≡ true → ((j : ℕ) → j < tri e → hit j ≡ false) → owned e ≡ true
    pub not_owned_if : (e : E) (j : ℕ) → In e es → has e ≡ true → j < tri e → hit j ≡ true → owned e ≡ false

  module _ (c : IsCovered) where
    hit_of : (e : E) → In e es → has e ≡ true → hit (tri e) ≡ true
    hit_of e i h =
        ⊎_elim (λ t. t) (λ f. absurd (none_there f)) (cases_Bool (hit (tri e)))
      where
        both : (a b : Bool) → a ≡ true → b ≡ true → (a && b) ≡ true
        both a b h k = rw (h, k) refl

        none_there : hit (tri e) ≡ false → ⊥
        none_there f =
            let p = count_in (λ d. eqb (tri d) (tri e) && has d) es e i (both _ _ (eq-eqb (tri e) (tri e) refl) h) in
            omega (arith, p, c.cover (tri e), ap number f)

    -- if t is the lowest triangle whose face has x inside, exactly one region has x inside and
    -- is owned
    one_owned : (t : ℕ) → hit t ≡ true → ((j : ℕ) → j < t → hit j ≡ false) → count_by (λ e. has e && owned e) es ≡ 1
    one_owned t h least =
        count_same (λ e. has e && owned e) (λ e. eqb (tri e) t && has e) es (λ e i. same e i (cases_Bool (has e))) ∙ c.cover t ∙ ap number h
      where
        by_order : (e : E) → In e es → has e ≡ true → (tri e ≡ t) ⊎ ((tri e < t) ⊎ (t < tri e)) → owned e ≡ eqb (tri e) t
        by_order e i k (inl q) =
            c.owned_if e i k (λ j l. least j (omega arith)) ∙ sym (eq-eqb (tri e) t q)
        by_order e i k (inr (inl q)) =
            absurd (false≢true (sym (least (tri e) q) ∙ hit_of e i k))
        by_order e i k (inr (inr q)) =
            c.not_owned_if e t i k q h ∙ sym (ne_eqb (tri e) t (λ z. omega arith))

        same : (e : E) → In e es → (has e ≡ true) ⊎ (has e ≡ false) → (has e && owned e) ≡ (eqb (tri e) t && has e)
        same e i (inl k) = at (has e) (owned e) (eqb (tri e) t) k (by_order e i k (cases_order (tri e) t))
          where
            at : (a b c : Bool) → a ≡ true → b ≡ c → (a && b) ≡ (c && a)
            at true b true k q = q
            at true b false k q = q
            at false b c k q = absurd (false≢true k)
        same e i (inr k) = at (has e) (owned e) (eqb (tri e) t) k
          where
            at : (a b c : Bool) → a ≡ false → (a && b) ≡ (c && a)
            at true b c k = absurd (false≢true (sym k))
            at false b true k = refl
            at false b false k = refl

    none_owned : ((j : ℕ) → hit j ≡ false) → count_by (λ e. has e && owned e) es ≡ 0
    none_owned f = by es (λ e i. i)
      where
        by : (xs : List E) → ((e : E) → In e xs → In e es) → count_by (λ e. has e && owned e) xs ≡ 0
        by [] g = refl
        by (e ∷ xs) g =
            omega (
              arith,
              sum_by-cons (λ d. cond (has d && owned d) 1 0) e xs,
              by xs (λ d i. g d (there i)),
              ap number (off (has e) (owned e) (λ h. absurd (false≢true (sym (f (tri e)) ∙ hit_of e (g e here) h)))),
            )
          where
            off : (a b : Bool) → (a ≡ true → ⊥) → (a && b) ≡ false
            off true b n = absurd (n refl)
            off false b n = refl

-- ---- totals over what members give
total-append : {W : Type 0} (amount : W → ℤ) (p : W → Bool) (us vs : List W) → total_of amount p (us ++ vs) ≡ total_of amount p us +ℤ total_of amount p vs
total-append amount p [] vs = omega (arith, linear)
total-append amount p (u ∷ us) vs = omega (arith, linear, total-append amount p us vs)

-- if each member of es gives the amount g if q, and else nothing, all give g as often as q holds
each_total : {E W : Type 0} {R : E → List W → Type 0} (amount : W → ℤ) (p : W → Bool) (q : E →
    Bool) (g : ℤ) {es : List E} {ws : List W} → ((e : E) (us : List W) → In e es → R e us →
    total_of amount p us ≡ cond (q e) g (pos 0)) → Each R es ws → total_of amount p ws ≡ pos (count_by q es) *ℤ g
each_total amount p q g f none = omega (arith, ints)
each_total amount p q g f (more {x = e} {xs = es} {ys = us} {zs = vs} r d) =
    total-append amount p us vs ∙ by (q e) (total_of amount p us) (total_of amount p vs) (count_by q (e ∷ es))
    (count_by q es) (f e us here r) (each_total amount p q g (λ x ys i s. f x ys (there i) s) d)
    (sum_by-cons (λ x. cond (q x) 1 0) e es)
  where
    by : (b : Bool) (a z : ℤ) (m n : ℕ) → a ≡ cond b g (pos 0) → z ≡ pos n *ℤ g → m ≡ number b + n → a +ℤ z ≡ pos m *ℤ g
    by true a z m n h k l =
        let e : m ≡ suc n = omega arith in let q = ap (λ (m : ℕ). pos m *ℤ g) e in
        let t : pos (suc n) *ℤ g ≡ g +ℤ pos n *ℤ g = omega (arith, ints) in omega (arith, linear, h, k, q, t)
    by false a z m n h k l =
        let e : m ≡ n = omega arith in let q = ap (λ (m : ℕ). pos m *ℤ g) e in omega (arith, linear, h, k, q)

-- ---- at one hit
record Least (hit : ℕ → Bool) : Type 0 where
  at : ℕ
  is : hit at ≡ true
  first : (j : ℕ) → j < at → hit j ≡ false

least : (hit : ℕ → Bool) (t : ℕ) → hit t ≡ true → Least hit
least hit t h = up t 0 (λ j l. absurd (omega arith)) h (omega arith)
  where
    up : (n k : ℕ) → ((j : ℕ) → j < k → hit j ≡ false) → hit t ≡ true → t ≤ n + k → Least hit
    up zero k f h l =
        by (cases_Bool (hit k)) (cases_order t k)
      where
        by : (hit k ≡ true) ⊎ (hit k ≡ false) → (t ≡ k) ⊎ ((t < k) ⊎ (k < t)) → Least hit
        by (inl e) o = record { at = k; is = e; first = f }
        by (inr e) (inl o) = absurd (false≢true (sym e ∙ ap hit (sym o) ∙ h))
        by (inr e) (inr (inl o)) = absurd (false≢true (sym (f t o) ∙ h))
        by (inr e) (inr (inr o)) = absurd (omega arith)
    up (suc n) k f h l =
        by (cases_Bool (hit k)) (λ e. up n (k + 1) (more_below e) h (omega arith))
      where
        more_below : hit k ≡ false → (j : ℕ) → j < k + 1 → hit j ≡ false
        more_below e = below_more (λ j. hit j ≡ false) k f e

        by : (hit k ≡ true) ⊎ (hit k ≡ false) → (hit k ≡ false → Least hit) → Least hit
        by (inl e) g = record { at = k; is = e; first = f }
        by (inr e) g = g e

-- if some triangle's face has the place inside, what is written there is what the one owned
-- region gives
pub jump_at : {E W : Type 0} {R : E → List W → Type 0} (tri : E → ℕ) (has owned : E → Bool) (hit : ℕ →
    Bool) (amount : W → ℤ) (p : W → Bool) (g : ℤ) (es : List E) (ws : List W) → IsCovered tri has owned hit es →
    ((e : E) (us : List W) → In e es → R e us → total_of amount p us ≡ cond (has e && owned e) g (pos 0)) → Each R es ws →
    (t : ℕ) → hit t ≡ true → total_of amount p ws ≡ g
jump_at tri has owned hit amount p g es ws c f r t h =
    let l = least hit t h in
    let e = one_owned tri has owned hit es c l.at l.is l.first in
    each_total amount p (λ e. has e && owned e) g f r ∙ ap (λ (n : ℕ). pos n *ℤ g) e ∙ one_time g
  where
    one_time : (g : ℤ) → pos 1 *ℤ g ≡ g
    one_time g = omega (arith, ints)

-- and nothing if no triangle's face has
pub still_at : {E W : Type 0} {R : E → List W → Type 0} (tri : E → ℕ) (has owned : E → Bool) (hit : ℕ →
    Bool) (amount : W → ℤ) (p : W → Bool) (g : ℤ) (es : List E) (ws : List W) → IsCovered tri has owned hit es →
    ((e : E) (us : List W) → In e es → R e us → total_of amount p us ≡ cond (has e && owned e) g (pos 0)) → Each R es ws →
    ((t : ℕ) → hit t ≡ false) → total_of amount p ws ≡ pos 0
still_at tri has owned hit amount p g es ws c f r h =
    each_total amount p (λ e. has e && owned e) g f r ∙ ap (λ (n : ℕ). pos n *ℤ g) (none_owned tri has owned hit es c h) ∙ zero_times g
  where
    zero_times : (g : ℤ) → pos 0 *ℤ g ≡ pos 0
    zero_times g = omega (arith, ints)
