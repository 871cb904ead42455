-- Where the grammar derives words, the rules read them: terms and sums.
use Rattle.std.proofs.Common.{◌≡◌, ℕ, zero, suc, ◌≤◌, Bool, true, false, List, [], ◌∷◌, ◌++◌, length, length-append}
use Rattle.std.proofs.Common.{refl, ap, sym, subst, ◌∙◌, arith, append_assoc, None, Ok, Err, Result, ◌⊎◌, inl, inr}
use Rattle.std.proofs.lemmas.List.{length-map}
use Rattle.ember_algebra.specs.Relations.{Every}
use Rattle.ember_expr.specs.declared.fault.ExprFault.{ExprFault}
use Rattle.ember_expr.specs.declared.trees.Term.{Term}
use Rattle.ember_expr.specs.declared.token.Word.{Word}
use Rattle.ember_expr.specs.declared.token.Word.TheVariants as word
use Rattle.ember_expr.specs.declared.token.Token.{Token}
use Rattle.ember_expr.specs.declared.grammar.Scope.{Scope}
use Rattle.ember_expr.specs.Grammar.{Read, read, Rule, ◌>>=◌, is_star, product, minus_of, sign_before, is_minus}
use Rattle.ember_expr.specs.Derivation.{IsTerm, IsSum, words}
use Rattle.ember_expr.specs.Derivation as grammar
use Rattle.ember_expr.proofs.Checked.{Checks, wind_by, wind_at_by, scaled_by, term_by, term_at_by, more_terms_by, first_term_by, sum_by}

-- ---- results: what is wanted, or a fault that may be
abbrev pub Accepts : {A : Type 0} → (ExprFault → Type 0) → A → List Word → Result (Read A) ExprFault → Type 0
Accepts bad a us (Ok x) = (x.part ≡ a) × (words x.rest ≡ us)
Accepts bad a us (Err fault) = bad fault

-- a rule that accepts words, and then one that accepts the words behind them
pub accept_bind : {A B : Type 0} (bad : ExprFault →
    Type 0) (a : A) (us : List Word) (b : B) (vs : List Word) (r : Result (Read A) ExprFault) (go : Read A →
    Result (Read B) ExprFault) → Accepts bad a us r →
    ((rest : List Token) → words rest ≡ us → Accepts bad b vs (go (record { part = a; rest = rest }))) →
    Accepts bad b vs (r >>= go)
accept_bind bad a us b vs (Ok x) go h next = subst (λ p. Accepts bad b vs (go (record { part = p; rest = x.rest }))) (sym h.0) (next x.rest h.1)
accept_bind bad a us b vs (Err fault) go h next = h

-- the number itself, or a fault that may be
abbrev pub PassesAs : (ExprFault → Type 0) → ℕ → Result ℕ ExprFault → Type 0
PassesAs bad n (Ok x) = x ≡ n
PassesAs bad n (Err fault) = bad fault

abbrev pub Passes : (ExprFault → Type 0) → Checks → Word → Type 0
Passes bad c (word.Number n) = (place : ℕ) → PassesAs bad n (c.number place n)
Passes bad c (word.Mesh n) = (place : ℕ) → PassesAs bad n (c.mesh place n)
Passes bad c (word.Wind n) = (place : ℕ) → PassesAs bad n (c.mesh place n)
Passes bad c _ = Unit {0}

-- a number that passes, and then the rest
pub number_bind : {B : Type 0} (bad : ExprFault →
    Type 0) (n : ℕ) (b : B) (vs : List Word) (r : Result ℕ ExprFault) (go : ℕ → Result (Read B) ExprFault) →
    PassesAs bad n r → Accepts bad b vs (go n) → Accepts bad b vs (r >>= go)
number_bind bad n b vs (Ok x) go h next = subst (λ k. Accepts bad b vs (go k)) (sym h) next
number_bind bad n b vs (Err fault) go h next = h

-- ---- the first token
-- what holds of each first token with the word holds of the tokens that begin with it
pub by_first : (Q : List Token → Type 0) (all : List Token) (w : Word) (us : List Word) → words all ≡ w ∷ us →
    ((t : Token) (ts : List Token) → t.word ≡ w → words ts ≡ us → Q (t ∷ ts)) → Q all
by_first Q [] w us e h = cc
by_first Q (t ∷ ts) w us e h =
    let first : t.word ≡ w = cc in
    let later : words ts ≡ us = cc in
    h t ts first later

-- how loosely a word binds: one that is looser than a phrase ends it
abbrev pub loose : Word → ℕ
loose word.Star = 0
loose word.Plus = 1
loose word.Minus = 1
loose word.Amp = 2
loose word.Hat = 3
loose word.Bar = 4
loose _ = 5

abbrev pub after : List Word → ℕ
after [] = 5
after (w ∷ us) = loose w

-- what holds of two lists together holds of the first
pub every_before : {X : Type 0} (P : X → Type 0) (xs ys : List X) → Every P (xs ++ ys) → Every P xs
every_before P [] ys h = tt
every_before P (x ∷ xs) ys h = (h.0, every_before P xs ys h.1)

-- what holds of two lists together holds of the second
pub every_after : {X : Type 0} (P : X → Type 0) (xs ys : List X) → Every P (xs ++ ys) → Every P ys
every_after P [] ys h = h
every_after P (x ∷ xs) ys h = every_after P xs ys h.1

-- ---- chains of parts that are read one after another
pub record Goes {S : Type 0} (more : ℕ → S → Rule S) (r : Result (Read S) ExprFault) (s : S) (us : List Word) : Type 0 where
  count : ℕ
  rest : List Token
  enough : length us ≤ count
  front : words rest ≡ us
  same : r ≡ more count s rest

pub record Fails {A : Type 0} (bad : ExprFault → Type 0) (r : Result A ExprFault) : Type 0 where
  fault : ExprFault
  is : r ≡ Err fault
  holds : bad fault

-- what is read from the start is this and what follows it
abbrev pub SoFar : {S : Type 0} → (ExprFault → Type 0) → (ℕ → S → Rule S) → Result (Read S) ExprFault → S → List Word → Type 0
SoFar bad more r s us = Goes more r s us ⊎ Fails bad r

-- the first part of a sum or a chain
pub loop_starts : {T S : Type 0} (bad : ExprFault → Type 0) (more : ℕ → S → Rule S) (wrap : T →
    S) (a : T) (us : List Word) (r : Result (Read T) ExprFault) → Accepts bad a us r →
    SoFar bad more (r >>= λ first. more (length first.rest) (wrap first.part) first.rest) (wrap a) us
loop_starts bad more wrap a us (Ok x) h = inl (record {
  count = length x.rest;
  rest = x.rest;
  enough = subst (λ u. length u ≤ length x.rest) h.1 (rw (length-map x.rest (λ t. t.word)) (omega arith));
  front = h.1;
  same = ap (λ p. more (length x.rest) (wrap p) x.rest) h.0;
})
loop_starts bad more wrap a us (Err fault) h = inr (record { fault = fault; is = refl; holds = h })

after_part : {T S : Type 0} (bad : ExprFault → Type 0) (more : ℕ → S → Rule S) (push : T →
    S) (b : T) (us : List Word) (r : Result (Read S) ExprFault) (count : ℕ) (p : Result (Read T) ExprFault) →
    Accepts bad b us p → r ≡ (p >>= λ next. more count (push next.part) next.rest) → length us ≤ count →
    SoFar bad more r (push b) us
after_part bad more push b us r count (Ok x) h e le =
    inl (record {
      count = count;
      rest = x.rest;
      enough = le;
      front = h.1;
      same =
          e ∙ ap (λ q. more count (push q) x.rest) h.0;
    })
after_part bad more push b us r count (Err fault) h e le = inr (record { fault = fault; is = e; holds = h })

-- after this word the chain goes on with a part
abbrev pub GoesOn : {T S : Type 0} → (ℕ → S → Rule S) → Rule T → (T → S) → S → Word → Type 0
GoesOn more part push s w = (count : ℕ) (x : Token) (ts : List Token) → x.word ≡ w →
    more (suc count) s (x ∷ ts) ≡ (part ts >>= λ next. more count (push next.part) next.rest)

goes_on : {T S : Type 0} (bad : ExprFault → Type 0) (more : ℕ → S → Rule S) (part : Rule T) (push : T →
    S) (r : Result (Read S) ExprFault) (s : S) (w : Word) (ws us : List Word) (b : T) → GoesOn more part push s w →
    ((ts : List Token) → words ts ≡ ws ++ us → Accepts bad b us (part ts)) → (count : ℕ) (rest : List Token) →
    length (w ∷ ws ++ us) ≤ count → words rest ≡ w ∷ ws ++ us → r ≡ more count s rest → SoFar bad more r (push b) us
goes_on bad more part push r s w ws us b law accepts count [] enough front same = cc
goes_on bad more part push r s w ws us b law accepts zero (x ∷ ts) enough front same = absurd (omega (arith, enough))
goes_on bad more part push r s w ws us b law accepts (suc count) (x ∷ ts) enough front same =
    after_part bad more push b us r count (part ts) (accepts ts cc) (same ∙ law count x ts cc) (omega (arith, enough, length-append ws us))

-- one part more of a sum or a chain
pub one_more : {T S : Type 0} (bad : ExprFault → Type 0) (more : ℕ → S → Rule S) (part : Rule T) (push : T →
    S) (r : Result (Read S) ExprFault) (s : S) (w : Word) (ws us : List Word) (b : T) → GoesOn more part push s w →
    ((ts : List Token) → words ts ≡ ws ++ us → Accepts bad b us (part ts)) → SoFar bad more r s (w ∷ ws ++ us) →
    SoFar bad more r (push b) us
one_more bad more part push r s w ws us b law accepts (inl g) = goes_on bad more part push r s w ws us b law accepts g.count g.rest g.enough g.front g.same
one_more bad more part push r s w ws us b law accepts (inr f) = inr f

-- a sum or a chain ends if the rest goes no further
pub loop_finishes : {S : Type 0} (bad : ExprFault → Type 0) (more : ℕ → S →
    Rule S) (r : Result (Read S) ExprFault) (s : S) (us : List Word) →
    ((count : ℕ) (rest : List Token) → words rest ≡ us → more count s rest ≡ read s rest) → SoFar bad more r s us →
    Accepts bad s us r
loop_finishes bad more r s us ends (inl g) = subst (Accepts bad s us) (sym (g.same ∙ ends g.count g.rest g.front)) (refl, g.front)
loop_finishes bad more r s us ends (inr f) = subst (Accepts bad s us) (sym f.is) f.holds

-- ---- terms
not_star : (w : Word) → 1 ≤ loose w → is_star w ≡ false
not_star word.Star h = absurd (omega (arith, h))
not_star _ h = refl

wind_accepts : (bad : ExprFault → Type 0) (c : Checks) (scope : Scope) (m : ℕ) (us : List Word) →
    Passes bad c (word.Wind m) → (all : List Token) → words all ≡ word.Wind m ∷ us →
    Accepts bad m us (wind_by c scope all)
wind_accepts bad c scope m us fit all e =
    by_first (λ ts. Accepts bad m us (wind_by c scope ts)) all (word.Wind m) us e
    (λ t ts w rest. subst (λ v. Accepts bad m us (wind_at_by c t v ts)) (sym w)
    (number_bind bad m m us (c.mesh t.place m) (λ mesh. read mesh ts) (fit t.place) (refl, rest)))

scaled_plain : (bad : ExprFault → Type 0) (c : Checks) (scope : Scope) (minus : Bool) (n : ℕ) (us : List Word)
    (ts : List Token) → words ts ≡ us → 1 ≤ after us → Accepts bad (product minus n 0) us (scaled_by c scope minus n ts)
scaled_plain bad c scope minus n us [] e h = (refl, e)
scaled_plain bad c scope minus n us (t ∷ ts) e h =
    let plain : is_star t.word ≡ false = not_star t.word (subst (λ u. 1 ≤ after u) (sym e) h) in
    rw plain (refl, e)

term_accepts : (bad : ExprFault → Type 0) (c : Checks) (scope : Scope) (minus : Bool) {ws : List Word} {t : Term} →
    IsTerm minus ws t → Every (Passes bad c) ws → (all : List Token) (us : List Word) → words all ≡ ws ++ us →
    1 ≤ after us → Accepts bad t us (term_by c scope minus all)
term_accepts bad c scope minus (grammar.number {n}) fit all us e h =
    by_first (λ ts. Accepts bad (product minus n 0) us (term_by c scope minus ts)) all (word.Number n) us e
    (λ t ts w rest. subst (λ v. Accepts bad (product minus n 0) us (term_at_by c scope minus t v ts)) (sym w)
    (number_bind bad n (product minus n 0) us (c.number t.place n) (λ factor. scaled_by c scope minus factor ts)
    (fit.0 t.place) (scaled_plain bad c scope minus n us ts rest h)))
term_accepts bad c scope minus (grammar.times {n} {m}) fit all us e h =
    by_first (λ ts. Accepts bad (product minus n m) us (term_by c scope minus ts)) all (word.Number n)
    (word.Star ∷ word.Wind m ∷ us) e (λ t ts w rest. subst
    (λ v. Accepts bad (product minus n m) us (term_at_by c scope minus t v ts)) (sym w)
    (number_bind bad n (product minus n m) us (c.number t.place n) (λ factor. scaled_by c scope minus factor ts)
    (fit.0 t.place) (by_first (λ ts. Accepts bad (product minus n m) us (scaled_by c scope minus n ts)) ts word.Star
    (word.Wind m ∷ us) rest (λ star tail is_star later. rw is_star
    (accept_bind bad m us (product minus n m) us (wind_by c scope tail) (λ w. read (product minus n w.part) w.rest)
    (wind_accepts bad c scope m us fit.1.1.0 tail later) (λ end last. (refl, last)))))))
term_accepts bad c scope minus (grammar.wind {m}) fit all us e h =
    by_first (λ ts. Accepts bad (product minus 1 m) us (term_by c scope minus ts)) all (word.Wind m) us e
    (λ t ts w rest. subst (λ v. Accepts bad (product minus 1 m) us (term_at_by c scope minus t v ts)) (sym w)
    (number_bind bad m (product minus 1 m) us (c.mesh t.place m) (λ mesh. read (product minus 1 mesh) ts)
    (fit.0 t.place) (refl, rest)))

-- ---- sums
plain_first : {minus : Bool} {ws : List Word} {t : Term} → IsTerm minus ws t → (all : List Token) (us : List Word) →
    words all ≡ ws ++ us → is_minus (sign_before all) ≡ false
plain_first (grammar.number {n}) all us e = by_first (λ ts. is_minus (sign_before ts) ≡ false) all (word.Number n) us e (λ t ts w rest. rw w refl)
plain_first (grammar.times {n} {m}) all us e = by_first (λ ts. is_minus (sign_before ts) ≡ false) all (word.Number n)
    (word.Star ∷ word.Wind m ∷ us) e (λ t ts w rest. rw w refl)
plain_first (grammar.wind {m}) all us e = by_first (λ ts. is_minus (sign_before ts) ≡ false) all (word.Wind m) us e (λ t ts w rest. rw w refl)

sum_so_far : (bad : ExprFault → Type 0) (c : Checks) (scope : Scope) {ws : List Word} {s : List Term} → IsSum ws s →
    Every (Passes bad c) ws → (all : List Token) (us : List Word) → words all ≡ ws ++ us → 1 ≤ after us →
    SoFar bad (more_terms_by c scope) (sum_by c scope all) s us
sum_so_far bad c scope (grammar.first {ws} {t} d) fit all us e h =
    let plain : is_minus (sign_before all) ≡ false = plain_first d all us e in
    loop_starts bad (more_terms_by c scope) (λ t. t ∷ []) t us (first_term_by c scope all) (rw plain (term_accepts bad c scope false d fit all us e h))
sum_so_far bad c scope (grammar.negative {ws} {t} d) fit all us e h =
    loop_starts bad (more_terms_by c scope) (λ t. t ∷ []) t us (first_term_by c scope all)
    (by_first (λ ts. Accepts bad t us (first_term_by c scope ts)) all word.Minus (ws ++ us) e
    (λ x ts w rest. rw w (term_accepts bad c scope true d fit.1 ts us rest h)))
sum_so_far bad c scope (grammar.plus {vs} {ws} {ts = s} {t} d e) fit all us same h =
    one_more bad (more_terms_by c scope) (term_by c scope false) (λ next. s ++ next ∷ []) (sum_by c scope all) s
    word.Plus ws us t (λ count x ts w. rw w refl)
    (λ ts front. term_accepts bad c scope false e (every_after (Passes bad c) vs (word.Plus ∷ ws) fit).1 ts us front
    h) (sum_so_far bad c scope d (every_before (Passes bad c) vs (word.Plus ∷ ws) fit) all (word.Plus ∷ ws ++ us)
    (same ∙ append_assoc vs (word.Plus ∷ ws) us) (omega arith))
sum_so_far bad c scope (grammar.minus {vs} {ws} {ts = s} {t} d e) fit all us same h =
    one_more bad (more_terms_by c scope) (term_by c scope true) (λ next. s ++ next ∷ []) (sum_by c scope all) s
    word.Minus ws us t (λ count x ts w. rw w refl)
    (λ ts front. term_accepts bad c scope true e (every_after (Passes bad c) vs (word.Minus ∷ ws) fit).1 ts us front
    h) (sum_so_far bad c scope d (every_before (Passes bad c) vs (word.Minus ∷ ws) fit) all (word.Minus ∷ ws ++ us)
    (same ∙ append_assoc vs (word.Minus ∷ ws) us) (omega arith))

no_sign_at : (w : Word) → 2 ≤ loose w → minus_of w ≡ None
no_sign_at word.Plus h = absurd (omega (arith, h))
no_sign_at word.Minus h = absurd (omega (arith, h))
no_sign_at _ h = refl

no_sign : (ts : List Token) → 2 ≤ after (words ts) → sign_before ts ≡ None
no_sign [] h = refl
no_sign (t ∷ ts) h = no_sign_at t.word h

sum_ends : (c : Checks) (scope : Scope) (s : List Term) (us : List Word) → 2 ≤ after us →
    (count : ℕ) (rest : List Token) → words rest ≡ us → more_terms_by c scope count s rest ≡ read s rest
sum_ends c scope s us h zero rest e = refl
sum_ends c scope s us h (suc count) rest e =
    let none : sign_before rest ≡ None = no_sign rest (subst (λ u. 2 ≤ after u) (sym e) h) in
    rw none refl

-- the words of a sum are read as the sum
pub sum_accepts : (bad : ExprFault → Type 0) (c : Checks) (scope : Scope) {ws : List Word} {s : List Term} →
    IsSum ws s → Every (Passes bad c) ws → (all : List Token) (us : List Word) → words all ≡ ws ++ us → 2 ≤ after us →
    Accepts bad s us (sum_by c scope all)
sum_accepts bad c scope {ws} {s} d fit all us e h =
    loop_finishes bad (more_terms_by c scope) (sum_by c scope all) s us (sum_ends c scope s us h) (sum_so_far bad c scope d fit all us e (omega (arith, h)))
