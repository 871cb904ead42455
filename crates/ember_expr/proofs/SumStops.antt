-- Where the rules of terms and sums stop.
use Rattle.std.proofs.Common.{◌≡◌, ℕ, Bool, true, false, List, [], ◌∷◌, ◌++◌, refl, sym, subst, None}
use Rattle.ember_expr.specs.declared.trees.Term.{Term}
use Rattle.ember_expr.specs.declared.token.Word.{Word}
use Rattle.ember_expr.specs.declared.token.Word.TheVariants as word
use Rattle.ember_expr.specs.declared.token.Token.{Token}
use Rattle.ember_expr.specs.declared.grammar.Scope.{Scope}
use Rattle.ember_expr.specs.Grammar.{read, ◌>>=◌, limited, mesh_number, mesh_winding, product, after_number, term, sign_before, more_terms, first_term, sum}
use Rattle.ember_expr.specs.Derivation.{IsTerm, IsSum, words}
use Rattle.ember_expr.specs.Derivation as grammar
use Rattle.ember_expr.proofs.Rules.{last_term}
use Rattle.ember_expr.proofs.Stops.{by_same, by_none, Form, Completes, complete_now, Stops, both_stop, like_stops, as_stops}
use Rattle.ember_expr.proofs.Stops.{step_stops, read_stops, read_after}
use Rattle.ember_expr.proofs.FirstTokenStops.{token, fault_at_end, fault_at, like_at, check_stops, number_checks, mesh_checks}
use Rattle.ember_expr.proofs.ChainStops.{Turn, ends, goes, chain_stops}

-- a form in which no parentheses are
abbrev pub always : {A : Type 0} → (List Word → A → Type 0) → Form A
always P k = P

-- ---- terms
abbrev IsWind : List Word → ℕ → Type 0
IsWind ws m = ws ≡ word.Wind m ∷ []

some_wind : Completes IsWind []
some_wind = record { more = word.Wind 1 ∷ []; part = 1; holds = refl }

wind_at_stops : (scope : Scope) (w : Word) (place : ℕ) (ts : List Token) → Stops (always IsWind) scope (mesh_winding scope) (token w place ∷ ts)
wind_at_stops scope (word.Wind n) place ts =
    check_stops (always IsWind) scope (mesh_winding scope) n (mesh_number scope place n) (λ m us. read m us)
    (token (word.Wind n) place) ts (mesh_checks scope (token (word.Wind n) place) n (λ f. f) (λ l. l) (λ m. (refl, m)))
    (λ us. refl) some_wind (complete_now IsWind (word.Wind n ∷ []) n refl)
    (read_stops (always (λ ws m. IsWind (word.Wind n ∷ ws) m)) scope (λ us. read n us) n ts (λ k. refl) (λ us same. refl))
wind_at_stops scope w place ts = fault_at (always IsWind) scope (mesh_winding scope) (token w place) ts (λ k. some_wind) (λ us. refl)

wind_stops : (scope : Scope) (ts : List Token) → Stops (always IsWind) scope (mesh_winding scope) ts
wind_stops scope [] = fault_at_end (always IsWind) scope (mesh_winding scope) (λ k. some_wind) refl
wind_stops scope (t ∷ ts) = wind_at_stops scope t.word t.place ts

-- a term that begins with this number
abbrev IsScaled : Bool → ℕ → List Word → Term → Type 0
IsScaled minus n ws t = IsTerm minus (word.Number n ∷ ws) t

times_wind : (minus : Bool) (n m : ℕ) (ws : List Word) → IsWind ws m → IsScaled minus n (word.Star ∷ ws) (product minus n m)
times_wind minus n m ws is = subst (λ us. IsScaled minus n (word.Star ∷ us) (product minus n m)) (sym is) grammar.times

scaled_at_stops : (scope : Scope) (minus : Bool) (n : ℕ) (w : Word) (place : ℕ) (ts : List Token) →
    Stops (always (IsScaled minus n)) scope (after_number scope minus n) (token w place ∷ ts)
scaled_at_stops scope minus n word.Star place ts =
    step_stops (always (IsScaled minus n)) scope (after_number scope minus n)
    (λ us. mesh_winding scope us >>= λ w. read (product minus n w.part) w.rest) (token word.Star place) ts tt
    (λ us. refl) (both_stop (always IsWind) (always (λ ws t. IsScaled minus n (word.Star ∷ ws) t)) scope
    (mesh_winding scope) (λ m us. read (product minus n m) us) ts
    (λ k ws m is. complete_now (λ ws t. IsScaled minus n (word.Star ∷ ws) t) ws
    (product minus n m) (times_wind minus n m ws is)) (wind_stops scope ts)
    (λ m before rest is. read_after (always (λ ws t. IsScaled minus n (word.Star ∷ ws) t)) scope (words before)
    (product minus n m) rest (λ k. times_wind minus n m (words before) (is k))))
scaled_at_stops scope minus n w place ts =
    read_stops (always (IsScaled minus n)) scope (after_number scope minus n) (product minus n 0) (token w place ∷ ts)
    (λ k. grammar.number) (λ us same. by_same (λ vs. after_number scope minus n vs ≡ read (product minus n 0) vs)
    (token w place) ts us same (λ vs. refl))

scaled_stops : (scope : Scope) (minus : Bool) (n : ℕ) (ts : List Token) → Stops (always (IsScaled minus n)) scope (after_number scope minus n) ts
scaled_stops scope minus n [] =
    read_stops (always (IsScaled minus n)) scope (after_number scope minus n) (product minus n 0) [] (λ k. grammar.number)
    (λ us same. by_none (λ vs. after_number scope minus n vs ≡ read (product minus n 0) vs) us same refl)
scaled_stops scope minus n (t ∷ ts) = scaled_at_stops scope minus n t.word t.place ts

some_term : (minus : Bool) → Completes (IsTerm minus) []
some_term minus = record { more = word.Number 1 ∷ []; part = product minus 1 0; holds = grammar.number }

term_at_stops : (scope : Scope) (minus : Bool) (w : Word) (place : ℕ) (ts : List Token) → Stops (always (IsTerm minus)) scope (term scope minus) (token w place ∷ ts)
term_at_stops scope minus (word.Number n) place ts =
    check_stops (always (IsTerm minus)) scope (term scope minus) n (limited place n)
    (λ k us. after_number scope minus k us) (token (word.Number n) place) ts (number_checks scope place n) (λ us. refl)
    (some_term minus) (complete_now (IsTerm minus) (word.Number n ∷ []) (product minus n 0) grammar.number)
    (scaled_stops scope minus n ts)
term_at_stops scope minus (word.Wind n) place ts =
    check_stops (always (IsTerm minus)) scope (term scope minus) n (mesh_number scope place n)
    (λ m us. read (product minus 1 m) us) (token (word.Wind n) place) ts
    (mesh_checks scope (token (word.Wind n) place) n (λ f. f) (λ l. l) (λ m. (refl, m))) (λ us. refl) (some_term minus)
    (complete_now (IsTerm minus) (word.Wind n ∷ []) (product minus 1 n) grammar.wind)
    (read_stops (always (λ ws t. IsTerm minus (word.Wind n ∷ ws) t)) scope (λ us. read (product minus 1 n) us)
    (product minus 1 n) ts (λ k. grammar.wind) (λ us same. refl))
term_at_stops scope minus w place ts =
    fault_at (always (IsTerm minus)) scope (term scope minus) (token w place) ts (λ k. some_term minus) (λ us. refl)

term_stops : (scope : Scope) (minus : Bool) (ts : List Token) → Stops (always (IsTerm minus)) scope (term scope minus) ts
term_stops scope minus [] = fault_at_end (always (IsTerm minus)) scope (term scope minus) (λ k. some_term minus) refl
term_stops scope minus (t ∷ ts) = term_at_stops scope minus t.word t.place ts

-- ---- sums
abbrev IsFirst : List Word → Term → Type 0
IsFirst ws t = IsSum ws (t ∷ [])

positive_stops : (scope : Scope) (ts : List Token) → Stops (always IsFirst) scope (term scope false) ts
positive_stops scope ts = as_stops (always (IsTerm false)) (always IsFirst) (λ us r. term scope false us ≡ r) scope ts
    (λ k ws t d. grammar.first d) (term scope false ts) (term_stops scope false ts)

first_at_stops : (scope : Scope) (w : Word) (place : ℕ) (ts : List Token) → Stops (always IsFirst) scope (first_term scope) (token w place ∷ ts)
first_at_stops scope word.Minus place ts =
    step_stops (always IsFirst) scope (first_term scope) (term scope true) (token word.Minus place) ts tt (λ us. refl)
    (as_stops (always (IsTerm true)) (always (λ ws t. IsFirst (word.Minus ∷ ws) t)) (λ us r. term scope true us ≡ r)
    scope ts (λ k ws t d. grammar.negative d) (term scope true ts) (term_stops scope true ts))
first_at_stops scope w place ts = like_at (always IsFirst) scope (first_term scope) (term scope false) (token w place) ts
    (λ us. refl) (positive_stops scope (token w place ∷ ts))

first_term_stops : (scope : Scope) (ts : List Token) → Stops (always IsFirst) scope (first_term scope) ts
first_term_stops scope [] = like_stops (always IsFirst) scope (first_term scope) (term scope false) []
    (λ us same. by_none (λ vs. first_term scope vs ≡ term scope false vs) us same refl) (positive_stops scope [])
first_term_stops scope (t ∷ ts) = first_at_stops scope t.word t.place ts

terms_end : (scope : Scope) (us : List Token) → sign_before us ≡ None → (count : ℕ) (s : List Term) → more_terms scope count s us ≡ read s us
terms_end scope us none count s = last_term scope (more_terms scope count s us) s us count refl none

abbrev TermTurn : Scope → List Token → Type 0
TermTurn scope ts = Turn (more_terms scope) (λ minus. always (IsTerm minus)) (always IsSum) scope ts

term_turn_at : (scope : Scope) (w : Word) (place : ℕ) (ts : List Token) → TermTurn scope (token w place ∷ ts)
term_turn_at scope word.Plus place ts = goes false (token word.Plus place) ts (term scope false) (λ s x. s ++ x ∷ [])
    refl tt (λ vs count s. refl) (term_stops scope false ts) (λ k vs ws s x d e. grammar.plus d e)
term_turn_at scope word.Minus place ts = goes true (token word.Minus place) ts (term scope true) (λ s x. s ++ x ∷ [])
    refl tt (λ vs count s. refl) (term_stops scope true ts) (λ k vs ws s x d e. grammar.minus d e)
term_turn_at scope w place ts = ends (λ us same count s. terms_end scope us
    (by_same (λ vs. sign_before vs ≡ None) (token w place) ts us same (λ vs. refl)) count s)

term_turn : (scope : Scope) (ts : List Token) → TermTurn scope ts
term_turn scope [] = ends (λ us same count s. terms_end scope us (by_none (λ vs. sign_before vs ≡ None) us same refl) count s)
term_turn scope (t ∷ ts) = term_turn_at scope t.word t.place ts

-- a sum stops at the first token that no sum has there, or that is over a limit
pub sum_stops : (scope : Scope) (ts : List Token) → Stops (always IsSum) scope (sum scope) ts
sum_stops scope ts = chain_stops (more_terms scope) (λ minus. always (IsTerm minus)) (always IsSum) (always IsFirst)
    scope (first_term scope) (λ t. t ∷ []) (λ us. term_turn scope us) (λ k ws t d. d) ts (first_term_stops scope ts)
