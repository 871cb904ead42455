-- The rules of the grammar over any checks of the numbers: those of the parser are one case, none are another.
use mathlib.Core.Path.{fun_ext}
use Rattle.std.proofs.Common.{◌≡◌, ℕ, zero, suc, Bool, true, false, if◌then◌else◌, List, [], ◌∷◌, ◌++◌, length, refl}
use Rattle.std.proofs.Common.{ap, ◌∙◌, Some, None, Ok, Err, Result, Option}
use Rattle.ember_expr.specs.declared.fault.ExprFault.{ExprFault}
use Rattle.ember_expr.specs.declared.fault.ExprFault.TheVariants.{Syntax}
use Rattle.ember_expr.specs.declared.trees.Term.{Term}
use Rattle.ember_expr.specs.declared.token.Word.{Word}
use Rattle.ember_expr.specs.declared.token.Word.TheVariants as word
use Rattle.ember_expr.specs.declared.token.Token.{Token}
use Rattle.ember_expr.specs.declared.grammar.Scope.{Scope}
use Rattle.ember_expr.specs.Formula.{Formula, Not, Mesh, Odd, Compare}
use Rattle.ember_expr.specs.Grammar.{Read, read, Rule, ◌>>=◌, limited, mesh_number, wind_at, mesh_winding, is_star}
use Rattle.ember_expr.specs.Grammar.{product, after_number, term_at, term, sign_before, after_first, where_some}
use Rattle.ember_expr.specs.Grammar.{more_terms, is_minus, first_term, sum, or, is_open, expect_close, relation}
use Rattle.ember_expr.specs.Grammar.{comparison, inside, odd, not_at, not_with, deeper}

-- what a number and the number of a mesh become, by the place of their token
pub record Checks : Type 0 where
  pub number : ℕ → ℕ → Result ℕ ExprFault
  pub mesh : ℕ → ℕ → Result ℕ ExprFault

-- the checks of the parser
abbrev pub limits : Scope → Checks
limits scope = record { number = limited; mesh = mesh_number scope }

-- the checks that accept every number
abbrev pub no_limits : Checks
no_limits = record { number = λ place n. Ok n; mesh = λ place n. Ok n }

-- ---- the rules
abbrev pub wind_at_by : Checks → Token → Word → List Token → Result (Read ℕ) ExprFault
wind_at_by c t (word.Wind n) ts = c.mesh t.place n >>= λ mesh. read mesh ts
wind_at_by c t _ ts = Err (Syntax t.place)

abbrev pub wind_by : Checks → Scope → Rule ℕ
wind_by c scope [] = Err (Syntax scope.end)
wind_by c scope (t ∷ ts) = wind_at_by c t t.word ts

abbrev pub scaled_by : Checks → Scope → Bool → ℕ → Rule Term
scaled_by c scope minus factor [] = read (product minus factor 0) []
scaled_by c scope minus factor (t ∷ ts) =
    if is_star t.word then (wind_by c scope ts >>= λ w. read (product minus factor w.part) w.rest) else read (product minus factor 0) (t ∷ ts)

abbrev pub term_at_by : Checks → Scope → Bool → Token → Word → List Token → Result (Read Term) ExprFault
term_at_by c scope minus t (word.Number n) ts = c.number t.place n >>= λ factor. scaled_by c scope minus factor ts
term_at_by c scope minus t (word.Wind n) ts = c.mesh t.place n >>= λ mesh. read (product minus 1 mesh) ts
term_at_by c scope minus t _ ts = Err (Syntax t.place)

abbrev pub term_by : Checks → Scope → Bool → Rule Term
term_by c scope minus [] = Err (Syntax scope.end)
term_by c scope minus (t ∷ ts) = term_at_by c scope minus t t.word ts

abbrev pub more_terms_by : Checks → Scope → ℕ → List Term → Rule (List Term)
more_terms_by c scope zero terms tokens = read terms tokens
more_terms_by c scope (suc count) terms tokens =
    where_some (sign_before tokens) (read terms tokens)
    (λ minus. term_by c scope minus (after_first tokens) >>= λ next. more_terms_by c scope count
    (terms ++ next.part ∷ []) next.rest)

abbrev pub first_term_by : Checks → Scope → Rule Term
first_term_by c scope tokens =
    if is_minus (sign_before tokens) then term_by c scope true (after_first tokens) else term_by c scope false tokens

abbrev pub sum_by : Checks → Scope → Rule (List Term)
sum_by c scope tokens =
    first_term_by c scope tokens >>= λ first. more_terms_by c scope (length first.rest) (first.part ∷ []) first.rest

abbrev pub comparison_by : Checks → Scope → Rule Formula
comparison_by c scope tokens =
    sum_by c scope tokens >>= λ left. relation scope left.rest >>= λ rel. sum_by c scope rel.rest >>= λ right. read
    (Compare left.part rel.part right.part) right.rest

abbrev pub odd_by : Checks → Scope → Option (Rule Formula) → Rule Formula
odd_by c scope inner [] = Err (Syntax scope.end)
odd_by c scope inner (t ∷ ts) =
    if is_open t.word then inside inner t.place (λ _. sum_by c scope ts >>= λ s. expect_close scope s.rest >>= λ rest.
    read (Odd s.part) rest) else Err (Syntax t.place)

abbrev pub not_at_by : Checks → Scope → Option (Rule Formula) → Token → Word → List Token → Result (Read Formula) ExprFault
not_at_by c scope inner t word.Bang ts = inside inner t.place (λ not. not ts >>= λ a. read (Not a.part) a.rest)
not_at_by c scope inner t word.Open ts = inside inner t.place (λ not. or not ts >>= λ a. expect_close scope a.rest >>= λ rest. read a.part rest)
not_at_by c scope inner t (word.Mesh n) ts = c.mesh t.place n >>= λ mesh. read (Mesh mesh) ts
not_at_by c scope inner t word.Odd ts = odd_by c scope inner ts
not_at_by c scope inner t _ ts = comparison_by c scope (t ∷ ts)

abbrev pub not_with_by : Checks → Scope → Option (Rule Formula) → Rule Formula
not_with_by c scope inner [] = Err (Syntax scope.end)
not_with_by c scope inner (t ∷ ts) = not_at_by c scope inner t t.word ts

abbrev pub deeper_by : Checks → Scope → ℕ → Option (Rule Formula)
deeper_by c scope zero = None
deeper_by c scope (suc left) = Some (not_with_by c scope (deeper_by c scope left))

abbrev pub not_by : Checks → Scope → ℕ → Rule Formula
not_by c scope left = not_with_by c scope (deeper_by c scope left)

-- ---- with its checks they are the parser's
same_after : {A B : Type 0} (r : Result A ExprFault) (go other : A → Result B ExprFault) → ((x : A) → go x ≡ other x) → (r >>= go) ≡ (r >>= other)
same_after (Ok x) go other h = h x
same_after (Err f) go other h = refl

wind_at_same : (scope : Scope) (t : Token) (w : Word) (ts : List Token) → wind_at scope t w ts ≡ wind_at_by (limits scope) t w ts
wind_at_same scope t (word.Wind n) ts = refl
wind_at_same scope t _ ts = refl

wind_same : (scope : Scope) (ts : List Token) → mesh_winding scope ts ≡ wind_by (limits scope) scope ts
wind_same scope [] = refl
wind_same scope (t ∷ ts) = wind_at_same scope t t.word ts

scaled_same : (scope : Scope) (minus : Bool) (n : ℕ) (ts : List Token) → after_number scope minus n ts ≡ scaled_by (limits scope) scope minus n ts
scaled_same scope minus n [] = refl
scaled_same scope minus n (t ∷ ts) = ap (λ (r : Result (Read ℕ) ExprFault). if is_star t.word then
    (r >>= λ w. read (product minus n w.part) w.rest) else read (product minus n 0) (t ∷ ts)) (wind_same scope ts)

term_at_same : (scope : Scope) (minus : Bool) (t : Token) (w : Word) (ts : List Token) →
    term_at scope minus t w ts ≡ term_at_by (limits scope) scope minus t w ts
term_at_same scope minus t (word.Number n) ts = same_after (limited t.place n) (λ k. after_number scope minus k ts)
    (λ k. scaled_by (limits scope) scope minus k ts) (λ k. scaled_same scope minus k ts)
term_at_same scope minus t _ ts = refl

term_same : (scope : Scope) (minus : Bool) (ts : List Token) → term scope minus ts ≡ term_by (limits scope) scope minus ts
term_same scope minus [] = refl
term_same scope minus (t ∷ ts) = term_at_same scope minus t t.word ts

same_where : {A B : Type 0} (o : Option A) (end : B) (go other : A → B) → ((x : A) → go x ≡ other x) → where_some o end go ≡ where_some o end other
same_where None end go other h = refl
same_where (Some x) end go other h = h x

more_terms_same : (scope : Scope) (count : ℕ) (s : List Term) (ts : List Token) → more_terms scope count s ts ≡ more_terms_by (limits scope) scope count s ts
more_terms_same scope zero s ts = refl
more_terms_same scope (suc count) s ts =
    same_where (sign_before ts) (read s ts) (λ minus. term scope minus (after_first ts) >>= λ next. more_terms scope
    count (s ++ next.part ∷ []) next.rest) (λ minus. term_by (limits scope) scope minus (after_first ts) >>= λ next.
    more_terms_by (limits scope) scope count (s ++ next.part ∷ []) next.rest)
    (λ minus. same_after (term scope minus (after_first ts))
    (λ next. more_terms scope count (s ++ next.part ∷ []) next.rest)
    (λ next. more_terms_by (limits scope) scope count (s ++ next.part ∷ []) next.rest)
    (λ next. more_terms_same scope count (s ++ next.part ∷ []) next.rest)
    ∙ ap (λ (r : Result (Read Term) ExprFault). r >>= λ next. more_terms_by (limits scope) scope count
    (s ++ next.part ∷ []) next.rest) (term_same scope minus (after_first ts)))

first_term_same : (scope : Scope) (ts : List Token) → first_term scope ts ≡ first_term_by (limits scope) scope ts
first_term_same scope ts =
    ap (λ (r : Result (Read Term) ExprFault). if is_minus (sign_before ts) then r else term scope false ts)
    (term_same scope true (after_first ts)) ∙ ap (λ (r : Result (Read Term) ExprFault). if is_minus (sign_before ts)
    then term_by (limits scope) scope true (after_first ts) else r) (term_same scope false ts)

sum_same : (scope : Scope) (ts : List Token) → sum scope ts ≡ sum_by (limits scope) scope ts
sum_same scope ts =
    same_after (first_term scope ts) (λ first. more_terms scope (length first.rest) (first.part ∷ []) first.rest)
    (λ first. more_terms_by (limits scope) scope (length first.rest) (first.part ∷ []) first.rest)
    (λ first. more_terms_same scope (length first.rest) (first.part ∷ []) first.rest)
    ∙ ap (λ (r : Result (Read Term) ExprFault). r >>= λ first. more_terms_by (limits scope) scope (length first.rest)
    (first.part ∷ []) first.rest) (first_term_same scope ts)

sum_rule_same : (scope : Scope) → sum scope ≡ sum_by (limits scope) scope
sum_rule_same scope = fun_ext (λ ts. sum_same scope ts)

-- a comparison over any rule of sums
abbrev comparison_of : Rule (List Term) → Scope → Rule Formula
comparison_of sum scope tokens =
    sum tokens >>= λ left. relation scope left.rest >>= λ rel. sum rel.rest >>= λ right. read (Compare left.part rel.part right.part) right.rest

comparison_same : (scope : Scope) (ts : List Token) → comparison scope ts ≡ comparison_by (limits scope) scope ts
comparison_same scope ts = ap (λ rule. comparison_of rule scope ts) (sum_rule_same scope)

odd_same : (scope : Scope) (inner : Option (Rule Formula)) (ts : List Token) → odd scope inner ts ≡ odd_by (limits scope) scope inner ts
odd_same scope inner [] = refl
odd_same scope inner (t ∷ ts) =
    ap (λ (r : Result (Read (List Term)) ExprFault). if is_open t.word then inside inner t.place
    (λ _. r >>= λ s. expect_close scope s.rest >>= λ rest. read (Odd s.part) rest) else Err (Syntax t.place))
    (sum_same scope ts)

not_at_same : (scope : Scope) (inner : Option (Rule Formula)) (t : Token) (w : Word) (ts : List Token) →
    not_at scope inner t w ts ≡ not_at_by (limits scope) scope inner t w ts
not_at_same scope inner t word.Bang ts = refl
not_at_same scope inner t word.Open ts = refl
not_at_same scope inner t (word.Mesh n) ts = refl
not_at_same scope inner t word.Odd ts = odd_same scope inner ts
not_at_same scope inner t _ ts = comparison_same scope (t ∷ ts)

not_with_same : (scope : Scope) (inner : Option (Rule Formula)) (ts : List Token) → not_with scope inner ts ≡ not_with_by (limits scope) scope inner ts
not_with_same scope inner [] = refl
not_with_same scope inner (t ∷ ts) = not_at_same scope inner t t.word ts

deeper_same : (scope : Scope) (left : ℕ) → deeper scope left ≡ deeper_by (limits scope) scope left
deeper_same scope zero = refl
deeper_same scope (suc left) =
    ap (λ rule. Some rule) (fun_ext (λ ts. not_with_same scope (deeper scope left) ts
    ∙ ap (λ inner. not_with_by (limits scope) scope inner ts) (deeper_same scope left)))

-- the rule of `not` is that of the parser's checks
pub not_same : (scope : Scope) (left : ℕ) → not_with scope (deeper scope left) ≡ not_by (limits scope) scope left
not_same scope left =
    fun_ext (λ ts. not_with_same scope (deeper scope left) ts ∙ ap (λ inner. not_with_by (limits scope) scope inner ts) (deeper_same scope left))
