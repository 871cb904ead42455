-- A text within the limits has the tree of the grammar, and words have at most one tree.
use Rattle.std.proofs.Common.{◌≡◌, ℕ, ◌≤◌, max, Bool, true, false, if◌then◌else◌, nat_le, List, [], ◌∷◌, map, length}
use Rattle.std.proofs.Common.{refl, ap, sym, subst, ◌∙◌, arith, rules, Ok, Err, Result, inl, inr}
use Rattle.ember_algebra.specs.Relations.{Every}
use Rattle.ember_algebra.proofs.Relations.{every_map}
use Rattle.ember_expr.specs.declared.fault.ExprFault.{ExprFault}
use Rattle.ember_expr.specs.declared.fault.ExprFault.TheVariants.{Syntax, Deep, NoMesh, Long}
use Rattle.ember_expr.specs.declared.fault.ExprFault.TheVariants as fault
use Rattle.ember_expr.specs.declared.token.Word.{Word}
use Rattle.ember_expr.specs.declared.token.Word.TheVariants as word
use Rattle.ember_expr.specs.declared.token.Token.{Token}
use Rattle.ember_expr.specs.declared.grammar.Scope.{Scope}
use Rattle.ember_expr.specs.Formula.{Formula}
use Rattle.ember_expr.specs.Tokens.{tokens_of}
use Rattle.ember_expr.specs.Grammar.{Read, ◌>>=◌, or, not, limited, existing, mesh_number, ended, whole, expr_of}
use Rattle.ember_expr.specs.Derivation.{Phrase, Derives, IsExpression, depth, IsFitWord, IsFitMesh, words, HasTree}
use Rattle.ember_expr.specs.Derivation as grammar
use Rattle.ember_expr.proofs.Derived.{IfReads}
use Rattle.ember_expr.proofs.DerivedTrees.{IsWithin, whole_derived}
use Rattle.ember_expr.proofs.Checked.{limits, no_limits, not_by, not_same}
use Rattle.ember_expr.proofs.Complete.{Accepts, PassesAs, Passes}
use Rattle.ember_expr.proofs.CompleteTrees.{Shallow, text_accepts}

abbrev Never : ExprFault → Type 0
Never fault = ⊥

every_one : {X : Type 0} (P : X → Type 0) → ((x : X) → P x) → (xs : List X) → Every P xs
every_one P h [] = tt
every_one P h (x ∷ xs) = (h x, every_one P h xs)

-- ---- the tree of a text within the limits
number_passes : (n : ℕ) → n ≤ 1000000 → (place : ℕ) → PassesAs Never n (limited place n)
number_passes n fit place =
    let small : nat_le n 1000000 ≡ true = search (rules, fit) in
    rw small refl

mesh_passes : (scope : Scope) (n : ℕ) → IsFitMesh scope.meshes n → (place : ℕ) → PassesAs Never n (mesh_number scope place n)
mesh_passes scope n fit place =
    let small : nat_le n 1000000 ≡ true = search (rules, fit.small) in
    let first : nat_le 1 n ≡ true = search (rules, fit.first) in
    let last : nat_le n scope.meshes ≡ true = search (rules, fit.last) in
    rw (small, first, last) refl

fit_passes : (scope : Scope) (w : Word) → IsFitWord scope.meshes w → Passes Never (limits scope) w
fit_passes scope (word.Number n) fit = number_passes n fit
fit_passes scope (word.Mesh n) fit = mesh_passes scope n fit
fit_passes scope (word.Wind n) fit = mesh_passes scope n fit
fit_passes scope _ fit = tt

all_read : (f g : Formula) (rest : List Token) → g ≡ f → words rest ≡ [] → ended g rest ≡ Ok f
all_read f g [] same none = ap (λ t. Ok t) same
all_read f g (t ∷ ts) same none = cc

ends_with : (f : Formula) (r : Result (Read Formula) ExprFault) → Accepts Never f [] r → (r >>= λ e. ended e.part e.rest) ≡ Ok f
ends_with f (Ok x) h = all_read f x.part x.rest h.0 h.1
ends_with f (Err fault) h = absurd h

whole_of : (scope : Scope) (left : ℕ) (ts : List Token) (f : Formula) (d : IsExpression (words ts) f) → depth d ≤ left →
    Every (IsFitWord scope.meshes) (words ts) → whole scope left ts ≡ Ok f
unfolding whole
whole_of scope left ts f d shallow fit =
    ends_with f (or (not scope left) ts) (subst (λ rule. Accepts Never f [] (or rule ts)) (sym (not_same scope left))
    (text_accepts Never (limits scope) scope left (words ts) f d (inl shallow)
    (every_map (IsFitWord scope.meshes) (Passes Never (limits scope)) (fit_passes scope) (words ts) fit) ts refl))

-- a text of the grammar within the limits is parsed as its tree
pub text_is_parsed : (text : List ℕ) (meshes : ℕ) (f : Formula) → HasTree text meshes f → expr_of text meshes ≡ Ok f
text_is_parsed text meshes f h =
    let short : nat_le (length text) 4096 ≡ true = search (rules, h.short) in
    rw short (whole_of (record { meshes = meshes; end = length text }) 64 (tokens_of text) f h.derived h.shallow h.fit)

is_read : {A : Type 0} (P : A → Type 0) (r : Result A ExprFault) (x : A) → r ≡ Ok x → IfReads P r → P x
is_read P r x e h = subst (IfReads P) e h

tree_of : (text : List ℕ) (meshes : ℕ) (f : Formula) → length text ≤ 4096 → IsWithin meshes 64 grammar.or (words (tokens_of text)) f → HasTree text meshes f
tree_of text meshes f short h = record { short = short; derived = h.derived; shallow = h.shallow; fit = h.fit }

parsed_by : (text : List ℕ) (meshes : ℕ) (f : Formula) (short : Bool) → nat_le (length text) 4096 ≡ short →
    ◌≡◌ {A = Result Formula ExprFault} (if short then whole (record { meshes = meshes; end = length text }) 64
    (tokens_of text) else Err Long) (Ok f) → HasTree text meshes f
parsed_by text meshes f true short e =
    tree_of text meshes f (search (rules, short))
    (is_read (λ g. IsWithin meshes 64 grammar.or (words (tokens_of text)) g)
    (whole (record { meshes = meshes; end = length text }) 64 (tokens_of text)) f e
    (whole_derived (record { meshes = meshes; end = length text }) 64 (tokens_of text)))
parsed_by text meshes f false short e = cc

-- what is parsed is a text of the grammar within the limits
pub parsed_has_tree : (text : List ℕ) (meshes : ℕ) (f : Formula) → expr_of text meshes ≡ Ok f → HasTree text meshes f
parsed_has_tree text meshes f e = parsed_by text meshes f (nat_le (length text) 4096) refl e

-- ---- a text of the grammar has no fault but those of the limits
abbrev pub IsLimit : ExprFault → Type 0
IsLimit (Syntax place) = ⊥
IsLimit _ = Unit {0}

-- the faults that a number may have
record AreOfNumbers (bad : ExprFault → Type 0) : Type 0 where
  number : (place : ℕ) → bad (fault.Number place)
  mesh : (n : ℕ) → bad (NoMesh n)

limited_passes : (bad : ExprFault → Type 0) → AreOfNumbers bad → (place n : ℕ) (small : Bool) →
    PassesAs bad n (if small then Ok n else Err (fault.Number place))
limited_passes bad are place n true = refl
limited_passes bad are place n false = are.number place

existing_passes : (bad : ExprFault → Type 0) → AreOfNumbers bad → (n : ℕ) (exists : Bool) →
    PassesAs bad n (if exists then Ok n else Err (NoMesh n))
existing_passes bad are n true = refl
existing_passes bad are n false = are.mesh n

mesh_limited : (bad : ExprFault → Type 0) → AreOfNumbers bad → (scope : Scope) (place n : ℕ) (small : Bool) →
    PassesAs bad n ((if small then Ok n else Err (fault.Number place)) >>= λ k. existing scope k)
mesh_limited bad are scope place n true = existing_passes bad are n _
mesh_limited bad are scope place n false = are.number place

-- a word is refused here by the limit of its number or not at all
limits_pass : (bad : ExprFault → Type 0) → AreOfNumbers bad → (scope : Scope) (w : Word) → Passes bad (limits scope) w
limits_pass bad are scope (word.Number n) = λ place. limited_passes bad are place n (nat_le n 1000000)
limits_pass bad are scope (word.Mesh n) = λ place. mesh_limited bad are scope place n (nat_le n 1000000)
limits_pass bad are scope (word.Wind n) = λ place. mesh_limited bad are scope place n (nat_le n 1000000)
limits_pass bad are scope _ = tt

at_end : (g : Formula) (rest : List Token) (fault : ExprFault) → words rest ≡ [] → ended g rest ≡ Err fault → ⊥
at_end g [] fault none e = cc
at_end g (t ∷ ts) fault none e = cc

-- equal errors have equal faults
pub err_same : (a b : ExprFault) → ◌≡◌ {A = Result Formula ExprFault} (Err a) (Err b) → a ≡ b
err_same a b e = cc

not_faulty : (bad : ExprFault → Type 0) (f : Formula) (fault : ExprFault) (r : Result (Read Formula) ExprFault) →
    Accepts bad f [] r → (r >>= λ e. ended e.part e.rest) ≡ Err fault → bad fault
not_faulty bad f fault (Ok x) h e = absurd (at_end x.part x.rest fault h.1 e)
not_faulty bad f fault (Err other) h e = subst bad (err_same other fault e) h

whole_fault : (bad : ExprFault → Type 0) → AreOfNumbers bad → (scope : Scope) (left : ℕ) (ts : List Token) (f : Formula)
    (fault : ExprFault) (d : IsExpression (words ts) f) → Shallow bad (depth d) left →
    whole scope left ts ≡ Err fault → bad fault
unfolding whole
whole_fault bad are scope left ts f fault d shallow e =
    not_faulty bad f fault (or (not scope left) ts)
    (subst (λ rule. Accepts bad f [] (or rule ts)) (sym (not_same scope left))
    (text_accepts bad (limits scope) scope left (words ts) f d shallow
    (every_one (Passes bad (limits scope)) (limits_pass bad are scope) (words ts)) ts refl)) e

-- a text that the grammar derives has no fault of syntax
pub whole_no_syntax : (scope : Scope) (left : ℕ) (ts : List Token) (f : Formula) (place : ℕ) →
    IsExpression (words ts) f → whole scope left ts ≡ Err (Syntax place) → ⊥
whole_no_syntax scope left ts f place d e =
    whole_fault IsLimit (record { number = λ p. tt; mesh = λ n. tt }) scope left ts f (Syntax place) d (inr (λ p. tt)) e

abbrev IsOfNumber : ExprFault → Type 0
IsOfNumber (NoMesh n) = Unit {0}
IsOfNumber (fault.Number place) = Unit {0}
IsOfNumber _ = ⊥

-- nor is it too deep, if its depth is within what is left
pub whole_not_deep : (scope : Scope) (left : ℕ) (ts : List Token) (f : Formula) (place : ℕ)
    (d : IsExpression (words ts) f) → depth d ≤ left → whole scope left ts ≡ Err (Deep place) → ⊥
whole_not_deep scope left ts f place d shallow e =
    whole_fault IsOfNumber (record { number = λ p. tt; mesh = λ n. tt }) scope left ts f (Deep place) d (inl shallow) e

no_syntax_by : (text : List ℕ) (meshes place : ℕ) (f : Formula) (short : Bool) →
    IsExpression (words (tokens_of text)) f → ◌≡◌ {A =
    Result Formula ExprFault} (if short then whole (record { meshes = meshes; end = length text }) 64 (tokens_of text)
    else Err Long) (Err (Syntax place)) → ⊥
no_syntax_by text meshes place f true d e = whole_no_syntax (record { meshes = meshes; end = length text }) 64 (tokens_of text) f place d e
no_syntax_by text meshes place f false d e = cc

-- a text of the grammar has no syntax fault
pub text_has_no_syntax_fault : (text : List ℕ) (meshes place : ℕ) (f : Formula) →
    IsExpression (words (tokens_of text)) f → expr_of text meshes ≡ Err (Syntax place) → ⊥
text_has_no_syntax_fault text meshes place f d e = no_syntax_by text meshes place f (nat_le (length text) 4096) d e

-- ---- one tree
abbrev pub unplaced : List Word → List Token
unplaced ws = map (λ w. record { word = w; place = 0 }) ws

-- the words of tokens that were made from words
pub unplaced_words : (ws : List Word) → words (unplaced ws) ≡ ws
unplaced_words [] = refl
unplaced_words (w ∷ ws) = ap (λ us. w ∷ us) (unplaced_words ws)

all_pass : (w : Word) → Passes Never no_limits w
all_pass (word.Number n) = λ place. refl
all_pass (word.Mesh n) = λ place. refl
all_pass (word.Wind n) = λ place. refl
all_pass _ = tt

one_result : (f g : Formula) (r : Result (Read Formula) ExprFault) → Accepts Never f [] r → Accepts Never g [] r → f ≡ g
one_result f g (Ok x) h k = sym h.0 ∙ k.0
one_result f g (Err fault) h k = absurd h

one_tree : (ws : List Word) (f g : Formula) → IsExpression ws f → IsExpression ws g → f ≡ g
one_tree ws f g d e =
    one_result f g (or (not_by no_limits (record { meshes = 0; end = 0 }) (max (depth d) (depth e))) (unplaced ws))
    (text_accepts Never no_limits (record { meshes = 0; end = 0 }) (max (depth d) (depth e)) ws f d
    (inl (omega arith)) (every_one (Passes Never no_limits) all_pass ws) (unplaced ws) (unplaced_words ws))
    (text_accepts Never no_limits (record { meshes = 0; end = 0 }) (max (depth d) (depth e)) ws g e
    (inl (omega arith)) (every_one (Passes Never no_limits) all_pass ws) (unplaced ws) (unplaced_words ws))

as_expression : {p : Phrase} {ws : List Word} {f : Formula} → Derives p ws f → IsExpression ws f
as_expression {p = grammar.or} d = d
as_expression {p = grammar.xor} d = grammar.one_xor d
as_expression {p = grammar.and} d = grammar.one_xor (grammar.one_and d)
as_expression {p = grammar.not} d = grammar.one_xor (grammar.one_and (grammar.one_not d))
as_expression {p = grammar.atom} d = grammar.one_xor (grammar.one_and (grammar.one_not (grammar.one_atom d)))

-- the words of a phrase have one tree
pub phrase_unique : (p : Phrase) (ws : List Word) (f g : Formula) → Derives p ws f → Derives p ws g → f ≡ g
phrase_unique p ws f g d e = one_tree ws f g (as_expression d) (as_expression e)
