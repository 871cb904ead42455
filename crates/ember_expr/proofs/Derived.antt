-- What the rules read from the front of the tokens is derived by the grammar.
use Rattle.std.proofs.Common.{◌≡◌, ℕ, zero, suc, ◌≤◌, Bool, true, false, if◌then◌else◌, List, [], ◌∷◌, ◌++◌, length}
use Rattle.std.proofs.Common.{refl, ap, sym, subst, ◌∙◌, rules, append_assoc, Some, None, Ok, Err, Result, Option}
use Rattle.ember_algebra.specs.Relations.{Every}
use Rattle.ember_algebra.proofs.Relations.{every_append}
use Rattle.ember_expr.specs.declared.fault.ExprFault.{ExprFault}
use Rattle.ember_expr.specs.declared.trees.Term.{Term}
use Rattle.ember_expr.specs.declared.token.Word.{Word}
use Rattle.ember_expr.specs.declared.token.Word.TheVariants as word
use Rattle.ember_expr.specs.declared.token.Token.{Token}
use Rattle.ember_expr.specs.declared.grammar.Scope.{Scope}
use Rattle.ember_expr.specs.Grammar.{Read, read, ◌>>=◌, limited, existing, mesh_number, wind_at, mesh_winding}
use Rattle.ember_expr.specs.Grammar.{after_number, term_at, term, product, is_star, minus_of, sign_before, after_first}
use Rattle.ember_expr.specs.Grammar.{where_some, more_terms, is_minus, first_term, sum}
use Rattle.ember_expr.specs.Derivation.{IsTerm, IsSum, IsFitWord, IsFitMesh, words}
use Rattle.ember_expr.specs.Derivation as grammar

-- ---- results
abbrev pub IfReads : {A : Type 0} → (A → Type 0) → Result A ExprFault → Type 0
IfReads P (Ok x) = P x
IfReads P (Err fault) = Unit {0}

-- a fact of the first result that makes the fact of the second one
pub if_bind : {A B : Type 0} (P : A → Type 0) (Q : B → Type 0) (r : Result A ExprFault) (go : A → Result B ExprFault) →
    IfReads P r → ((x : A) → P x → IfReads Q (go x)) → IfReads Q (r >>= go)
if_bind P Q (Ok x) go h next = next x h
if_bind P Q (Err fault) go h next = tt

if_equal : {A : Type 0} (P : A → Type 0) (r : Result A ExprFault) → ((x : A) → r ≡ Ok x → P x) → IfReads P r
if_equal P (Ok x) h = h x refl
if_equal P (Err fault) h = tt

-- a fact of both branches of a test
pub if_test : {A : Type 0} (P : A → Type 0) (b : Bool) (x y : Result A ExprFault) → (b ≡ true → IfReads P x) →
    (b ≡ false → IfReads P y) → IfReads P (if b then x else y)
if_test P true x y h k = h refl
if_test P false x y h k = k refl

if_some : {A B : Type 0} (P : B → Type 0) (o : Option A) (end : Result B ExprFault) (go : A → Result B ExprFault) →
    (o ≡ None → IfReads P end) → ((x : A) → o ≡ Some x → IfReads P (go x)) → IfReads P (where_some o end go)
if_some P None end go h k = h refl
if_some P (Some x) end go h k = k x refl

-- ---- numbers
limited_ok : (place n x : ℕ) → limited place n ≡ Ok x → (n ≡ x) × (n ≤ 1000000)
limited_ok place n x e = (search rules, search rules)

limited_fits : (place n : ℕ) → IfReads (λ x. (n ≡ x) × (n ≤ 1000000)) (limited place n)
limited_fits place n = if_equal (λ x. (n ≡ x) × (n ≤ 1000000)) (limited place n) (limited_ok place n)

existing_ok : (scope : Scope) (n x : ℕ) → existing scope n ≡ Ok x → (n ≡ x) × (1 ≤ n) × (n ≤ scope.meshes)
existing_ok scope n x e = (search rules, search rules, search rules)

-- a mesh number that is read is the number in the text, and there is a mesh of that number
pub mesh_fits : (scope : Scope) (place n : ℕ) → IfReads (λ x. (n ≡ x) × IsFitMesh scope.meshes n) (mesh_number scope place n)
mesh_fits scope place n =
    if_bind (λ x. (n ≡ x) × (n ≤ 1000000)) (λ x. (n ≡ x) × IsFitMesh scope.meshes n) (limited place n)
    (λ k. existing scope k) (limited_fits place n)
    (λ x small. if_equal (λ y. (n ≡ y) × IsFitMesh scope.meshes n) (existing scope x) (λ y e. let f =
    existing_ok scope x y e in (
      small.0 ∙ f.0,
      record { small = small.1; first = rw small.0 f.1; last = rw small.0 f.2 },
    )))

-- ---- the front of the tokens
-- the words before the rest, and what they are
pub record Front {A : Type 0} (P : List Word → A → Type 0) (all : List Word) (part : A) (rest : List Token) : Type 0 where
  pub ws : List Word
  pub split : all ≡ ws ++ words rest
  pub holds : P ws part

-- what is read is the front of these words
abbrev pub FrontOf : {A : Type 0} → (List Word → A → Type 0) → List Word → Read A → Type 0
FrontOf P all r = Front P all r.part r.rest

-- ---- terms
abbrev pub FitTerm : ℕ → Bool → List Word → Term → Type 0
FitTerm meshes minus ws t = IsTerm minus ws t × Every (IsFitWord meshes) ws

abbrev pub FitSum : ℕ → List Word → List Term → Type 0
FitSum meshes ws s = IsSum ws s × Every (IsFitWord meshes) ws

record WindFront (meshes : ℕ) (all : List Word) (m : ℕ) (rest : List Token) : Type 0 where
  split : all ≡ word.Wind m ∷ words rest
  fit : IsFitMesh meshes m

wind_at_front : (scope : Scope) (t : Token) (w : Word) (ts : List Token) →
    IfReads (λ r. WindFront scope.meshes (w ∷ words ts) r.part r.rest) (wind_at scope t w ts)
wind_at_front scope t (word.Wind n) ts =
    if_bind (λ x. (n ≡ x) × IsFitMesh scope.meshes n)
    (λ r. WindFront scope.meshes (word.Wind n ∷ words ts) r.part r.rest) (mesh_number scope t.place n)
    (λ mesh. read mesh ts) (mesh_fits scope t.place n)
    (λ x fit. subst (λ k. WindFront scope.meshes (word.Wind n ∷ words ts) k ts) fit.0
    (record { split = refl; fit = fit.1 }))
wind_at_front scope t _ ts = tt

wind_front : (scope : Scope) (ts : List Token) → IfReads (λ r. WindFront scope.meshes (words ts) r.part r.rest) (mesh_winding scope ts)
wind_front scope [] = tt
wind_front scope (t ∷ ts) = wind_at_front scope t t.word ts

star_at : (w : Word) → is_star w ≡ true → w ≡ word.Star
star_at word.Star e = refl
star_at _ e = cc

scaled_front : (scope : Scope) (minus : Bool) (n : ℕ) (fit : n ≤ 1000000) (ts : List Token) →
    IfReads (FrontOf (FitTerm scope.meshes minus) (word.Number n ∷ words ts)) (after_number scope minus n ts)
scaled_front scope minus n fit [] = record { ws = word.Number n ∷ []; split = refl; holds = (grammar.number, (fit, tt)) }
scaled_front scope minus n fit (t ∷ ts) =
    if_test (FrontOf (FitTerm scope.meshes minus) (word.Number n ∷ t.word ∷ words ts)) (is_star t.word)
    (mesh_winding scope ts >>= λ w. read (product minus n w.part) w.rest) (read (product minus n 0) (t ∷ ts))
    (λ star. if_bind (λ r. WindFront scope.meshes (words ts) r.part r.rest)
    (FrontOf (FitTerm scope.meshes minus) (word.Number n ∷ t.word ∷ words ts)) (mesh_winding scope ts)
    (λ w. read (product minus n w.part) w.rest) (wind_front scope ts)
    (λ r front. record {
      ws = word.Number n ∷ word.Star ∷ word.Wind r.part ∷ [];
      split =
          rw (star_at t.word star) (ap (λ us. word.Number n ∷ word.Star ∷ us) front.split);
      holds =
          (grammar.times, (fit, (tt, (front.fit, tt))));
    }))
    (λ other. record { ws = word.Number n ∷ []; split = refl; holds = (grammar.number, (fit, tt)) })

term_at_front : (scope : Scope) (minus : Bool) (t : Token) (w : Word) (ts : List Token) →
    IfReads (FrontOf (FitTerm scope.meshes minus) (w ∷ words ts)) (term_at scope minus t w ts)
term_at_front scope minus t (word.Number n) ts =
    if_bind (λ x. (n ≡ x) × (n ≤ 1000000)) (FrontOf (FitTerm scope.meshes minus) (word.Number n ∷ words ts))
    (limited t.place n) (λ factor. after_number scope minus factor ts) (limited_fits t.place n)
    (λ x fit. subst (λ k. IfReads (FrontOf (FitTerm scope.meshes minus) (word.Number n ∷ words ts))
    (after_number scope minus k ts)) fit.0 (scaled_front scope minus n fit.1 ts))
term_at_front scope minus t (word.Wind n) ts =
    if_bind (λ x. (n ≡ x) × IsFitMesh scope.meshes n) (FrontOf (FitTerm scope.meshes minus) (word.Wind n ∷ words ts))
    (mesh_number scope t.place n) (λ mesh. read (product minus 1 mesh) ts) (mesh_fits scope t.place n)
    (λ x fit. subst (λ k. Front (FitTerm scope.meshes minus) (word.Wind n ∷ words ts) (product minus 1 k) ts) fit.0
    (record { ws = word.Wind n ∷ []; split = refl; holds = (grammar.wind, (fit.1, tt)) }))
term_at_front scope minus t _ ts = tt

term_front : (scope : Scope) (minus : Bool) (ts : List Token) → IfReads (FrontOf (FitTerm scope.meshes minus) (words ts)) (term scope minus ts)
term_front scope minus [] = tt
term_front scope minus (t ∷ ts) = term_at_front scope minus t t.word ts

-- ---- sums
abbrev pub sign_word : Bool → Word
sign_word true = word.Minus
sign_word false = word.Plus

sign_at : (w : Word) (minus : Bool) → minus_of w ≡ Some minus → w ≡ sign_word minus
sign_at word.Plus false e = refl
sign_at word.Plus true e = cc
sign_at word.Minus true e = refl
sign_at word.Minus false e = cc
sign_at _ minus e = cc

sign_split : (ts : List Token) (minus : Bool) → sign_before ts ≡ Some minus → words ts ≡ sign_word minus ∷ words (after_first ts)
sign_split [] minus e = cc
sign_split (t ∷ ts) minus e = ap (λ w. w ∷ words ts) (sign_at t.word minus e)

one_more_term : (minus : Bool) {vs ws : List Word} {s : List Term} {t : Term} → IsSum vs s → IsTerm minus ws t →
    IsSum (vs ++ sign_word minus ∷ ws) (s ++ t ∷ [])
one_more_term true d e = grammar.minus d e
one_more_term false d e = grammar.plus d e

sign_fits : (meshes : ℕ) (minus : Bool) → IsFitWord meshes (sign_word minus)
sign_fits meshes true = tt
sign_fits meshes false = tt

-- a part that follows a sign is at the front together with what was before
pub signed_part_is_appended : (vs : List Word) (w : Word) (all us ws : List Word) (rest : List Token) →
    all ≡ vs ++ w ∷ us → us ≡ ws ++ words rest → all ≡ (vs ++ w ∷ ws) ++ words rest
signed_part_is_appended vs w all us ws rest e f = e ∙ (ap (λ u. vs ++ w ∷ u) f ∙ sym (append_assoc vs (w ∷ ws) (words rest)))

more_terms_front : (scope : Scope) (count : ℕ) (vs all : List Word) (s : List Term) (ts : List Token) →
    all ≡ vs ++ words ts → FitSum scope.meshes vs s →
    IfReads (FrontOf (FitSum scope.meshes) all) (more_terms scope count s ts)
more_terms_front scope zero vs all s ts split is = record { ws = vs; split = split; holds = is }
more_terms_front scope (suc count) vs all s ts split is =
    if_some (FrontOf (FitSum scope.meshes) all) (sign_before ts) (read s ts)
    (λ minus. term scope minus (after_first ts) >>= λ next. more_terms scope count (s ++ next.part ∷ []) next.rest)
    (λ none. record { ws = vs; split = split; holds = is })
    (λ minus sign. if_bind (FrontOf (FitTerm scope.meshes minus) (words (after_first ts)))
    (FrontOf (FitSum scope.meshes) all) (term scope minus (after_first ts))
    (λ next. more_terms scope count (s ++ next.part ∷ []) next.rest) (term_front scope minus (after_first ts))
    (λ next front. more_terms_front scope count (vs ++ sign_word minus ∷ front.ws) all (s ++ next.part ∷ []) next.rest
    (signed_part_is_appended vs (sign_word minus) all (words (after_first ts)) front.ws next.rest
    (split ∙ ap (λ u. vs ++ u) (sign_split ts minus sign)) front.split) (
      one_more_term minus is.0 front.holds.0,
      every_append (IsFitWord scope.meshes) vs (sign_word minus ∷ front.ws) is.1 (
        sign_fits scope.meshes minus,
        front.holds.1,
      ),
    )))

is_minus_at : (o : Option Bool) → is_minus o ≡ true → o ≡ Some true
is_minus_at (Some true) e = refl
is_minus_at (Some false) e = cc
is_minus_at None e = cc

if_reads_map : {A : Type 0} (P Q : A → Type 0) (r : Result A ExprFault) → ((x : A) → P x → Q x) → IfReads P r → IfReads Q r
if_reads_map P Q (Ok x) imp h = imp x h
if_reads_map P Q (Err fault) imp h = tt

abbrev OneTerm : Scope → List Token → Read Term → Type 0
OneTerm scope ts r = Front (FitSum scope.meshes) (words ts) (r.part ∷ []) r.rest

negative_front : (scope : Scope) (ts : List Token) → words ts ≡ word.Minus ∷ words (after_first ts) →
    IfReads (OneTerm scope ts) (term scope true (after_first ts))
negative_front scope ts sign =
    if_reads_map (FrontOf (FitTerm scope.meshes true) (words (after_first ts))) (OneTerm scope ts)
    (term scope true (after_first ts)) (λ r front. record {
      ws = word.Minus ∷ front.ws;
      split =
          sign ∙ ap (λ u. word.Minus ∷ u) front.split;
      holds = (grammar.negative front.holds.0, (tt, front.holds.1));
    })
    (term_front scope true (after_first ts))

plain_front : (scope : Scope) (ts : List Token) → IfReads (OneTerm scope ts) (term scope false ts)
plain_front scope ts =
    if_reads_map (FrontOf (FitTerm scope.meshes false) (words ts)) (OneTerm scope ts) (term scope false ts)
    (λ r front. record { ws = front.ws; split = front.split; holds = (grammar.first front.holds.0, front.holds.1) })
    (term_front scope false ts)

first_term_front : (scope : Scope) (ts : List Token) → IfReads (OneTerm scope ts) (first_term scope ts)
first_term_front scope ts =
    if_test (OneTerm scope ts) (is_minus (sign_before ts)) (term scope true (after_first ts)) (term scope false ts)
    (λ minus. negative_front scope ts (sign_split ts true (is_minus_at (sign_before ts) minus)))
    (λ plain. plain_front scope ts)

-- what is read as a sum is a sum of the grammar
pub sum_front : (scope : Scope) (ts : List Token) → IfReads (FrontOf (FitSum scope.meshes) (words ts)) (sum scope ts)
sum_front scope ts =
    if_bind (OneTerm scope ts) (FrontOf (FitSum scope.meshes) (words ts)) (first_term scope ts)
    (λ first. more_terms scope (length first.rest) (first.part ∷ []) first.rest) (first_term_front scope ts)
    (λ first front. more_terms_front scope (length first.rest) front.ws (words ts) (first.part ∷ []) first.rest
    front.split front.holds)
