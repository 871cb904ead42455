-- Where the rules of trees stop.
use Rattle.std.proofs.Common.{◌≡◌, ℕ, zero, suc, ◌+◌, ◌≤◌, max, Bool, true, false, List, [], ◌∷◌, ◌++◌, refl, sym, subst}
use Rattle.std.proofs.Common.{Some, None, Option, Err, arith}
use Rattle.std.specs.Prelude.{⊤}
use Rattle.ember_expr.specs.declared.trees.Rel.{Rel}
use Rattle.ember_expr.specs.declared.trees.Rel.TheVariants.{Equal}
use Rattle.ember_expr.specs.declared.trees.Term.{Term}
use Rattle.ember_expr.specs.declared.fault.ExprFault.TheVariants.{Syntax, Deep}
use Rattle.ember_expr.specs.declared.token.Word.{Word}
use Rattle.ember_expr.specs.declared.token.Word.TheVariants as word
use Rattle.ember_expr.specs.declared.token.Token.{Token}
use Rattle.ember_expr.specs.declared.grammar.Operator.{Operator}
use Rattle.ember_expr.specs.declared.grammar.Operator.TheVariants as operator
use Rattle.ember_expr.specs.declared.grammar.Scope.{Scope}
use Rattle.ember_expr.specs.Formula.{Formula, Not, Mesh, Odd, Compare}
use Rattle.ember_expr.specs.Grammar.{read, Rule, ◌>>=◌, product, mesh_number, sum, begins_with, joins, join, more_parts}
use Rattle.ember_expr.specs.Grammar.{chain_of, part_of, or, expect_close, relation, comparison, odd, not_with}
use Rattle.ember_expr.specs.Grammar.{not}
use Rattle.ember_expr.specs.Derivation.{IsSum, Phrase, Derives, depth, words}
use Rattle.ember_expr.specs.Derivation as grammar
use Rattle.ember_expr.proofs.DerivedTrees.{chain_phrase, part_phrase, operator_word, operator_at, some_same}
use Rattle.ember_expr.proofs.Stops.{by_same, by_none, Form, Completes, complete_now, Stops, both_stop, as_stops}
use Rattle.ember_expr.proofs.Stops.{step_stops, read_after}
use Rattle.ember_expr.proofs.FirstTokenStops.{token, fault_at_end, fault_at, like_at, check_stops, inside_stops}
use Rattle.ember_expr.proofs.FirstTokenStops.{mesh_checks, odd_faults}
use Rattle.ember_expr.proofs.ChainStops.{Turn, ends, goes, chain_stops}
use Rattle.ember_expr.proofs.SumStops.{always, sum_stops}

-- ---- depths
-- at most `left` deep (true), or of any depth (false)
abbrev pub IsShallow : Bool → ℕ → ℕ → Type 0
IsShallow true n left = n ≤ left
IsShallow false n left = ⊤

-- the words are a phrase of this tree, and of a depth within `left`
pub record IsPhrase (left : ℕ) (p : Phrase) (k : Bool) (ws : List Word) (f : Formula) : Type 0 where
  pub derived : Derives p ws f
  pub shallow : IsShallow k (depth derived) left

flat : (k : Bool) (left : ℕ) → IsShallow k 0 left
flat true left = omega arith
flat false left = tt

both_shallow : (k : Bool) (m n left : ℕ) → IsShallow k m left → IsShallow k n left → IsShallow k (max m n) left
both_shallow true m n left h e = omega (arith, h, e)
both_shallow false m n left h e = tt

one_deeper : (k : Bool) (n inner left : ℕ) → left ≡ suc inner → IsShallow k n inner → IsShallow k (n + 1) left
one_deeper true n inner left e h = omega (arith, e, h)
one_deeper false n inner left e h = tt

once_deep : (k : Bool) (inner left : ℕ) → left ≡ suc inner → IsShallow k 1 left
once_deep true inner left e = omega (arith, e)
once_deep false inner left e = tt

-- ---- chains
parts_end : (kind : Operator) (part : Rule Formula) (us : List Token) → begins_with kind us ≡ false →
    (count : ℕ) (f : Formula) → more_parts kind part count f us ≡ read f us
parts_end kind part us none zero f = refl
parts_end kind part us none (suc count) f = rw none refl

one_part : (kind : Operator) (left : ℕ) (k : Bool) (ws : List Word) (f : Formula) →
    IsPhrase left (part_phrase kind) k ws f → IsPhrase left (chain_phrase kind) k ws f
one_part operator.Or left k ws f d = record { derived = grammar.one_xor d.derived; shallow = d.shallow }
one_part operator.Xor left k ws f d = record { derived = grammar.one_and d.derived; shallow = d.shallow }
one_part operator.And left k ws f d = record { derived = grammar.one_not d.derived; shallow = d.shallow }

joined : (kind : Operator) (left : ℕ) (k : Bool) (vs ws : List Word) (f g : Formula) →
    IsPhrase left (chain_phrase kind) k vs f → IsPhrase left (part_phrase kind) k ws g →
    IsPhrase left (chain_phrase kind) k (vs ++ operator_word kind ∷ ws) (join kind f g)
joined operator.Or left k vs ws f g d e = record {
  derived = grammar.bar d.derived e.derived;
  shallow = both_shallow k (depth d.derived) (depth e.derived) left d.shallow e.shallow;
}
joined operator.Xor left k vs ws f g d e = record {
  derived = grammar.hat d.derived e.derived;
  shallow = both_shallow k (depth d.derived) (depth e.derived) left d.shallow e.shallow;
}
joined operator.And left k vs ws f g d e = record {
  derived = grammar.amp d.derived e.derived;
  shallow = both_shallow k (depth d.derived) (depth e.derived) left d.shallow e.shallow;
}

operator_fits : (kind : Operator) (scope : Scope) → grammar.IsFitWord scope.meshes (operator_word kind)
operator_fits operator.Or scope = tt
operator_fits operator.Xor scope = tt
operator_fits operator.And scope = tt

abbrev PartTurn : Operator → ℕ → Rule Formula → Scope → List Token → Type 0
PartTurn kind left part scope ts =
    Turn {M = Unit {0}} (more_parts kind part) (λ m. IsPhrase left (part_phrase kind)) (IsPhrase left (chain_phrase kind)) scope ts

part_turn_at : (kind : Operator) (left : ℕ) (part : Rule Formula) (scope : Scope) →
    ((ts : List Token) → Stops (IsPhrase left (part_phrase kind)) scope part ts) →
    (t : Token) (ts : List Token) (go_on : Bool) → joins kind t.word ≡ go_on → PartTurn kind left part scope (t ∷ ts)
part_turn_at kind left part scope stops t ts true e =
    let is = operator_at kind t.word e in
    goes tt t ts part (λ f g. join kind f g) refl
    (subst (λ w. grammar.IsFitWord scope.meshes w) (sym is) (operator_fits kind scope)) (λ vs count f. rw e refl)
    (stops ts) (λ k vs ws f g d p. subst (λ w. IsPhrase left (chain_phrase kind) k (vs ++ w ∷ ws) (join kind f g))
    (sym is) (joined kind left k vs ws f g d p))
part_turn_at kind left part scope stops t ts false e =
    ends (λ us same count f. parts_end kind part us (by_same (λ vs. begins_with kind vs ≡ false) t ts us same (λ vs. e)) count f)

part_turn : (kind : Operator) (left : ℕ) (part : Rule Formula) (scope : Scope) →
    ((ts : List Token) → Stops (IsPhrase left (part_phrase kind)) scope part ts) → (ts : List Token) →
    PartTurn kind left part scope ts
part_turn kind left part scope stops [] = ends (λ us same count f. parts_end kind part us (by_none (λ vs. begins_with kind vs ≡ false) us same refl) count f)
part_turn kind left part scope stops (t ∷ ts) = part_turn_at kind left part scope stops t ts (joins kind t.word) refl

parts_stop : (kind : Operator) (left : ℕ) (part : Rule Formula) (scope : Scope) →
    ((ts : List Token) → Stops (IsPhrase left (part_phrase kind)) scope part ts) → (ts : List Token) →
    Stops (IsPhrase left (chain_phrase kind)) scope (chain_of kind part) ts
parts_stop kind left part scope stops ts =
    chain_stops {M = Unit {0}} (more_parts kind part) (λ m. IsPhrase left (part_phrase kind))
    (IsPhrase left (chain_phrase kind)) (IsPhrase left (part_phrase kind)) scope part (λ f. f)
    (λ us. part_turn kind left part scope stops us) (one_part kind left) ts (stops ts)

-- an expression stops where no expression goes on, if each operand does
pub or_stops : (scope : Scope) (left : ℕ) (not : Rule Formula) →
    ((ts : List Token) → Stops (IsPhrase left grammar.not) scope not ts) →
    (ts : List Token) → Stops (IsPhrase left grammar.or) scope (or not) ts
or_stops scope left not stops ts =
    parts_stop operator.Or left (part_of operator.Or not) scope
    (λ us. parts_stop operator.Xor left (part_of operator.Xor not) scope
    (λ vs. parts_stop operator.And left not scope stops vs) us) ts

-- ---- parentheses
close_at_stops : (P : Form Formula) (scope : Scope) (f : Formula) (w : Word) (place : ℕ)
    (ts : List Token) → ((k : Bool) → P k (word.Close ∷ []) f) →
    Stops P scope (λ us. expect_close scope us >>= λ rest. read f rest) (token w place ∷ ts)
close_at_stops P scope f word.Close place ts holds =
    step_stops P scope (λ us. expect_close scope us >>= λ rest. read f rest) (λ us. read f us) (token word.Close place)
    ts tt (λ us. refl) (read_after P scope (word.Close ∷ []) f ts holds)
close_at_stops P scope f w place ts holds =
    fault_at P scope (λ us. expect_close scope us >>= λ rest. read f rest) (token w place) ts
    (λ k. record { more = word.Close ∷ []; part = f; holds = holds k }) (λ us. refl)

close_stops : (P : Form Formula) (scope : Scope) (f : Formula) (ts : List Token) →
    ((k : Bool) → P k (word.Close ∷ []) f) → Stops P scope (λ us. expect_close scope us >>= λ rest. read f rest) ts
close_stops P scope f [] holds = fault_at_end P scope (λ us. expect_close scope us >>= λ rest. read f rest)
    (λ k. record { more = word.Close ∷ []; part = f; holds = holds k }) refl
close_stops P scope f (t ∷ ts) holds = close_at_stops P scope f t.word t.place ts holds

-- ---- comparisons
abbrev IsRelation : List Word → Rel → Type 0
IsRelation ws rel = ws ≡ word.Compare rel ∷ []

some_relation : Completes IsRelation []
some_relation = record { more = word.Compare Equal ∷ []; part = Equal; holds = refl }

relation_at_stops : (scope : Scope) (w : Word) (place : ℕ) (ts : List Token) → Stops (always IsRelation) scope (relation scope) (token w place ∷ ts)
relation_at_stops scope (word.Compare rel) place ts =
    step_stops (always IsRelation) scope (relation scope) (λ us. read rel us) (token (word.Compare rel) place) ts tt
    (λ us. refl) (read_after (always IsRelation) scope (word.Compare rel ∷ []) rel ts (λ k. refl))
relation_at_stops scope w place ts =
    fault_at (always IsRelation) scope (relation scope) (token w place) ts (λ k. some_relation) (λ us. refl)

relation_stops : (scope : Scope) (ts : List Token) → Stops (always IsRelation) scope (relation scope) ts
relation_stops scope [] = fault_at_end (always IsRelation) scope (relation scope) (λ k. some_relation) refl
relation_stops scope (t ∷ ts) = relation_at_stops scope t.word t.place ts

abbrev one : List Term
one = product false 1 0 ∷ []

one_sum : IsSum (word.Number 1 ∷ []) one
one_sum = grammar.first grammar.number

compared : (left : ℕ) (k : Bool) (vs us ws : List Word) (s t : List Term) (rel : Rel) → IsSum vs s →
    IsRelation us rel → IsSum ws t → IsPhrase left grammar.atom k (vs ++ (us ++ ws)) (Compare s rel t)
compared left k vs us ws s t rel d is e =
    subst (λ us. IsPhrase left grammar.atom k (vs ++ (us ++ ws)) (Compare s rel t)) (sym is)
    (record { derived = grammar.comparison d e; shallow = flat k left })

abbrev AtomAfter : ℕ → List Word → Form Formula
AtomAfter left vs k ws f = IsPhrase left grammar.atom k (vs ++ ws) f

right_stops : (scope : Scope) (left : ℕ) (vs us : List Word) (s : List Term) (rel : Rel) (ts : List Token) → IsSum vs s →
    IsRelation us rel → Stops (λ k ws f. AtomAfter left vs k (us ++ ws) f) scope
    (λ all. sum scope all >>= λ t. read (Compare s rel t.part) t.rest) ts
right_stops scope left vs us s rel ts d is =
    both_stop (always IsSum) (λ k ws f. AtomAfter left vs k (us ++ ws) f) scope (sum scope)
    (λ t all. read (Compare s rel t) all) ts
    (λ k ws t e. complete_now (λ ws f. AtomAfter left vs k (us ++ ws) f) ws (Compare s rel t)
    (compared left k vs us ws s t rel d is e)) (sum_stops scope ts)
    (λ t before rest e. read_after (λ k ws f. AtomAfter left vs k (us ++ ws) f) scope (words before) (Compare s rel t)
    rest (λ k. compared left k vs us (words before) s t rel d is (e k)))

after_left_stops : (scope : Scope) (left : ℕ) (vs : List Word) (s : List Term) (ts : List Token) → IsSum vs s →
    Stops (AtomAfter left vs) scope (λ all. relation scope all >>= λ rel. sum scope rel.rest >>= λ t. read
    (Compare s rel.part t.part) t.rest) ts
after_left_stops scope left vs s ts d =
    both_stop (always IsRelation) (AtomAfter left vs) scope (relation scope)
    (λ rel all. sum scope all >>= λ t. read (Compare s rel t.part) t.rest) ts
    (λ k us rel is. record {
      more = word.Number 1 ∷ [];
      part = Compare s rel one;
      holds = compared left k vs us (word.Number 1 ∷ []) s one rel d is one_sum;
    }) (relation_stops scope ts)
    (λ rel before rest is. right_stops scope left vs (words before) s rel rest d (is true))

comparison_stops : (scope : Scope) (left : ℕ) (ts : List Token) → Stops (IsPhrase left grammar.atom) scope (comparison scope) ts
comparison_stops scope left ts =
    both_stop (always IsSum) (IsPhrase left grammar.atom) scope (sum scope)
    (λ s all. relation scope all >>= λ rel. sum scope rel.rest >>= λ t. read (Compare s rel.part t.part) t.rest) ts
    (λ k vs s d. record {
      more = word.Compare Equal ∷ word.Number 1 ∷ [];
      part = Compare s Equal one;
      holds = record { derived = grammar.comparison d one_sum; shallow = flat k left };
    }) (sum_stops scope ts)
    (λ s before rest d. after_left_stops scope left (words before) s rest (d true))

-- ---- operands
abbrev IsOperand : ℕ → Form Formula
IsOperand left = IsPhrase left grammar.not

some_operand : (left : ℕ) (k : Bool) → Completes (IsOperand left k) []
some_operand left k = record {
  more = word.Mesh 1 ∷ [];
  part = Mesh 1;
  holds = record { derived = grammar.one_atom grammar.mesh; shallow = flat k left };
}

-- a number of mesh as an operand
mesh_operand : (left n : ℕ) (k : Bool) → IsOperand left k (word.Mesh n ∷ []) (Mesh n)
mesh_operand left n k = record { derived = grammar.one_atom grammar.mesh; shallow = flat k left }

-- ---- odd
odd_operand : (left inner : ℕ) (k : Bool) (ws : List Word) (s : List Term) → left ≡ suc inner → IsSum ws s →
    IsOperand left k (word.Odd ∷ word.Open ∷ ws ++ word.Close ∷ []) (Odd s)
odd_operand left inner k ws s e d =
    record { derived = grammar.one_atom (grammar.odd d); shallow = once_deep k inner left e }

any_odd : (left : ℕ) (ws : List Word) (s : List Term) → IsSum ws s →
    IsOperand left false (word.Odd ∷ word.Open ∷ ws ++ word.Close ∷ []) (Odd s)
any_odd left ws s d = record { derived = grammar.one_atom (grammar.odd d); shallow = tt }

allowed_odd : (left : ℕ) → Completes (IsOperand left false) (word.Odd ∷ [])
allowed_odd left = record {
  more = word.Open ∷ word.Number 1 ∷ word.Close ∷ [];
  part = Odd one;
  holds = any_odd left (word.Number 1 ∷ []) one one_sum;
}

allowed_open : (left : ℕ) → Completes (IsOperand left false) (word.Odd ∷ word.Open ∷ [])
allowed_open left = record {
  more = word.Number 1 ∷ word.Close ∷ [];
  part = Odd one;
  holds = any_odd left (word.Number 1 ∷ []) one one_sum;
}

odd_sum_stops : (scope : Scope) (left inner : ℕ) (ts : List Token) → left ≡ suc inner →
    Stops (λ k ws f. IsOperand left k (word.Odd ∷ word.Open ∷ ws) f) scope
    (λ us. sum scope us >>= λ s. expect_close scope s.rest >>= λ rest. read (Odd s.part) rest) ts
odd_sum_stops scope left inner ts e =
    both_stop (always IsSum) (λ k ws f. IsOperand left k (word.Odd ∷ word.Open ∷ ws) f) scope (sum scope)
    (λ s us. expect_close scope us >>= λ rest. read (Odd s) rest) ts
    (λ k ws s d. record { more = word.Close ∷ []; part = Odd s; holds = odd_operand left inner k ws s e d })
    (sum_stops scope ts)
    (λ s before rest d. close_stops (λ k ws f. IsOperand left k (word.Odd ∷ word.Open ∷ words before ++ ws) f) scope
    (Odd s) rest (λ k. odd_operand left inner k (words before) s e (d k)))

abbrev InnerStops : Scope → ℕ → Option (Rule Formula) → Type 0
InnerStops scope left inner = (rule : Rule Formula) → inner ≡ Some rule →
    (deeper : ℕ) × (left ≡ suc deeper) × ((ts : List Token) → Stops (IsOperand deeper) scope rule ts)

open_odd_stops : (scope : Scope) (left : ℕ) (inner : Option (Rule Formula)) → InnerStops scope left inner →
    (at place : ℕ) (ts : List Token) →
    Stops (IsOperand left) scope (not_with scope inner) (token word.Odd at ∷ token word.Open place ∷ ts)
open_odd_stops scope left None stops at place ts =
    odd_faults (IsOperand left) scope (not_with scope None) (token word.Odd at) (token word.Open place ∷ ts)
    (Deep place) refl tt (refl, tt) (some_operand left true) (allowed_open left)
    (λ us same. by_same (λ vs. not_with scope None (token word.Odd at ∷ vs) ≡ Err (Deep place))
    (token word.Open place) ts us same (λ vs. refl))
open_odd_stops scope left (Some rule) stops at place ts =
    let s = stops rule refl in
    step_stops (IsOperand left) scope (not_with scope (Some rule)) (odd scope (Some rule)) (token word.Odd at)
    (token word.Open place ∷ ts) tt (λ us. refl)
    (step_stops (λ k ws f. IsOperand left k (word.Odd ∷ ws) f) scope (odd scope (Some rule))
    (λ us. sum scope us >>= λ s. expect_close scope s.rest >>= λ rest. read (Odd s.part) rest)
    (token word.Open place) ts tt (λ us. refl) (odd_sum_stops scope left s.0 ts s.1))

next_odd_stops : (scope : Scope) (left : ℕ) (inner : Option (Rule Formula)) → InnerStops scope left inner →
    (at : ℕ) (w : Word) (place : ℕ) (ts : List Token) →
    Stops (IsOperand left) scope (not_with scope inner) (token word.Odd at ∷ token w place ∷ ts)
next_odd_stops scope left inner stops at word.Open place ts = open_odd_stops scope left inner stops at place ts
next_odd_stops scope left inner stops at w place ts =
    odd_faults (IsOperand left) scope (not_with scope inner) (token word.Odd at) (token w place ∷ ts)
    (Syntax place) refl tt refl (some_operand left true) (allowed_odd left)
    (λ us same. by_same (λ vs. not_with scope inner (token word.Odd at ∷ vs) ≡ Err (Syntax place)) (token w place) ts us
    same (λ vs. refl))

odd_stops : (scope : Scope) (left : ℕ) (inner : Option (Rule Formula)) → InnerStops scope left inner →
    (at : ℕ) (ts : List Token) → Stops (IsOperand left) scope (not_with scope inner) (token word.Odd at ∷ ts)
odd_stops scope left inner stops at [] =
    odd_faults (IsOperand left) scope (not_with scope inner) (token word.Odd at) [] (Syntax scope.end) refl tt refl
    (some_operand left true) (allowed_odd left)
    (λ us same. by_none (λ vs. not_with scope inner (token word.Odd at ∷ vs) ≡ Err (Syntax scope.end)) us same refl)
odd_stops scope left inner stops at (t ∷ ts) = next_odd_stops scope left inner stops at t.word t.place ts

-- ---- negations and parentheses
negated : (left inner : ℕ) (k : Bool) (ws : List Word) (a : Formula) → left ≡ suc inner → IsOperand inner k ws a →
    IsOperand left k (word.Bang ∷ ws) (Not a)
negated left inner k ws a e d =
    record { derived = grammar.bang d.derived; shallow = one_deeper k (depth d.derived) inner left e d.shallow }

allowed_bang : (left : ℕ) → Completes (IsOperand left false) (word.Bang ∷ [])
allowed_bang left = record {
  more = word.Mesh 1 ∷ [];
  part = Not (Mesh 1);
  holds = record { derived = grammar.bang (grammar.one_atom grammar.mesh); shallow = tt };
}

negation_stops : (scope : Scope) (left inner : ℕ) (rule : Rule Formula) → left ≡ suc inner →
    ((ts : List Token) → Stops (IsOperand inner) scope rule ts) → (ts : List Token) →
    Stops (λ k ws f. IsOperand left k (word.Bang ∷ ws) f) scope (λ us. rule us >>= λ a. read (Not a.part) a.rest) ts
negation_stops scope left inner rule e stops ts =
    both_stop (IsOperand inner) (λ k ws f. IsOperand left k (word.Bang ∷ ws) f) scope rule (λ a us. read (Not a) us) ts
    (λ k ws a d. complete_now (λ ws f. IsOperand left k (word.Bang ∷ ws) f) ws (Not a)
    (negated left inner k ws a e d)) (stops ts)
    (λ a before rest d. read_after (λ k ws f. IsOperand left k (word.Bang ∷ ws) f) scope (words before) (Not a) rest
    (λ k. negated left inner k (words before) a e (d k)))

enclosed : (left inner : ℕ) (k : Bool) (ws : List Word) (a : Formula) → left ≡ suc inner →
    IsPhrase inner grammar.or k ws a → IsOperand left k (word.Open ∷ ws ++ word.Close ∷ []) a
enclosed left inner k ws a e d = record {
  derived = grammar.one_atom (grammar.parentheses d.derived);
  shallow = one_deeper k (depth d.derived) inner left e d.shallow;
}

allowed_parenthesis : (left : ℕ) → Completes (IsOperand left false) (word.Open ∷ [])
allowed_parenthesis left =
    let mesh : Derives grammar.or (word.Mesh 1 ∷ []) (Mesh 1) =
    grammar.one_xor (grammar.one_and (grammar.one_not (grammar.one_atom grammar.mesh))) in
    record {
      more = word.Mesh 1 ∷ word.Close ∷ [];
      part = Mesh 1;
      holds = record { derived = grammar.one_atom (grammar.parentheses mesh); shallow = tt };
    }

parentheses_stop : (scope : Scope) (left inner : ℕ) (rule : Rule Formula) → left ≡ suc inner →
    ((ts : List Token) → Stops (IsOperand inner) scope rule ts) → (ts : List Token) →
    Stops (λ k ws f. IsOperand left k (word.Open ∷ ws) f) scope
    (λ us. or rule us >>= λ a. expect_close scope a.rest >>= λ rest. read a.part rest) ts
parentheses_stop scope left inner rule e stops ts =
    both_stop (IsPhrase inner grammar.or) (λ k ws f. IsOperand left k (word.Open ∷ ws) f) scope (or rule)
    (λ a us. expect_close scope us >>= λ rest. read a rest) ts
    (λ k ws a d. record { more = word.Close ∷ []; part = a; holds = enclosed left inner k ws a e d })
    (or_stops scope inner rule stops ts)
    (λ a before rest d. close_stops (λ k ws f. IsOperand left k (word.Open ∷ words before ++ ws) f) scope a rest
    (λ k. enclosed left inner k (words before) a e (d k)))

operand_at_stops : (scope : Scope) (left : ℕ) (inner : Option (Rule Formula)) → InnerStops scope left inner →
    (w : Word) (place : ℕ) (ts : List Token) → Stops (IsOperand left) scope (not_with scope inner) (token w place ∷ ts)
operand_at_stops scope left inner stops word.Bang place ts =
    inside_stops (IsOperand left) scope (not_with scope inner) inner
    (λ rule us. rule us >>= λ a. read (Not a.part) a.rest) (token word.Bang place) ts tt tt (λ us. refl)
    (some_operand left true) (allowed_bang left)
    (λ rule is. let s = stops rule is in negation_stops scope left s.0 rule s.1 s.2 ts)
operand_at_stops scope left inner stops word.Open place ts =
    inside_stops (IsOperand left) scope (not_with scope inner) inner
    (λ rule us. or rule us >>= λ a. expect_close scope a.rest >>= λ rest. read a.part rest)
    (token word.Open place) ts tt tt (λ us. refl) (some_operand left true) (allowed_parenthesis left)
    (λ rule is. let s = stops rule is in parentheses_stop scope left s.0 rule s.1 s.2 ts)
operand_at_stops scope left inner stops (word.Mesh n) place ts =
    check_stops (IsOperand left) scope (not_with scope inner) n (mesh_number scope place n) (λ m us. read (Mesh m) us)
    (token (word.Mesh n) place) ts (mesh_checks scope (token (word.Mesh n) place) n (λ f. f) (λ l. l) (λ m. (refl, m)))
    (λ us. refl) (some_operand left true)
    (complete_now (IsOperand left false) (word.Mesh n ∷ []) (Mesh n) (mesh_operand left n false))
    (read_after (IsOperand left) scope (word.Mesh n ∷ []) (Mesh n) ts (mesh_operand left n))
operand_at_stops scope left inner stops word.Odd place ts = odd_stops scope left inner stops place ts
operand_at_stops scope left inner stops w place ts =
    like_at (IsOperand left) scope (not_with scope inner) (comparison scope) (token w place) ts (λ us. refl)
    (as_stops (IsPhrase left grammar.atom) (IsOperand left) (λ us r. comparison scope us ≡ r) scope (token w place ∷ ts)
    (λ k ws f d. record { derived = grammar.one_atom d.derived; shallow = d.shallow })
    (comparison scope (token w place ∷ ts)) (comparison_stops scope left (token w place ∷ ts)))

operand_stops : (scope : Scope) (left : ℕ) (inner : Option (Rule Formula)) → InnerStops scope left inner →
    (ts : List Token) → Stops (IsOperand left) scope (not_with scope inner) ts
operand_stops scope left inner stops [] = fault_at_end (IsOperand left) scope (not_with scope inner) (some_operand left) refl
operand_stops scope left inner stops (t ∷ ts) = operand_at_stops scope left inner stops t.word t.place ts

-- the rule of `not` stops at the first token that no operand has there, or that is over a limit
pub not_stops : (scope : Scope) (left : ℕ) (ts : List Token) → Stops (IsPhrase left grammar.not) scope (not scope left) ts
not_stops scope zero ts = operand_stops scope zero None (λ rule e. cc) ts
not_stops scope (suc left) ts =
    operand_stops scope (suc left) (Some (not scope left)) (λ rule e. (
      left,
      refl,
      λ us. subst (λ r. Stops (IsOperand left) scope r us) (some_same (not scope left) rule e) (not_stops scope left us),
    )) ts
