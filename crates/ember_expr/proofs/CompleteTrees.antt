-- Where the grammar derives words, the rules read them: trees, and that each text has one.
use Rattle.std.proofs.Common.{◌≡◌, ℕ, zero, suc, ◌+◌, ◌≤◌, max, Bool, false, List, [], ◌∷◌, ◌++◌, refl, ap, sym, subst}
use Rattle.std.proofs.Common.{◌∙◌, arith, append_assoc, append-nil, Result, Option, ◌⊎◌, inl, inr}
use Rattle.ember_algebra.specs.Relations.{Every}
use Rattle.ember_expr.specs.declared.fault.ExprFault.{ExprFault}
use Rattle.ember_expr.specs.declared.fault.ExprFault.TheVariants.{Deep}
use Rattle.ember_expr.specs.declared.trees.Rel.{Rel}
use Rattle.ember_expr.specs.declared.trees.Term.{Term}
use Rattle.ember_expr.specs.declared.token.Word.{Word}
use Rattle.ember_expr.specs.declared.token.Word.TheVariants as word
use Rattle.ember_expr.specs.declared.token.Token.{Token}
use Rattle.ember_expr.specs.declared.grammar.Operator.{Operator}
use Rattle.ember_expr.specs.declared.grammar.Operator.TheVariants as operator
use Rattle.ember_expr.specs.declared.grammar.Scope.{Scope}
use Rattle.ember_expr.specs.Formula.{Formula, Not, Mesh, Odd, Compare}
use Rattle.ember_expr.specs.Grammar.{Read, read, Rule, ◌>>=◌, begins_with, joins, join, more_parts, chain_of, part_of}
use Rattle.ember_expr.specs.Grammar.{or, expect_close, relation, rel_at, inside}
use Rattle.ember_expr.specs.Derivation.{IsTerm, IsSum, Phrase, Derives, depth, words}
use Rattle.ember_expr.specs.Derivation as grammar
use Rattle.ember_expr.proofs.Checked.{Checks, sum_by, comparison_by, odd_by, not_at_by, not_with_by, deeper_by, not_by}
use Rattle.ember_expr.proofs.DerivedTrees.{operator_word}
use Rattle.ember_expr.proofs.Complete.{Accepts, accept_bind, Passes, number_bind, by_first, loose, after, every_before}
use Rattle.ember_expr.proofs.Complete.{every_after, SoFar, GoesOn, loop_starts, one_more, loop_finishes, sum_accepts}

-- ---- depth
-- so many parentheses and signs `!` may still come, or the fault of too many may be
abbrev pub Shallow : (ExprFault → Type 0) → ℕ → ℕ → Type 0
Shallow bad k left = (k ≤ left) ⊎ ((place : ℕ) → bad (Deep place))

shallower : (bad : ExprFault → Type 0) (k m left : ℕ) → k ≤ m → Shallow bad m left → Shallow bad k left
shallower bad k m left le (inl h) = inl (omega (arith, le, h))
shallower bad k m left le (inr h) = inr h

inside_accepts : (bad : ExprFault → Type 0) (c : Checks) (scope : Scope) (k left place : ℕ) (b : Formula)
    (vs : List Word) (go : Rule Formula → Result (Read Formula) ExprFault) → Shallow bad (k + 1) left →
    ((less : ℕ) → Shallow bad k less → Accepts bad b vs (go (not_by c scope less))) →
    Accepts bad b vs (inside (deeper_by c scope left) place go)
inside_accepts bad c scope k zero place b vs go (inl h) next = absurd (omega (arith, h))
inside_accepts bad c scope k zero place b vs go (inr h) next = h place
inside_accepts bad c scope k (suc left) place b vs go (inl h) next = next left (inl (omega (arith, h)))
inside_accepts bad c scope k (suc left) place b vs go (inr h) next = next left (inr h)

-- ---- chains
chain_goes_on : (kind : Operator) (part : Rule Formula) (tree : Formula) →
    GoesOn (more_parts kind part) part (λ next. join kind tree next) tree (operator_word kind)
chain_goes_on operator.Or part tree count x ts w = rw w refl
chain_goes_on operator.Xor part tree count x ts w = rw w refl
chain_goes_on operator.And part tree count x ts w = rw w refl

-- words looser than this end the chain
abbrev limit : Operator → ℕ
limit operator.Or = 5
limit operator.Xor = 4
limit operator.And = 3

not_joined : (kind : Operator) (w : Word) → limit kind ≤ loose w → joins kind w ≡ false
not_joined operator.Or word.Bar h = absurd (omega (arith, h))
not_joined operator.Xor word.Hat h = absurd (omega (arith, h))
not_joined operator.And word.Amp h = absurd (omega (arith, h))
not_joined _ _ h = refl

no_operator : (kind : Operator) (ts : List Token) → limit kind ≤ after (words ts) → begins_with kind ts ≡ false
no_operator kind [] h = refl
no_operator kind (t ∷ ts) h = not_joined kind t.word h

chain_ends : (kind : Operator) (part : Rule Formula) (tree : Formula) (us : List Word) → limit kind ≤ after us →
    (count : ℕ) (rest : List Token) → words rest ≡ us → more_parts kind part count tree rest ≡ read tree rest
chain_ends kind part tree us h zero rest e = refl
chain_ends kind part tree us h (suc count) rest e =
    let none : begins_with kind rest ≡ false = no_operator kind rest (subst (λ u. limit kind ≤ after u) (sym e) h) in
    rw none refl

abbrev ChainSoFar : (ExprFault → Type 0) → Operator → Rule Formula → List Token → Formula → List Word → Type 0
ChainSoFar bad kind not all f us = SoFar bad (more_parts kind (part_of kind not)) (chain_of kind (part_of kind not) all) f us

chain_done : (bad : ExprFault → Type 0) (kind : Operator) (not : Rule Formula) (all : List Token) (f : Formula)
    (us : List Word) → limit kind ≤ after us → ChainSoFar bad kind not all f us →
    Accepts bad f us (chain_of kind (part_of kind not) all)
chain_done bad kind not all f us h so_far = loop_finishes bad (more_parts kind (part_of kind not))
    (chain_of kind (part_of kind not) all) f us (chain_ends kind (part_of kind not) f us h) so_far

chain_starts : (bad : ExprFault → Type 0) (kind : Operator) (not : Rule Formula) (all : List Token) (f : Formula)
    (us : List Word) → Accepts bad f us (part_of kind not all) → ChainSoFar bad kind not all f us
chain_starts bad kind not all f us h = loop_starts bad (more_parts kind (part_of kind not)) (λ a. a) f us (part_of kind not all) h

chain_more : (bad : ExprFault → Type 0) (kind : Operator) (not : Rule Formula) (all : List Token) (a b : Formula)
    (ws us : List Word) → ((ts : List Token) → words ts ≡ ws ++ us → Accepts bad b us (part_of kind not ts)) →
    ChainSoFar bad kind not all a (operator_word kind ∷ ws ++ us) → ChainSoFar bad kind not all (join kind a b) us
chain_more bad kind not all a b ws us accepts so_far =
    one_more bad (more_parts kind (part_of kind not)) (part_of kind not) (λ next. join kind a next)
    (chain_of kind (part_of kind not) all) a (operator_word kind) ws us b (chain_goes_on kind (part_of kind not) a)
    accepts so_far

-- ---- atoms
closed_bind : (bad : ExprFault → Type 0) (scope : Scope) (b : Formula) (us : List Word) (go : List Token →
    Result (Read Formula) ExprFault) (ts : List Token) → words ts ≡ word.Close ∷ us →
    ((rest : List Token) → words rest ≡ us → Accepts bad b us (go rest)) → Accepts bad b us (expect_close scope ts >>= go)
closed_bind bad scope b us go ts e next = by_first (λ all. Accepts bad b us (expect_close scope all >>= go)) ts
    word.Close us e (λ t rest w later. rw w (next rest later))

relation_accepts : (bad : ExprFault → Type 0) (scope : Scope) (rel : Rel) (us : List Word) (ts : List Token) →
    words ts ≡ word.Compare rel ∷ us → Accepts bad rel us (relation scope ts)
relation_accepts bad scope rel us ts e = by_first (λ all. Accepts bad rel us (relation scope all)) ts (word.Compare rel)
    us e (λ t rest w later. subst (λ v. Accepts bad rel us (rel_at t v rest)) (sym w) (refl, later))

at_number : (c : Checks) (scope : Scope) (inner : Option (Rule Formula)) (n : ℕ) (all : List Token) (us : List Word) →
    words all ≡ word.Number n ∷ us → not_with_by c scope inner all ≡ comparison_by c scope all
at_number c scope inner n all us e = by_first (λ ts. not_with_by c scope inner ts ≡ comparison_by c scope ts) all
    (word.Number n) us e (λ t ts w rest. subst (λ v. not_at_by c scope inner t v ts ≡ comparison_by c scope (t ∷ ts))
    (sym w) refl)

at_wind : (c : Checks) (scope : Scope) (inner : Option (Rule Formula)) (n : ℕ) (all : List Token) (us : List Word) →
    words all ≡ word.Wind n ∷ us → not_with_by c scope inner all ≡ comparison_by c scope all
at_wind c scope inner n all us e = by_first (λ ts. not_with_by c scope inner ts ≡ comparison_by c scope ts) all
    (word.Wind n) us e (λ t ts w rest. subst (λ v. not_at_by c scope inner t v ts ≡ comparison_by c scope (t ∷ ts))
    (sym w) refl)

at_term : (c : Checks) (scope : Scope) (inner : Option (Rule Formula)) {minus : Bool} {ws : List Word} {t : Term} →
    IsTerm minus ws t → (all : List Token) (us : List Word) → words all ≡ ws ++ us →
    not_with_by c scope inner all ≡ comparison_by c scope all
at_term c scope inner (grammar.number {n}) all us e = at_number c scope inner n all us e
at_term c scope inner (grammar.times {n} {m}) all us e = at_number c scope inner n all (word.Star ∷ word.Wind m ∷ us) e
at_term c scope inner (grammar.wind {m}) all us e = at_wind c scope inner m all us e

-- an atom that begins as a sum does is a comparison
at_sum : (c : Checks) (scope : Scope) (inner : Option (Rule Formula)) {ws : List Word} {s : List Term} → IsSum ws s →
    (all : List Token) (us : List Word) → words all ≡ ws ++ us → not_with_by c scope inner all ≡ comparison_by c scope all
at_sum c scope inner (grammar.first d) all us e = at_term c scope inner d all us e
at_sum c scope inner (grammar.negative {ws} {t} d) all us e =
    by_first (λ ts. not_with_by c scope inner ts ≡ comparison_by c scope ts) all word.Minus (ws ++ us) e
    (λ t ts w rest. subst (λ v. not_at_by c scope inner t v ts ≡ comparison_by c scope (t ∷ ts)) (sym w) refl)
at_sum c scope inner (grammar.plus {vs} {ws} d e) all us same = at_sum c scope inner d all (word.Plus ∷ ws ++ us) (same ∙ append_assoc vs (word.Plus ∷ ws) us)
at_sum c scope inner (grammar.minus {vs} {ws} d e) all us same =
    at_sum c scope inner d all (word.Minus ∷ ws ++ us) (same ∙ append_assoc vs (word.Minus ∷ ws) us)

comparison_accepts : (bad : ExprFault → Type 0) (c : Checks) (scope : Scope) {vs ws : List Word} {s t : List Term}
    (rel : Rel) → IsSum vs s → IsSum ws t → Every (Passes bad c) (vs ++ word.Compare rel ∷ ws) →
    (all : List Token) (us : List Word) → words all ≡ vs ++ (word.Compare rel ∷ ws ++ us) → 2 ≤ after us →
    Accepts bad (Compare s rel t) us (comparison_by c scope all)
comparison_accepts bad c scope {vs} {ws} {s} {t} rel d e fit all us same h =
    accept_bind bad s (word.Compare rel ∷ ws ++ us) (Compare s rel t) us (sum_by c scope all)
    (λ l. relation scope l.rest >>= λ r. sum_by c scope r.rest >>= λ m. read (Compare l.part r.part m.part) m.rest)
    (sum_accepts bad c scope d (every_before (Passes bad c) vs (word.Compare rel ∷ ws) fit) all
    (word.Compare rel ∷ ws ++ us) same (omega arith))
    (λ at_rel is_rel. accept_bind bad rel (ws ++ us) (Compare s rel t) us (relation scope at_rel)
    (λ r. sum_by c scope r.rest >>= λ m. read (Compare s r.part m.part) m.rest)
    (relation_accepts bad scope rel (ws ++ us) at_rel is_rel)
    (λ at_right is_right. accept_bind bad t us (Compare s rel t) us (sum_by c scope at_right)
    (λ m. read (Compare s rel m.part) m.rest) (sum_accepts bad c scope e
    (every_after (Passes bad c) vs (word.Compare rel ∷ ws) fit).1 at_right us is_right h)
    (λ rest last. (refl, last))))

odd_accepts : (bad : ExprFault → Type 0) (c : Checks) (scope : Scope) (left : ℕ) {ws : List Word} {s : List Term} →
    IsSum ws s → Shallow bad 1 left → Every (Passes bad c) (ws ++ word.Close ∷ []) → (all : List Token) (us : List Word) →
    words all ≡ word.Open ∷ ws ++ word.Close ∷ us → Accepts bad (Odd s) us (odd_by c scope (deeper_by c scope left) all)
odd_accepts bad c scope left {ws} {s} d shallow fit all us e =
    by_first (λ ts. Accepts bad (Odd s) us (odd_by c scope (deeper_by c scope left) ts)) all word.Open
    (ws ++ word.Close ∷ us) e (λ t ts w rest. rw w
    (inside_accepts bad c scope 0 left t.place (Odd s) us
    (λ _. sum_by c scope ts >>= λ s. expect_close scope s.rest >>= λ rest. read (Odd s.part) rest) shallow
    (λ less sh. accept_bind bad s (word.Close ∷ us) (Odd s) us (sum_by c scope ts)
    (λ s. expect_close scope s.rest >>= λ rest. read (Odd s.part) rest)
    (sum_accepts bad c scope d (every_before (Passes bad c) ws (word.Close ∷ []) fit) ts (word.Close ∷ us) rest
    (omega arith)) (λ end is_end. closed_bind bad scope (Odd s) us (λ rest. read (Odd s) rest) end is_end
    (λ last is_last. (refl, is_last))))))

-- ---- all phrases
abbrev pub Meaning : (ExprFault → Type 0) → Checks → Scope → ℕ → Phrase → List Token → Formula → List Word → Type 0
Meaning bad c scope left grammar.or all f us = ChainSoFar bad operator.Or (not_by c scope left) all f us
Meaning bad c scope left grammar.xor all f us = ChainSoFar bad operator.Xor (not_by c scope left) all f us
Meaning bad c scope left grammar.and all f us = ChainSoFar bad operator.And (not_by c scope left) all f us
Meaning bad c scope left grammar.not all f us = Accepts bad f us (not_by c scope left all)
Meaning bad c scope left grammar.atom all f us = Accepts bad f us (not_by c scope left all)

-- how loose the word after a phrase is at least
abbrev tight : Phrase → ℕ
tight grammar.or = 4
tight grammar.xor = 3
tight grammar.and = 2
tight grammar.not = 2
tight grammar.atom = 2

complete : (bad : ExprFault → Type 0) (c : Checks) (scope : Scope) (left : ℕ) {p : Phrase} {ws : List Word}
    {f : Formula} (d : Derives p ws f) → Shallow bad (depth d) left → Every (Passes bad c) ws →
    (all : List Token) (us : List Word) → words all ≡ ws ++ us → tight p ≤ after us → Meaning bad c scope left p all f us
complete bad c scope left (grammar.one_xor {ws} {a} d) shallow fit all us same h =
    chain_starts bad operator.Or (not_by c scope left) all a us
    (chain_done bad operator.Xor (not_by c scope left) all a us h
    (complete bad c scope left d shallow fit all us same (omega (arith, h))))
complete bad c scope left (grammar.bar {vs} {ws} {a} {b} d e) shallow fit all us same h =
    chain_more bad operator.Or (not_by c scope left) all a b ws us
    (λ ts front. chain_done bad operator.Xor (not_by c scope left) ts b us h
    (complete bad c scope left e (shallower bad (depth e) (max (depth d) (depth e)) left (omega arith) shallow)
    (every_after (Passes bad c) vs (word.Bar ∷ ws) fit).1 ts us front (omega (arith, h))))
    (complete bad c scope left d (shallower bad (depth d) (max (depth d) (depth e)) left (omega arith) shallow)
    (every_before (Passes bad c) vs (word.Bar ∷ ws) fit) all (word.Bar ∷ ws ++ us)
    (same ∙ append_assoc vs (word.Bar ∷ ws) us) (omega arith))
complete bad c scope left (grammar.one_and {ws} {a} d) shallow fit all us same h =
    chain_starts bad operator.Xor (not_by c scope left) all a us
    (chain_done bad operator.And (not_by c scope left) all a us h
    (complete bad c scope left d shallow fit all us same (omega (arith, h))))
complete bad c scope left (grammar.hat {vs} {ws} {a} {b} d e) shallow fit all us same h =
    chain_more bad operator.Xor (not_by c scope left) all a b ws us
    (λ ts front. chain_done bad operator.And (not_by c scope left) ts b us h
    (complete bad c scope left e (shallower bad (depth e) (max (depth d) (depth e)) left (omega arith) shallow)
    (every_after (Passes bad c) vs (word.Hat ∷ ws) fit).1 ts us front (omega (arith, h))))
    (complete bad c scope left d (shallower bad (depth d) (max (depth d) (depth e)) left (omega arith) shallow)
    (every_before (Passes bad c) vs (word.Hat ∷ ws) fit) all (word.Hat ∷ ws ++ us)
    (same ∙ append_assoc vs (word.Hat ∷ ws) us) (omega arith))
complete bad c scope left (grammar.one_not {ws} {a} d) shallow fit all us same h =
    chain_starts bad operator.And (not_by c scope left) all a us (complete bad c scope left d shallow fit all us same h)
complete bad c scope left (grammar.amp {vs} {ws} {a} {b} d e) shallow fit all us same h =
    chain_more bad operator.And (not_by c scope left) all a b ws us
    (λ ts front. complete bad c scope left e (shallower bad (depth e) (max (depth d) (depth e)) left (omega arith)
    shallow) (every_after (Passes bad c) vs (word.Amp ∷ ws) fit).1 ts us front h)
    (complete bad c scope left d (shallower bad (depth d) (max (depth d) (depth e)) left (omega arith) shallow)
    (every_before (Passes bad c) vs (word.Amp ∷ ws) fit) all (word.Amp ∷ ws ++ us)
    (same ∙ append_assoc vs (word.Amp ∷ ws) us) (omega arith))
complete bad c scope left (grammar.bang {ws} {a} d) shallow fit all us same h =
    by_first (λ ts. Accepts bad (Not a) us (not_by c scope left ts)) all word.Bang (ws ++ us) same
    (λ t ts w rest. subst (λ v. Accepts bad (Not a) us (not_at_by c scope (deeper_by c scope left) t v ts)) (sym w)
    (inside_accepts bad c scope (depth d) left t.place (Not a) us (λ not. not ts >>= λ b. read (Not b.part) b.rest)
    shallow (λ less sh. accept_bind bad a us (Not a) us (not_by c scope less ts) (λ b. read (Not b.part) b.rest)
    (complete bad c scope less d sh fit.1 ts us rest h) (λ end is_end. (refl, is_end)))))
complete bad c scope left (grammar.one_atom {ws} {a} d) shallow fit all us same h = complete bad c scope left d shallow fit all us same h
complete bad c scope left (grammar.parentheses {ws} {a} d) shallow fit all us same h =
    by_first (λ ts. Accepts bad a us (not_by c scope left ts)) all word.Open ((ws ++ word.Close ∷ []) ++ us) same
    (λ t ts w rest. subst (λ v. Accepts bad a us (not_at_by c scope (deeper_by c scope left) t v ts)) (sym w)
    (inside_accepts bad c scope (depth d) left t.place a us
    (λ not. or not ts >>= λ b. expect_close scope b.rest >>= λ end. read b.part end) shallow
    (λ less sh. accept_bind bad a (word.Close ∷ us) a us (or (not_by c scope less) ts)
    (λ b. expect_close scope b.rest >>= λ end. read b.part end)
    (chain_done bad operator.Or (not_by c scope less) ts a (word.Close ∷ us) (omega arith)
    (complete bad c scope less d sh (every_before (Passes bad c) ws (word.Close ∷ []) fit.1) ts (word.Close ∷ us)
    (rest ∙ append_assoc ws (word.Close ∷ []) us) (omega arith)))
    (λ end is_end. closed_bind bad scope a us (λ last. read a last) end is_end (λ last is_last. (refl, is_last))))))
complete bad c scope left (grammar.mesh {n}) shallow fit all us same h =
    by_first (λ ts. Accepts bad (Mesh n) us (not_by c scope left ts)) all (word.Mesh n) us same
    (λ t ts w rest. subst (λ v. Accepts bad (Mesh n) us (not_at_by c scope (deeper_by c scope left) t v ts)) (sym w)
    (number_bind bad n (Mesh n) us (c.mesh t.place n) (λ mesh. read (Mesh mesh) ts) (fit.0 t.place) (refl, rest)))
complete bad c scope left (grammar.odd {ws} {s} d) shallow fit all us same h =
    by_first (λ ts. Accepts bad (Odd s) us (not_by c scope left ts)) all word.Odd
    (word.Open ∷ (ws ++ word.Close ∷ []) ++ us) same
    (λ t ts w rest. subst (λ v. Accepts bad (Odd s) us (not_at_by c scope (deeper_by c scope left) t v ts)) (sym w)
    (odd_accepts bad c scope left d shallow fit.1.1 ts us
    (rest ∙ ap (λ u. word.Open ∷ u) (append_assoc ws (word.Close ∷ []) us))))
complete bad c scope left (grammar.comparison {vs} {ws} {s} {t} {rel} d e) shallow fit all us same h =
    let right : words all ≡ vs ++ (word.Compare rel ∷ ws ++ us) = same ∙ append_assoc vs (word.Compare rel ∷ ws) us in
    subst (Accepts bad (Compare s rel t) us) (sym
    (at_sum c scope (deeper_by c scope left) d all (word.Compare rel ∷ ws ++ us) right))
    (comparison_accepts bad c scope rel d e fit all us right h)

-- a text of the grammar is read to its end
pub text_accepts : (bad : ExprFault → Type 0) (c : Checks) (scope : Scope) (left : ℕ) (ws : List Word) (f : Formula)
    (d : Derives grammar.or ws f) → Shallow bad (depth d) left → Every (Passes bad c) ws → (all : List Token) →
    words all ≡ ws → Accepts bad f [] (or (not_by c scope left) all)
text_accepts bad c scope left ws f d shallow fit all same =
    chain_done bad operator.Or (not_by c scope left) all f [] (omega arith)
    (complete bad c scope left d shallow fit all [] (same ∙ sym (append-nil ws)) (omega arith))
