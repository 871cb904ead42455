-- Sums and chains that are read part by part.
use Rattle.std.proofs.Common.{◌≡◌, ℕ, zero, suc, ◌<◌, ◌≤◌, Bool, true, List, [], ◌∷◌, ◌++◌, length, refl, ◌∙◌, arith, Some, None, Result, Err, ◌⊎◌, inl, inr}
use Rattle.ember_expr.specs.declared.fault.ExprFault.{ExprFault}
use Rattle.ember_expr.specs.declared.fault.ExprFault.TheVariants.{OutOfMemory}
use Rattle.ember_expr.specs.declared.trees.Term.{Term}
use Rattle.ember_expr.specs.declared.token.Token.{Token}
use Rattle.ember_expr.specs.declared.grammar.Operator.{Operator}
use Rattle.ember_expr.specs.declared.grammar.Scope.{Scope}
use Rattle.ember_expr.specs.Formula.{Formula}
use Rattle.ember_expr.specs.Grammar.{Read, read, Rule, term, sign_before, after_first, more_terms, begins_with, more_parts}

-- what is read from the start is these terms and what follows them
pub record IsSumSoFar (scope : Scope) (whole : Result (Read (List Term)) ExprFault) (terms : List Term) (rest : List Token) : Type 0 where
  pub count : ℕ
  pub enough : length rest ≤ count
  pub same : whole ≡ more_terms scope count terms rest

no_sign : (minus : Bool) (rest : List Token) → sign_before rest ≡ Some minus → 1 ≤ length rest
no_sign minus [] e = cc
no_sign minus (t ∷ ts) e = omega arith

next_term : (scope : Scope) (whole : Result (Read (List Term)) ExprFault) (terms : List Term) (rest : List Token)
    (minus : Bool) (next : Term) (after : List Token) (count : ℕ) → length rest ≤ count →
    whole ≡ more_terms scope count terms rest → sign_before rest ≡ Some minus →
    term scope minus (after_first rest) ≡ read next after → length after < length rest →
    IsSumSoFar scope whole (terms ++ next ∷ []) after
next_term scope whole terms rest minus next after zero enough same sign read shorter = absurd (omega (arith, no_sign minus rest sign))
next_term scope whole terms rest minus next after (suc count) enough same sign read shorter = record {
  count = count;
  enough = omega arith;
  same = same ∙ rw sign (rw read refl);
}

-- one term more of a sum
pub one_term : (scope : Scope) (whole : Result (Read (List Term)) ExprFault) (terms : List Term) (rest : List Token)
    (minus : Bool) (next : Term) (after : List Token) → IsSumSoFar scope whole terms rest →
    sign_before rest ≡ Some minus → term scope minus (after_first rest) ≡ read next after → length after < length rest →
    IsSumSoFar scope whole (terms ++ next ∷ []) after
one_term scope whole terms rest minus next after so_far = next_term scope whole terms rest minus next after so_far.count so_far.enough so_far.same

-- if no sign follows, the sum ends
pub last_term : (scope : Scope) (whole : Result (Read (List Term)) ExprFault) (terms : List Term) (rest : List Token)
    (count : ℕ) → whole ≡ more_terms scope count terms rest → sign_before rest ≡ None → whole ≡ read terms rest
last_term scope whole terms rest zero same sign = same
last_term scope whole terms rest (suc count) same sign = same ∙ rw sign refl

-- if no sign follows, the sum so far is the sum
pub no_term : (scope : Scope) (whole : Result (Read (List Term)) ExprFault) (terms : List Term) (rest : List Token) →
    IsSumSoFar scope whole terms rest → sign_before rest ≡ None → whole ≡ read terms rest
no_term scope whole terms rest so_far = last_term scope whole terms rest so_far.count so_far.same

-- ---- chains
pub record IsChainSoFar (kind : Operator) (part : Rule Formula) (whole : Result (Read Formula) ExprFault) (tree : Formula) (rest : List Token) : Type 0 where
  pub count : ℕ
  pub enough : length rest ≤ count
  pub same : whole ≡ more_parts kind part count tree rest

no_operator : (kind : Operator) (rest : List Token) → begins_with kind rest ≡ true → 1 ≤ length rest
no_operator kind [] e = cc
no_operator kind (t ∷ ts) e = omega arith

wrong_part : (kind : Operator) (part : Rule Formula) (whole : Result (Read Formula) ExprFault) (tree : Formula)
    (rest : List Token) (fault : ExprFault) (count : ℕ) → length rest ≤ count →
    whole ≡ more_parts kind part count tree rest → begins_with kind rest ≡ true → part (after_first rest) ≡ Err fault →
    whole ≡ Err fault
wrong_part kind part whole tree rest fault zero enough same operator read = absurd (omega (arith, no_operator kind rest operator))
wrong_part kind part whole tree rest fault (suc count) enough same operator read = same ∙ rw operator (rw read refl)

bad_part : (kind : Operator) (part : Rule Formula) (whole : Result (Read Formula) ExprFault) (tree : Formula)
    (rest : List Token) (fault : ExprFault) → IsChainSoFar kind part whole tree rest → begins_with kind rest ≡ true →
    part (after_first rest) ≡ Err fault → whole ≡ Err fault
bad_part kind part whole tree rest fault so_far = wrong_part kind part whole tree rest fault so_far.count so_far.enough so_far.same

-- the fault of a part is that of the whole
pub fault_of_part : (kind : Operator) (part : Rule Formula) (whole : Result (Read Formula) ExprFault) (tree : Formula)
    (rest : List Token) (fault : ExprFault) → IsChainSoFar kind part whole tree rest → begins_with kind rest ≡ true →
    (fault ≡ OutOfMemory) ⊎ (part (after_first rest) ≡ Err fault) → (fault ≡ OutOfMemory) ⊎ (whole ≡ Err fault)
fault_of_part kind part whole tree rest fault so_far operator (inl memory) = inl memory
fault_of_part kind part whole tree rest fault so_far operator (inr e) = inr (bad_part kind part whole tree rest fault so_far operator e)
