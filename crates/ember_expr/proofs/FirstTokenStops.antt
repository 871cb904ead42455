-- Where a rule stops at its first token: it can't begin so, or the token is over a limit.
use Rattle.std.proofs.Common.{◌≡◌, ℕ, ◌<◌, ◌≤◌, Bool, true, false, List, [], ◌∷◌, refl, ap, sym, subst, ◌∙◌}
use Rattle.std.proofs.Common.{Some, None, Ok, Err, Result, Option, inl, inr, if◌then◌else◌, nat_le, ◌&&◌, rules}
use Rattle.ember_expr.specs.declared.fault.ExprFault.{ExprFault}
use Rattle.ember_expr.specs.declared.fault.ExprFault.TheVariants.{Syntax, Deep, NoMesh, Long, OutOfMemory}
use Rattle.ember_expr.specs.declared.fault.ExprFault.TheVariants as fault
use Rattle.ember_expr.specs.declared.token.Word.{Word}
use Rattle.ember_expr.specs.declared.token.Word.TheVariants as word
use Rattle.ember_expr.specs.declared.token.Token.{Token}
use Rattle.ember_expr.specs.declared.grammar.Scope.{Scope}
use Rattle.ember_expr.specs.Formula.{IsMeshNumber}
use Rattle.ember_expr.specs.Grammar.{Rule, ◌>>=◌, limited, existing, mesh_number, misplaced, inside}
use Rattle.ember_expr.specs.Derivation.{IsFitMesh, IsFitWord}
use Rattle.ember_expr.specs.FirstFault.{HasLargeNumber, IsNoMesh, NamesNoMesh, Opens}
use Rattle.ember_expr.proofs.Stops.{SameFirst, same_itself, by_same, by_none, IsAtLimit, IsNextAtFault, allowed_words, Form}
use Rattle.ember_expr.proofs.Stops.{Completes, StopsAs, Stops, step_stops, like_stops}

abbrev pub token : Word → ℕ → Token
token w place = record { word = w; place = place }

-- ---- misplaced tokens
same_misplaced : (scope : Scope) (ts us : List Token) → SameFirst ts us → misplaced scope us ≡ misplaced scope ts
same_misplaced scope [] us same = by_none (λ vs. misplaced scope vs ≡ misplaced scope []) us same refl
same_misplaced scope (t ∷ ts) us same = by_same (λ vs. misplaced scope vs ≡ misplaced scope (t ∷ ts)) t ts us same (λ vs. refl)

misplaced_here : (scope : Scope) (ts : List Token) → IsNextAtFault scope ts (misplaced scope ts)
misplaced_here scope [] = refl
misplaced_here scope (t ∷ ts) = refl

misplaced_allows_none : (scope : Scope) (ts : List Token) → allowed_words ts (misplaced scope ts) ≡ []
misplaced_allows_none scope [] = refl
misplaced_allows_none scope (t ∷ ts) = refl

-- a rule that can't begin with such a first token
fault_stops : {A : Type 0} (P : Form A) (scope : Scope) (rule : Rule A) (ts : List Token) →
    ((k : Bool) → Completes (P k) []) → ((us : List Token) → SameFirst ts us → rule us ≡ Err (misplaced scope us)) →
    Stops P scope rule ts
fault_stops P scope rule ts completes law =
    subst (StopsAs P (λ us s. rule us ≡ s) scope ts) (sym (law ts (same_itself ts))) (record {
      before = [];
      rest = ts;
      split = refl;
      here = misplaced_here scope ts;
      sure = [];
      up_to = inl refl;
      completes = completes true;
      allowed = subst (Completes (P false)) (sym (misplaced_allows_none scope ts)) (completes false);
      fit = tt;
      local = λ us same. law us same ∙ ap (λ e. Err e) (same_misplaced scope ts us same);
    })

-- a rule that some words complete, and that no text is left for, faults at the end
pub fault_at_end : {A : Type 0} (P : Form A) (scope : Scope) (rule : Rule A) → ((k : Bool) → Completes (P k) []) →
    rule [] ≡ Err (Syntax scope.end) → Stops P scope rule []
fault_at_end P scope rule completes law = fault_stops P scope rule [] completes (λ us same. by_none (λ vs. rule vs ≡ Err (misplaced scope vs)) us same law)

-- a rule that some words complete, and that never goes on with this token, faults at it
pub fault_at : {A : Type 0} (P : Form A) (scope : Scope) (rule : Rule A) (t : Token) (ts : List Token) →
    ((k : Bool) → Completes (P k) []) → ((vs : List Token) → rule (t ∷ vs) ≡ Err (Syntax t.place)) →
    Stops P scope rule (t ∷ ts)
fault_at P scope rule t ts completes law = fault_stops P scope rule (t ∷ ts) completes
    (λ us same. by_same (λ vs. rule vs ≡ Err (misplaced scope vs)) t ts us same law)

-- rules that agree behind a token stop alike at it
pub like_at : {A : Type 0} (P : Form A) (scope : Scope) (rule other : Rule A) (t : Token)
    (ts : List Token) → ((vs : List Token) → rule (t ∷ vs) ≡ other (t ∷ vs)) → Stops P scope other (t ∷ ts) →
    Stops P scope rule (t ∷ ts)
like_at P scope rule other t ts law h = like_stops P scope rule other (t ∷ ts) (λ us same. by_same (λ vs. rule vs ≡ other vs) t ts us same law) h

-- ---- limits
-- a token over a limit is the next one at fault, and the grammar allows it
pub limit_here : (scope : Scope) (t : Token) (ts : List Token) (fault : ExprFault) → IsAtLimit scope t fault →
    IsNextAtFault scope (t ∷ ts) fault × (allowed_words (t ∷ ts) fault ≡ t.word ∷ [])
limit_here scope t ts (Syntax place) h = absurd h
limit_here scope t ts (Deep place) h = (h, refl)
limit_here scope t ts (NoMesh n) h = (h, refl)
limit_here scope t ts (fault.Number place) h = (h, refl)
limit_here scope t ts Long h = absurd h
limit_here scope t ts OutOfMemory h = absurd h

-- a rule that this token is allowed in, but is over a limit
pub limit_stops : {A : Type 0} (P : Form A) (scope : Scope) (rule : Rule A) (t : Token) (ts : List Token)
    (fault : ExprFault) → Completes (P true) [] → Completes (P false) (t.word ∷ []) → IsAtLimit scope t fault →
    ((us : List Token) → rule (t ∷ us) ≡ Err fault) → Stops P scope rule (t ∷ ts)
limit_stops P scope rule t ts fault completes allowed over law =
    let next = limit_here scope t ts fault over in
    subst (StopsAs P (λ us s. rule us ≡ s) scope (t ∷ ts)) (sym (law ts)) (record {
      before = [];
      rest = t ∷ ts;
      split = refl;
      here = next.0;
      sure = [];
      up_to = inl refl;
      completes = completes;
      allowed = subst (Completes (P false)) (sym next.1) allowed;
      fit = tt;
      local = λ us same. by_same (λ vs. rule vs ≡ Err fault) t ts us same law;
    })

-- a rule that has read an `odd` of its first tokens and faults at the next one
pub odd_faults : {A : Type 0} (P : Form A) (scope : Scope) (rule : Rule A) (t : Token) (rest : List Token)
    (fault : ExprFault) → t.word ≡ word.Odd → IsFitWord scope.meshes t.word → IsNextAtFault scope rest fault →
    Completes (P true) [] → Completes (P false) (t.word ∷ allowed_words rest fault) →
    ((us : List Token) → SameFirst rest us → rule (t ∷ us) ≡ Err fault) → Stops P scope rule (t ∷ rest)
odd_faults P scope rule t rest fault odd fit here completes allowed law =
    subst (StopsAs P (λ us s. rule us ≡ s) scope (t ∷ rest)) (sym (law rest (same_itself rest))) (record {
      before = t ∷ [];
      rest = rest;
      split = refl;
      here = here;
      sure = [];
      up_to = inr (t, odd, refl);
      completes = completes;
      allowed = record { more = allowed.more; part = allowed.part; holds = allowed.holds };
      fit = (fit, tt);
      local = law;
    })

-- the number of this token, within the limits, or a fault of the token
abbrev pub ChecksAs : Scope → Token → ℕ → Result ℕ ExprFault → Type 0
ChecksAs scope t n (Ok k) = (k ≡ n) × IsFitWord scope.meshes t.word
ChecksAs scope t n (Err fault) = IsAtLimit scope t fault

-- a rule that checks the number of its first token
pub check_stops : {A : Type 0} (P : Form A) (scope : Scope) (rule : Rule A) (n : ℕ) (c : Result ℕ ExprFault)
    (next : ℕ → Rule A) (t : Token) (ts : List Token) → ChecksAs scope t n c →
    ((us : List Token) → rule (t ∷ us) ≡ (c >>= λ k. next k us)) → Completes (P true) [] →
    Completes (P false) (t.word ∷ []) → Stops (λ k ws a. P k (t.word ∷ ws) a) scope (next n) ts →
    Stops P scope rule (t ∷ ts)
check_stops P scope rule n (Ok k) next t ts checks law completes allowed h =
    step_stops P scope rule (next n) t ts checks.1 (λ us. law us ∙ ap (λ j. next j us) checks.0) h
check_stops P scope rule n (Err fault) next t ts checks law completes allowed h =
    limit_stops P scope rule t ts fault completes allowed checks law

-- a rule that goes on one level deeper stops where the inner one does, and at its token if no level is left
pub inside_stops : {A B : Type 0} (P : Form B) (scope : Scope) (rule : Rule B) (inner : Option A) (go : A → Rule B)
    (t : Token) (ts : List Token) → Opens t.word → IsFitWord scope.meshes t.word →
    ((us : List Token) → rule (t ∷ us) ≡ inside inner t.place (λ x. go x us)) → Completes (P true) [] →
    Completes (P false) (t.word ∷ []) →
    ((x : A) → inner ≡ Some x → Stops (λ k ws b. P k (t.word ∷ ws) b) scope (go x) ts) → Stops P scope rule (t ∷ ts)
inside_stops P scope rule None go t ts opens fit law completes allowed h =
    limit_stops P scope rule t ts (Deep t.place) completes allowed (refl, opens) law
inside_stops P scope rule (Some x) go t ts opens fit law completes allowed h =
    step_stops P scope rule (go x) t ts fit law (h x refl)

-- ---- numbers
number_by : (scope : Scope) (place n : ℕ) (small : Bool) → nat_le n 1000000 ≡ small →
    ChecksAs scope (token (word.Number n) place) n (if small then Ok n else Err (fault.Number place))
number_by scope place n true e = (refl, search (rules, e))
number_by scope place n false e = (refl, search (rules, e))

-- the number of a token
pub number_checks : (scope : Scope) (place n : ℕ) → ChecksAs scope (token (word.Number n) place) n (limited place n)
number_checks scope place n = number_by scope place n (nat_le n 1000000) refl

no_mesh : (meshes n : ℕ) → (nat_le 1 n && nat_le n meshes) ≡ false → IsMeshNumber meshes n → ⊥
no_mesh meshes n e is =
    let first : nat_le 1 n ≡ true = search (rules, is.first) in
    let last : nat_le n meshes ≡ true = search (rules, is.last) in
    let both : (nat_le 1 n && nat_le n meshes) ≡ true = rw (first, last) refl in
    let wrong : true ≡ false = sym both ∙ e in absurd (cc)

-- the number of a mesh, by what its word may be
module _ (scope : Scope) (t : Token) (n : ℕ) (fits : IsFitMesh scope.meshes n → IsFitWord scope.meshes t.word)
    (large : 1000000 < n → HasLargeNumber t.word) (none : IsNoMesh scope.meshes n →
    NamesNoMesh scope.meshes n t.word) where
  existing_by : (exists : Bool) → (nat_le 1 n && nat_le n scope.meshes) ≡ exists → n ≤ 1000000 →
      ChecksAs scope t n (if exists then Ok n else Err (NoMesh n))
  existing_by true e small =
      (refl, fits (record { small = small; first = search (rules, e); last = search (rules, e) }))
  existing_by false e small = none (record { small = small; none = no_mesh scope.meshes n e })

  mesh_by : (small : Bool) → nat_le n 1000000 ≡ small →
      ChecksAs scope t n ((if small then Ok n else Err (fault.Number t.place)) >>= λ k. existing scope k)
  mesh_by true e = existing_by (nat_le 1 n && nat_le n scope.meshes) refl (search (rules, e))
  mesh_by false e = (refl, large (search (rules, e)))

  pub mesh_checks : ChecksAs scope t n (mesh_number scope t.place n)
  mesh_checks = mesh_by (nat_le n 1000000) refl
