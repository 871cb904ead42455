-- Where a chain of parts stops.
use Rattle.std.proofs.Common.{◌≡◌, ℕ, zero, suc, ◌≤◌, Bool, List, [], ◌∷◌, ◌++◌, length, length-append, refl, ap, sym}
use Rattle.std.proofs.Common.{subst, ◌∙◌, arith, append_assoc, append-nil, Err, Result}
use Rattle.ember_expr.specs.declared.fault.ExprFault.{ExprFault}
use Rattle.ember_expr.specs.declared.token.Word.{Word}
use Rattle.ember_expr.specs.declared.token.Token.{Token}
use Rattle.ember_expr.specs.declared.grammar.Scope.{Scope}
use Rattle.ember_expr.specs.Grammar.{Read, read, Rule, ◌>>=◌}
use Rattle.ember_expr.specs.Derivation.{IsFitWord, words}
use Rattle.ember_expr.proofs.Stops.{SameFirst, same_itself, Form, StopsAs, Stops, complete_now, bind_stops, as_stops, after_token}

-- what a chain does at these tokens: it ends, or passes the first one and goes on with a part of one of several kinds
pub data Turn {M S T : Type 0} (more : ℕ → S → Rule S) (P : M → Form T) (Q : Form S) (scope : Scope)
    (ts : List Token) : Type 0 where
  ends : ((us : List Token) → SameFirst ts us → (count : ℕ) (s : S) → more count s us ≡ read s us) → Turn more P Q scope ts
  goes : (m : M) (t : Token) (us : List Token) (part : Rule T) (push : S → T → S) → ts ≡ t ∷ us →
      IsFitWord scope.meshes t.word → ((vs : List Token) (count : ℕ) (s : S) → more (suc count) s (t ∷ vs)
      ≡ (part vs >>= λ next. more count (push s next.part) next.rest)) → Stops (P m) scope part us →
      ((k : Bool) (vs ws : List Word) (s : S) (x : T) → Q k vs s → P m k ws x → Q k (vs ++ t.word ∷ ws) (push s x)) →
      Turn more P Q scope ts

-- what a chain gives that has read so much, where it may go on for as many parts as there are tokens
abbrev pub GivesFrom : {S : Type 0} → (ℕ → S → Rule S) → S → List Token → Result (Read S) ExprFault → Type 0
GivesFrom more s us r = (count : ℕ) → length us ≤ count → more count s us ≡ r

goes_joins : {S T : Type 0} (more : ℕ → S → Rule S) (part : Rule T) (push : S → T → S) (t : Token) →
    ((vs : List Token) (count : ℕ) (s : S) → more (suc count) s (t ∷ vs)
    ≡ (part vs >>= λ next. more count (push s next.part) next.rest)) →
    (s : S) (x : T) (front us : List Token) (r : Result (Read S) ExprFault) → part (front ++ us) ≡ read x us →
    GivesFrom more (push s x) us r → (count : ℕ) → length (t ∷ front ++ us) ≤ count → more count s (t ∷ front ++ us) ≡ r
goes_joins more part push t law s x front us r e gives zero enough = absurd (omega (arith, enough))
goes_joins more part push t law s x front us r e gives (suc count) enough =
    law (front ++ us) count s ∙ (ap (λ p. p >>= λ next. more count (push s next.part) next.rest) e
    ∙ gives count (omega (arith, enough, length-append front us)))

goes_fails : {S T : Type 0} (more : ℕ → S → Rule S) (part : Rule T) (push : S → T → S) (t : Token) →
    ((vs : List Token) (count : ℕ) (s : S) → more (suc count) s (t ∷ vs)
    ≡ (part vs >>= λ next. more count (push s next.part) next.rest)) → (s : S) (us : List Token) (fault : ExprFault) →
    part us ≡ Err fault → (count : ℕ) → length (t ∷ us) ≤ count → more count s (t ∷ us) ≡ Err fault
goes_fails more part push t law s us fault e zero enough = absurd (omega (arith, enough))
goes_fails more part push t law s us fault e (suc count) enough = law us count s ∙ ap (λ p. p >>= λ next. more count (push s next.part) next.rest) e

shorter : (ts before rest : List Token) (t : Token) (count : ℕ) → ts ≡ before ++ rest → length (t ∷ ts) ≤ suc count → length rest ≤ count
shorter ts before rest t count split enough = omega (arith, enough, ap (λ us. length us) split, length-append before rest)

ends_now : {S : Type 0} (more : ℕ → S → Rule S) (Q : Form S) (scope : Scope) (count : ℕ) (ts : List Token)
    (vs : List Word) (s : S) → ((k : Bool) → Q k vs s) →
    ((us : List Token) → SameFirst ts us → (count : ℕ) (s : S) → more count s us ≡ read s us) →
    StopsAs (λ k ws r. Q k (vs ++ ws) r) (GivesFrom more s) scope ts (more count s ts)
ends_now more Q scope count ts vs s so_far law =
    subst (StopsAs (λ k ws r. Q k (vs ++ ws) r) (GivesFrom more s) scope ts) (sym (law ts (same_itself ts) count s))
    (record {
      before = [];
      split = refl;
      holds = λ k. subst (λ ws. Q k ws s) (sym (append-nil vs)) (so_far k);
      fit = tt;
      local = λ us same. λ count enough. law us same count s;
    })

chain_at : {M S T : Type 0} (more : ℕ → S → Rule S) (P : M → Form T) (Q : Form S) (scope : Scope) →
    ((ts : List Token) → Turn more P Q scope ts) → (count : ℕ) (ts : List Token) →
    Turn more P Q scope ts → length ts ≤ count → (vs : List Word) (s : S) → ((k : Bool) → Q k vs s) →
    StopsAs (λ k ws r. Q k (vs ++ ws) r) (GivesFrom more s) scope ts (more count s ts)
chain_at more P Q scope turns count ts (ends law) enough vs s so_far = ends_now more Q scope count ts vs s so_far law
chain_at more P Q scope turns zero ts (goes m t us part push is fit law h joins) enough vs s so_far = absurd (omega (arith, enough, ap (λ us. length us) is))
chain_at more P Q scope turns (suc count) ts (goes m t us part push is fit law h joins) enough vs s so_far =
    let long : length (t ∷ us) ≤ suc count = subst (λ all. length all ≤ suc count) is enough in
    subst (λ all. StopsAs (λ k ws r. Q k (vs ++ ws) r) (GivesFrom more s) scope all (more (suc count) s all)) (sym is)
    (after_token (λ k ws r. Q k (vs ++ ws) r) (GivesFrom more s) scope t us fit (more (suc count) s (t ∷ us))
    (subst (StopsAs (λ k ws r. Q k (vs ++ t.word ∷ ws) r) (λ us r. GivesFrom more s (t ∷ us) r) scope us)
    (sym (law us count s)) (bind_stops (P m) (λ k ws r. Q k (vs ++ t.word ∷ ws) r) (λ us r. part us ≡ r)
    (λ x. GivesFrom more (push s x)) (λ us r. GivesFrom more s (t ∷ us) r) scope us (part us)
    (λ next. more count (push s next.part) next.rest)
    (λ x front us r e gives. goes_joins more part push t law s x front us r e gives)
    (λ us fault e. goes_fails more part push t law s us fault e)
    (λ k ws x p. complete_now (λ ws r. Q k (vs ++ t.word ∷ ws) r) ws (push s x) (joins k vs ws s x (so_far k) p)) h
    (λ x before rest split p. as_stops (λ k ws r. Q k ((vs ++ t.word ∷ words before) ++ ws) r)
    (λ k ws r. Q k (vs ++ (t.word ∷ words before ++ ws)) r) (GivesFrom more (push s x)) scope rest
    (λ k ws r q. subst (λ all. Q k all r) (append_assoc vs (t.word ∷ words before) ws) q) (more count (push s x) rest)
    (chain_at more P Q scope turns count rest (turns rest) (shorter us before rest t count split long)
    (vs ++ t.word ∷ words before) (push s x) (λ k. joins k vs (words before) s x (so_far k) (p k)))))))

-- a first part, and a chain that goes on after it
pub chain_stops : {M S T A : Type 0} (more : ℕ → S → Rule S) (P : M → Form T) (Q : Form S) (R : Form A)
    (scope : Scope) (first : Rule A) (wrap : A → S) → ((ts : List Token) → Turn more P Q scope ts) →
    ((k : Bool) (ws : List Word) (a : A) → R k ws a → Q k ws (wrap a)) →
    (ts : List Token) → Stops R scope first ts → Stops Q scope
    (λ us. first us >>= λ x. more (length x.rest) (wrap x.part) x.rest) ts
chain_stops more P Q R scope first wrap turns starts ts h =
    bind_stops R Q (λ us r. first us ≡ r) (λ a. GivesFrom more (wrap a))
    (λ us r. (first us >>= λ x. more (length x.rest) (wrap x.part) x.rest) ≡ r) scope ts (first ts)
    (λ x. more (length x.rest) (wrap x.part) x.rest)
    (λ a front us s e gives. ap (λ r. r >>= λ x. more (length x.rest) (wrap x.part) x.rest) e
    ∙ gives (length us) (omega arith)) (λ us fault e. ap (λ r. r >>= λ x. more (length x.rest) (wrap x.part) x.rest)
    e) (λ k ws a r. complete_now (Q k) ws (wrap a) (starts k ws a r)) h
    (λ a before rest split r. chain_at more P Q scope turns (length rest) rest (turns rest) (omega arith)
    (words before) (wrap a) (λ k. starts k (words before) a (r k)))
