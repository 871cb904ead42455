-- Where a rule stops: what it reads and each fault depend on the tokens up to the next one, the tokens before a fault
-- keep the limits, and words complete them.
use Rattle.std.proofs.Common.{◌≡◌, List, [], ◌∷◌, ◌++◌, refl, ap, sym, subst, true, false, Bool}
use Rattle.std.proofs.Common.{◌∙◌, append_assoc, append-nil, Ok, Err, Result, ◌⊎◌, inl, inr}
use Rattle.std.proofs.lemmas.List.{map-append}
use Rattle.ember_algebra.specs.Relations.{Every}
use Rattle.ember_algebra.proofs.Relations.{every_append}
use Rattle.ember_expr.specs.declared.fault.ExprFault.{ExprFault}
use Rattle.ember_expr.specs.declared.fault.ExprFault.TheVariants.{Syntax, Deep, NoMesh}
use Rattle.ember_expr.specs.declared.fault.ExprFault.TheVariants as fault
use Rattle.ember_expr.specs.declared.token.Word.{Word}
use Rattle.ember_expr.specs.declared.token.Word.TheVariants as word
use Rattle.ember_expr.specs.declared.token.Token.{Token}
use Rattle.ember_expr.specs.declared.grammar.Scope.{Scope}
use Rattle.ember_expr.specs.Grammar.{Read, read, Rule, ◌>>=◌, misplaced}
use Rattle.ember_expr.specs.Derivation.{IsFitWord, words}
use Rattle.ember_expr.specs.FirstFault.{HasLargeNumber, NamesNoMesh, Opens}

-- ---- lists that begin with one token, or are both empty
abbrev pub SameFirst : List Token → List Token → Type 0
SameFirst [] [] = Unit {0}
SameFirst (t ∷ ts) (u ∷ us) = t ≡ u
SameFirst _ _ = ⊥

-- a list begins as it does itself
pub same_itself : (ts : List Token) → SameFirst ts ts
same_itself [] = tt
same_itself (t ∷ ts) = refl

same_after : (front ts us : List Token) → SameFirst ts us → SameFirst (front ++ ts) (front ++ us)
same_after [] ts us same = same
same_after (t ∷ front) ts us same = refl

-- to show a fact of a text that begins with t, show it of t before any text
pub by_same : (Q : List Token → Type 0) (t : Token) (ts us : List Token) → SameFirst (t ∷ ts) us → ((vs : List Token) → Q (t ∷ vs)) → Q us
by_same Q t ts [] same h = absurd same
by_same Q t ts (u ∷ us) same h = subst (λ v. Q (v ∷ us)) same (h us)

-- a text that begins as the empty one is empty
pub by_none : (Q : List Token → Type 0) (us : List Token) → SameFirst [] us → Q [] → Q us
by_none Q [] same h = h
by_none Q (u ∷ us) same h = absurd same

-- ---- faults
-- the token is over a limit
abbrev pub IsAtLimit : Scope → Token → ExprFault → Type 0
IsAtLimit scope t (fault.Number place) = (t.place ≡ place) × HasLargeNumber t.word
IsAtLimit scope t (NoMesh n) = NamesNoMesh scope.meshes n t.word
IsAtLimit scope t (Deep place) = (t.place ≡ place) × Opens t.word
IsAtLimit scope t _ = ⊥

-- the next token is misplaced, or over a limit
abbrev pub IsNextAtFault : Scope → List Token → ExprFault → Type 0
IsNextAtFault scope rest (Syntax place) = misplaced scope rest ≡ Syntax place
IsNextAtFault scope [] fault = ⊥
IsNextAtFault scope (t ∷ ts) fault = IsAtLimit scope t fault

-- the next word, if it is only over a limit
abbrev pub allowed_words : List Token → ExprFault → List Word
allowed_words rest (Syntax place) = []
allowed_words [] fault = []
allowed_words (t ∷ ts) fault = t.word ∷ []

-- all these tokens, or all but an `odd` at their end
abbrev pub IsUpToOdd : List Token → List Token → Type 0
IsUpToOdd sure before = (before ≡ sure) ⊎ ((t : Token) × (t.word ≡ word.Odd) × (before ≡ sure ++ t ∷ []))

-- ---- where a rule stops
-- what words are as a part: within the depth that is left (true), or at any depth (false)
abbrev pub Form : Type 0 → Type 1
Form A = Bool → List Word → A → Type 0

-- more words make these a whole
pub record Completes {A : Type 0} (P : List Word → A → Type 0) (ws : List Word) : Type 0 where
  pub more : List Word
  pub part : A
  pub holds : P (ws ++ more) part

-- a part is read, whatever follows the next token
pub record Reads {A : Type 0} (P : Form A) (gives : List Token → Result (Read A) ExprFault → Type 0) (scope : Scope)
    (ts : List Token) (part : A) (rest : List Token) : Type 0 where
  pub before : List Token
  pub split : ts ≡ before ++ rest
  pub holds : (k : Bool) → P k (words before) part
  pub fit : Every (IsFitWord scope.meshes) (words before)
  pub local : (us : List Token) → SameFirst rest us → gives (before ++ us) (read part us)

-- the next token has the fault, whatever follows it
pub record Faults {A : Type 0} (P : Form A) (gives : List Token → Result (Read A) ExprFault → Type 0) (scope : Scope)
    (ts : List Token) (fault : ExprFault) : Type 0 where
  pub before : List Token
  pub rest : List Token
  pub split : ts ≡ before ++ rest
  pub here : IsNextAtFault scope rest fault
  pub sure : List Token
  pub up_to : IsUpToOdd sure before
  pub completes : Completes (P true) (words sure)
  pub allowed : Completes (P false) (words before ++ allowed_words rest fault)
  pub fit : Every (IsFitWord scope.meshes) (words before)
  pub local : (us : List Token) → SameFirst rest us → gives (before ++ us) (Err fault)

abbrev pub StopsAs : {A : Type 0} → Form A → (List Token → Result (Read A) ExprFault → Type 0) →
    Scope → List Token → Result (Read A) ExprFault → Type 0
StopsAs P gives scope ts (Ok x) = Reads P gives scope ts x.part x.rest
StopsAs P gives scope ts (Err fault) = Faults P gives scope ts fault

abbrev pub Stops : {A : Type 0} → Form A → Scope → Rule A → List Token → Type 0
Stops P scope rule ts = StopsAs P (λ us r. rule us ≡ r) scope ts (rule ts)

-- words that are complete without any more
pub complete_now : {A : Type 0} (P : List Word → A → Type 0) (ws : List Word) (a : A) → P ws a → Completes P ws
complete_now P ws a h = record { more = []; part = a; holds = subst (λ all. P all a) (sym (append-nil ws)) h }

complete_then : {A B : Type 0} (P : List Word → A → Type 0) (Q : List Word → B → Type 0) →
    ((ws : List Word) (a : A) → P ws a → Completes Q ws) → (ws : List Word) → Completes P ws → Completes Q ws
complete_then P Q ends ws c = let e = ends (ws ++ c.more) c.part c.holds in record {
  more = c.more ++ e.more;
  part = e.part;
  holds = subst (λ all. Q all e.part) (append_assoc ws c.more e.more) e.holds;
}

complete_as : {A : Type 0} (P Q : List Word → A → Type 0) → ((ws : List Word) (a : A) → P ws a → Q ws a) →
    (ws : List Word) → Completes P ws → Completes Q ws
complete_as P Q imp ws c = record { more = c.more; part = c.part; holds = imp (ws ++ c.more) c.part c.holds }

-- ---- one rule after another
split_words : (front middle : List Token) (more : List Word) → words (front ++ middle) ++ more ≡ words front ++ (words middle ++ more)
split_words front middle more = ap (λ ws. ws ++ more) (map-append (λ t. t.word) front middle) ∙ append_assoc (words front) (words middle) more

split_allowed : (front middle : List Token) (ws more : List Word) →
    (words (front ++ middle) ++ ws) ++ more ≡ words front ++ ((words middle ++ ws) ++ more)
split_allowed front middle ws more = ap (λ us. us ++ more) (split_words front middle ws) ∙ append_assoc (words front) (words middle ++ ws) more

all_fit : (scope : Scope) (front middle : List Token) → Every (IsFitWord scope.meshes) (words front) →
    Every (IsFitWord scope.meshes) (words middle) → Every (IsFitWord scope.meshes) (words (front ++ middle))
all_fit scope front middle h k =
    subst (Every (IsFitWord scope.meshes)) (sym (map-append (λ t. t.word) front middle))
    (every_append (IsFitWord scope.meshes) (words front) (words middle) h k)

up_to_behind : (front sure before : List Token) → IsUpToOdd sure before → IsUpToOdd (front ++ sure) (front ++ before)
up_to_behind front sure before (inl e) = inl (ap (λ ts. front ++ ts) e)
up_to_behind front sure before (inr (t, o, e)) = inr (t, o, ap (λ ts. front ++ ts) e ∙ sym (append_assoc front sure (t ∷ [])))

same_rest : (front middle ts us : List Token) → middle ≡ front ++ ts → SameFirst ts us → SameFirst middle (front ++ us)
same_rest front middle ts us split same = subst (λ m. SameFirst m (front ++ us)) (sym split) (same_after front ts us same)

then_stops : {A B : Type 0} (P : Form A) (Q : Form B) (gives : List Token → Result (Read A) ExprFault → Type 0)
    (next whole : List Token → Result (Read B) ExprFault → Type 0) (scope : Scope) (ts middle : List Token) (part : A)
    (h : Reads P gives scope ts part middle) →
    ((front us : List Token) (r : Result (Read B) ExprFault) → gives (front ++ us) (read part us) → next us r →
    whole (front ++ us) r) → (r : Result (Read B) ExprFault) →
    StopsAs (λ k ws b. Q k (words h.before ++ ws) b) next scope middle r → StopsAs Q whole scope ts r
then_stops P Q gives next whole scope ts middle part h joins (Ok y) k = record {
  before = h.before ++ k.before;
  split = h.split ∙ (ap (λ us. h.before ++ us) k.split ∙ sym (append_assoc h.before k.before y.rest));
  holds = λ m. subst (λ ws. Q m ws y.part) (sym (map-append (λ t. t.word) h.before k.before)) (k.holds m);
  fit = all_fit scope h.before k.before h.fit k.fit;
  local = λ us same. subst (λ all. whole all (read y.part us)) (sym (append_assoc h.before k.before us))
      (joins h.before (k.before ++ us) (read y.part us)
      (h.local (k.before ++ us) (same_rest k.before middle y.rest us k.split same)) (k.local us same));
}
then_stops P Q gives next whole scope ts middle part h joins (Err fault) k = record {
  before = h.before ++ k.before;
  rest = k.rest;
  split = h.split ∙ (ap (λ us. h.before ++ us) k.split ∙ sym (append_assoc h.before k.before k.rest));
  here = k.here;
  sure = h.before ++ k.sure;
  up_to = up_to_behind h.before k.sure k.before k.up_to;
  completes = record {
    more = k.completes.more;
    part = k.completes.part;
    holds =
        subst (λ ws. Q true ws k.completes.part) (sym (split_words h.before k.sure k.completes.more)) k.completes.holds;
  };
  allowed = record {
    more = k.allowed.more;
    part = k.allowed.part;
    holds = subst (λ ws. Q false ws k.allowed.part)
        (sym (split_allowed h.before k.before (allowed_words k.rest fault) k.allowed.more)) k.allowed.holds;
  };
  fit = all_fit scope h.before k.before h.fit k.fit;
  local = λ us same. subst (λ all. whole all (Err fault)) (sym (append_assoc h.before k.before us))
      (joins h.before (k.before ++ us) (Err fault)
      (h.local (k.before ++ us) (same_rest k.before middle k.rest us k.split same)) (k.local us same));
}

-- a rule, and what follows it; `whole` is what both give together
pub bind_stops : {A B : Type 0} (P : Form A) (Q : Form B) (gives : List Token → Result (Read A) ExprFault → Type 0)
    (next : A → List Token → Result (Read B) ExprFault → Type 0) (whole : List Token →
    Result (Read B) ExprFault → Type 0) (scope : Scope) (ts : List Token) (r : Result (Read A) ExprFault) (go : Read A →
    Result (Read B) ExprFault) → ((part : A) (front us : List Token) (s : Result (Read B) ExprFault) →
    gives (front ++ us) (read part us) → next part us s → whole (front ++ us) s) →
    ((us : List Token) (fault : ExprFault) → gives us (Err fault) → whole us (Err fault)) →
    ((k : Bool) (ws : List Word) (a : A) → P k ws a → Completes (Q k) ws) → StopsAs P gives scope ts r →
    ((part : A) (before rest : List Token) → ts ≡ before ++ rest → ((k : Bool) → P k (words before) part) →
    StopsAs (λ k ws b. Q k (words before ++ ws) b) (next part) scope rest (go (record { part = part; rest = rest }))) →
    StopsAs Q whole scope ts (r >>= go)
bind_stops P Q gives next whole scope ts (Ok x) go joins fails ends h more =
    then_stops P Q gives (next x.part) whole scope ts x.rest x.part h (joins x.part) (go x) (more x.part h.before x.rest h.split h.holds)
bind_stops P Q gives next whole scope ts (Err fault) go joins fails ends k more = record {
  before = k.before;
  rest = k.rest;
  split = k.split;
  here = k.here;
  sure = k.sure;
  up_to = k.up_to;
  completes = complete_then (P true) (Q true) (ends true) (words k.sure) k.completes;
  allowed = complete_then (P false) (Q false) (ends false) (words k.before ++ allowed_words k.rest fault) k.allowed;
  fit = k.fit;
  local = λ us same. fails (k.before ++ us) fault (k.local us same);
}

-- a rule, and one that follows it
pub both_stop : {A B : Type 0} (P : Form A) (Q : Form B) (scope : Scope) (rule : Rule A) (next : A → Rule B)
    (ts : List Token) → ((k : Bool) (ws : List Word) (a : A) → P k ws a → Completes (Q k) ws) → Stops P scope rule ts →
    ((part : A) (before rest : List Token) → ((k : Bool) → P k (words before) part) →
    Stops (λ k ws b. Q k (words before ++ ws) b) scope (next part) rest) →
    Stops Q scope (λ us. rule us >>= λ x. next x.part x.rest) ts
both_stop P Q scope rule next ts ends h more =
    bind_stops P Q (λ us r. rule us ≡ r) (λ part us r. next part us ≡ r)
    (λ us r. (rule us >>= λ x. next x.part x.rest) ≡ r) scope ts (rule ts) (λ x. next x.part x.rest)
    (λ part front us s e f. ap (λ r. r >>= λ x. next x.part x.rest) e ∙ f)
    (λ us fault e. ap (λ r. r >>= λ x. next x.part x.rest) e) ends h
    (λ part before rest split holds. more part before rest holds)

-- ---- the same rule in other words
like : {A : Type 0} (P : Form A) (scope : Scope) (rule other : Rule A) (ts : List Token) →
    ((us : List Token) → SameFirst ts us → rule us ≡ other us) → (r : Result (Read A) ExprFault) →
    StopsAs P (λ us s. other us ≡ s) scope ts r → StopsAs P (λ us s. rule us ≡ s) scope ts r
like P scope rule other ts law (Ok x) h = record {
  before = h.before;
  split = h.split;
  holds = h.holds;
  fit = h.fit;
  local = λ us same. law (h.before ++ us) (same_rest h.before ts x.rest us h.split same) ∙ h.local us same;
}
like P scope rule other ts law (Err fault) k = record {
  before = k.before;
  rest = k.rest;
  split = k.split;
  here = k.here;
  sure = k.sure;
  up_to = k.up_to;
  completes = k.completes;
  allowed = k.allowed;
  fit = k.fit;
  local = λ us same. law (k.before ++ us) (same_rest k.before ts k.rest us k.split same) ∙ k.local us same;
}

-- a rule that is another one before such a first token
pub like_stops : {A : Type 0} (P : Form A) (scope : Scope) (rule other : Rule A) (ts : List Token) →
    ((us : List Token) → SameFirst ts us → rule us ≡ other us) → Stops P scope other ts → Stops P scope rule ts
like_stops P scope rule other ts law h = subst (StopsAs P (λ us s. rule us ≡ s) scope ts)
    (sym (law ts (same_itself ts))) (like P scope rule other ts law (other ts) h)

-- what stops a rule for a property stops it for a weaker one
pub as_stops : {A : Type 0} (P Q : Form A) (gives : List Token → Result (Read A) ExprFault →
    Type 0) (scope : Scope) (ts : List Token) → ((k : Bool) (ws : List Word) (a : A) → P k ws a → Q k ws a) →
    (r : Result (Read A) ExprFault) → StopsAs P gives scope ts r → StopsAs Q gives scope ts r
as_stops P Q gives scope ts imp (Ok x) h =
    record { before = h.before; split = h.split; holds = λ k. imp k (words h.before) x.part (h.holds k); fit = h.fit; local = h.local }
as_stops P Q gives scope ts imp (Err fault) k = record {
  before = k.before;
  rest = k.rest;
  split = k.split;
  here = k.here;
  sure = k.sure;
  up_to = k.up_to;
  completes = complete_as (P true) (Q true) (imp true) (words k.sure) k.completes;
  allowed = complete_as (P false) (Q false) (imp false) (words k.before ++ allowed_words k.rest fault) k.allowed;
  fit = k.fit;
  local = k.local;
}

-- ---- the first token
-- a rule that passes a token within the limits
pub after_token : {A : Type 0} (P : Form A) (gives : List Token → Result (Read A) ExprFault → Type 0) (scope : Scope)
    (t : Token) (ts : List Token) → IsFitWord scope.meshes t.word → (r : Result (Read A) ExprFault) →
    StopsAs (λ k ws a. P k (t.word ∷ ws) a) (λ us s. gives (t ∷ us) s) scope ts r → StopsAs P gives scope (t ∷ ts) r
after_token P gives scope t ts fit (Ok x) h =
    record { before = t ∷ h.before; split = ap (λ us. t ∷ us) h.split; holds = h.holds; fit = (fit, h.fit); local = h.local }
after_token P gives scope t ts fit (Err fault) k = record {
  before = t ∷ k.before;
  rest = k.rest;
  split = ap (λ us. t ∷ us) k.split;
  here = k.here;
  sure = t ∷ k.sure;
  up_to = up_to_behind (t ∷ []) k.sure k.before k.up_to;
  completes = record { more = k.completes.more; part = k.completes.part; holds = k.completes.holds };
  allowed = record { more = k.allowed.more; part = k.allowed.part; holds = k.allowed.holds };
  fit = (fit, k.fit);
  local = k.local;
}

-- a rule that passes this token and goes on as another one
pub step_stops : {A : Type 0} (P : Form A) (scope : Scope) (rule other : Rule A) (t : Token) (ts : List Token) →
    IsFitWord scope.meshes t.word → ((us : List Token) → rule (t ∷ us) ≡ other us) →
    Stops (λ k ws a. P k (t.word ∷ ws) a) scope other ts → Stops P scope rule (t ∷ ts)
step_stops P scope rule other t ts fit law h =
    after_token P (λ us s. rule us ≡ s) scope t ts fit (rule (t ∷ ts))
    (like_stops (λ k ws a. P k (t.word ∷ ws) a) scope (λ us. rule (t ∷ us)) other ts (λ us same. law us) h)

-- a rule that passes nothing before such a first token
pub read_stops : {A : Type 0} (P : Form A) (scope : Scope) (rule : Rule A) (a : A) (ts : List Token) →
    ((k : Bool) → P k [] a) → ((us : List Token) → SameFirst ts us → rule us ≡ read a us) → Stops P scope rule ts
read_stops P scope rule a ts holds law = subst (StopsAs P (λ us s. rule us ≡ s) scope ts)
    (sym (law ts (same_itself ts))) (record { before = []; split = refl; holds = holds; fit = tt; local = law })

-- a rule that has read these words, and reads no more
pub read_after : {A : Type 0} (P : Form A) (scope : Scope) (ws : List Word) (a : A) (ts : List Token) →
    ((k : Bool) → P k ws a) → Stops (λ k us b. P k (ws ++ us) b) scope (λ us. read a us) ts
read_after P scope ws a ts h = read_stops (λ k us b. P k (ws ++ us) b) scope (λ us. read a us) a ts
    (λ k. subst (λ all. P k all a) (sym (append-nil ws)) (h k)) (λ us same. refl)
