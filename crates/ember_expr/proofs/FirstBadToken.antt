-- A fault of syntax is at the first token that no text of the grammar has after the tokens before it.
use Rattle.std.proofs.Common.{◌≡◌, ℕ, Bool, true, false, if◌then◌else◌, nat_le, List, [], ◌∷◌, ◌++◌, length, refl, ap}
use Rattle.std.proofs.Common.{sym, subst, ◌∙◌, append_assoc, append-nil, Ok, Err, Result, ◌⊎◌, inl, inr}
use Rattle.std.proofs.lemmas.List.{map-append}
use Rattle.ember_algebra.specs.Relations.{Every}
use Rattle.ember_expr.specs.declared.fault.ExprFault.{ExprFault}
use Rattle.ember_expr.specs.declared.fault.ExprFault.TheVariants.{Syntax, Long}
use Rattle.ember_expr.specs.declared.token.Word.{Word}
use Rattle.ember_expr.specs.declared.token.Token.{Token}
use Rattle.ember_expr.specs.declared.grammar.Scope.{Scope}
use Rattle.ember_expr.specs.Formula.{Formula}
use Rattle.ember_expr.specs.Tokens.{tokens_of}
use Rattle.ember_expr.specs.Grammar.{Read, ◌>>=◌, misplaced, or, not, ended, whole, expr_of}
use Rattle.ember_expr.specs.Derivation.{IsExpression, IsFitWord, words}
use Rattle.ember_expr.specs.Derivation as grammar
use Rattle.ember_expr.specs.FirstBadToken.{IsPrefix, NoneGoesOn, place_of, IsFirstBadToken}
use Rattle.ember_expr.proofs.OneTree.{err_same, whole_no_syntax, unplaced, unplaced_words}
use Rattle.ember_expr.proofs.Stops.{SameFirst, by_same, IsNextAtFault, IsUpToOdd, allowed_words, Completes, complete_now}
use Rattle.ember_expr.proofs.Stops.{Reads, StopsAs}
use Rattle.ember_expr.proofs.TreeStops.{IsPhrase, or_stops, not_stops}

-- ---- a list of tokens
-- a fault, whatever follows its token
pub record StopsShort (scope : Scope) (left : ℕ) (ts : List Token) (fault : ExprFault) : Type 0 where
  pub before : List Token
  pub rest : List Token
  pub split : ts ≡ before ++ rest
  pub here : IsNextAtFault scope rest fault
  pub sure : List Token
  pub up_to : IsUpToOdd sure before
  pub completes : Completes (IsPhrase left grammar.or true) (words sure)
  pub allowed : Completes (IsPhrase left grammar.or false) (words before ++ allowed_words rest fault)
  pub fit : Every (IsFitWord scope.meshes) (words before)
  pub local : (us : List Token) → SameFirst rest us → whole scope left (before ++ us) ≡ Err fault

too_long : (scope : Scope) (left : ℕ) (ts : List Token) (fault : ExprFault) (f : Formula) (rest : List Token) →
    Reads (IsPhrase left grammar.or) (λ us r. or (not scope left) us ≡ r) scope ts f rest →
    ended f rest ≡ Err fault → StopsShort scope left ts fault
unfolding whole
too_long scope left ts fault f [] h e = cc
too_long scope left ts fault f (t ∷ rest) h e = subst (StopsShort scope left ts) (err_same (Syntax t.place) fault e) (record {
  before = h.before;
  rest = t ∷ rest;
  split = h.split;
  here = refl;
  sure = h.before;
  up_to = inl refl;
  completes = complete_now (IsPhrase left grammar.or true) (words h.before) f (h.holds true);
  allowed = complete_now (IsPhrase left grammar.or false) (words h.before ++ []) f
      (subst (λ ws. IsPhrase left grammar.or false ws f) (sym (append-nil (words h.before))) (h.holds false));
  fit = h.fit;
  local = λ us same. ap (λ r. r >>= λ e. ended e.part e.rest) (h.local us same)
      ∙ by_same (λ vs. ended f vs ≡ Err (Syntax t.place)) t rest us same (λ vs. refl);
})

stops_short : (scope : Scope) (left : ℕ) (ts : List Token) (fault : ExprFault) (r : Result (Read Formula) ExprFault) →
    StopsAs (IsPhrase left grammar.or) (λ us s. or (not scope left) us ≡ s) scope ts r →
    (r >>= λ e. ended e.part e.rest) ≡ Err fault → StopsShort scope left ts fault
unfolding whole
stops_short scope left ts fault (Ok x) h e = too_long scope left ts fault x.part x.rest h e
stops_short scope left ts fault (Err other) k e = subst (StopsShort scope left ts) (err_same other fault e) (record {
  before = k.before;
  rest = k.rest;
  split = k.split;
  here = k.here;
  sure = k.sure;
  up_to = k.up_to;
  completes = k.completes;
  allowed = k.allowed;
  fit = k.fit;
  local = λ us same. ap (λ r. r >>= λ e. ended e.part e.rest) (k.local us same);
})

-- where a text with a fault stops
pub whole_stops : (scope : Scope) (left : ℕ) (ts : List Token) (fault : ExprFault) → whole scope left ts ≡ Err fault → StopsShort scope left ts fault
unfolding whole
whole_stops scope left ts fault e = stops_short scope left ts fault (or (not scope left) ts)
    (or_stops scope left (not scope left) (λ us. not_stops scope left us) ts) e

-- some text of the grammar begins with the words before the fault
pub words_are_prefix : (scope : Scope) (left : ℕ) (ts : List Token) (fault : ExprFault)
    (stop : StopsShort scope left ts fault) → IsPrefix (words stop.before)
words_are_prefix scope left ts fault stop =
    let more = allowed_words stop.rest fault in
    record {
      others = more ++ stop.allowed.more;
      tree = stop.allowed.part;
      derived = subst (λ ws. IsExpression ws stop.allowed.part)
          (append_assoc (words stop.before) more stop.allowed.more) stop.allowed.holds.derived;
    }

-- ---- no text goes on there
pub one_word_more : (before more : List Token) (t : Token) (others : List Word) →
    words (before ++ t ∷ more) ++ others ≡ (words before ++ t.word ∷ []) ++ (words more ++ others)
one_word_more before more t others =
    ap (λ ws. ws ++ others) (map-append (λ t. t.word) before (t ∷ more))
    ∙ (append_assoc (words before) (t.word ∷ words more) others
    ∙ sym (append_assoc (words before) (t.word ∷ []) (words more ++ others)))

pub unplaced_after : (before : List Token) (t : Token) (ws : List Word) → words (before ++ t ∷ unplaced ws) ≡ (words before ++ t.word ∷ []) ++ ws
unplaced_after before t ws =
    map-append (λ t. t.word) before (t ∷ unplaced ws)
    ∙ (ap (λ us. words before ++ t.word ∷ us) (unplaced_words ws)
    ∙ sym (append_assoc (words before) (t.word ∷ []) ws))

-- no text of the grammar goes on where each text has a fault of syntax
pub none_goes_on : (scope : Scope) (left place : ℕ) (before rest : List Token) →
    ((us : List Token) → SameFirst rest us → whole scope left (before ++ us) ≡ Err (Syntax place)) →
    NoneGoesOn (words before) (words rest)
none_goes_on scope left place before [] local = λ f d. whole_no_syntax scope left (before ++ []) f place
    (subst (λ ts. IsExpression (words ts) f) (sym (append-nil before)) d) (local [] tt)
none_goes_on scope left place before (t ∷ rest) local =
    λ b. whole_no_syntax scope left (before ++ t ∷ unplaced b.others) b.tree place
    (subst (λ ws. IsExpression ws b.tree) (sym (unplaced_after before t b.others)) b.derived)
    (local (t ∷ unplaced b.others) refl)

-- ---- a text
same_syntax : (a b : ℕ) → ◌≡◌ {A = ExprFault} (Syntax a) (Syntax b) → a ≡ b
same_syntax a b e = cc

pub place_here : (scope : Scope) (rest : List Token) (place : ℕ) → misplaced scope rest ≡ Syntax place → place_of scope.end rest ≡ place
place_here scope [] place e = same_syntax scope.end place e
place_here scope (t ∷ rest) place e = same_syntax t.place place e

first_bad_by : (text : List ℕ) (meshes place : ℕ) (short : Bool) →
    ◌≡◌ {A = Result Formula ExprFault} (if short then whole (record { meshes = meshes; end = length text }) 64
    (tokens_of text) else Err Long) (Err (Syntax place)) → IsFirstBadToken text place
first_bad_by text meshes place true e =
    let scope : Scope = record { meshes = meshes; end = length text } in
    let stop = whole_stops scope 64 (tokens_of text) (Syntax place) e in
    record {
      before = stop.before;
      rest = stop.rest;
      split = stop.split;
      here = place_here scope stop.rest place stop.here;
      prefix = words_are_prefix scope 64 (tokens_of text) (Syntax place) stop;
      stuck = none_goes_on scope 64 place stop.before stop.rest stop.local;
    }
first_bad_by text meshes place false e = cc

-- a fault of syntax is at the first bad token
pub syntax_fault_is_first : (text : List ℕ) (meshes place : ℕ) → expr_of text meshes ≡ Err (Syntax place) → IsFirstBadToken text place
syntax_fault_is_first text meshes place e = first_bad_by text meshes place (nat_le (length text) 4096) e

-- ---- one place
-- these tokens go on with the first of those, and with more
pub record GoesOnWith (before longer rest : List Token) : Type 0 where
  pub first : Token
  pub more : List Token
  pub tail : List Token
  pub split : longer ≡ before ++ first ∷ more
  pub is : rest ≡ first ∷ tail

goes_further : (x y : Token) (before longer rest : List Token) → x ≡ y → GoesOnWith before longer rest → GoesOnWith (x ∷ before) (y ∷ longer) rest
goes_further x y before longer rest same g = record {
  first = g.first;
  more = g.more;
  tail = g.tail;
  split =
      ap (λ t. t ∷ longer) (sym same) ∙ ap (λ ts. x ∷ ts) g.split;
  is = g.is;
}

-- two splits of one list are the same, or one goes further
abbrev pub TwoSplits : List Token → List Token → List Token → List Token → Type 0
TwoSplits xs r ys s = ((xs ≡ ys) × (r ≡ s)) ⊎ (GoesOnWith xs ys r ⊎ GoesOnWith ys xs s)

same_tail : (x y : Token) (xs r ys s : List Token) → x ≡ y → TwoSplits xs r ys s → TwoSplits (x ∷ xs) r (y ∷ ys) s
same_tail x y xs r ys s same (inl e) = inl (ap (λ t. t ∷ xs) same ∙ ap (λ ts. y ∷ ts) e.0, e.1)
same_tail x y xs r ys s same (inr (inl g)) = inr (inl (goes_further x y xs ys r same g))
same_tail x y xs r ys s same (inr (inr g)) = inr (inr (goes_further y x ys xs s (sym same) g))

pub two_splits : (xs r ys s : List Token) → xs ++ r ≡ ys ++ s → TwoSplits xs r ys s
two_splits [] r [] s e = inl (refl, e)
two_splits [] r (y ∷ ys) s e = inr (inl (record { first = y; more = ys; tail = ys ++ s; split = refl; is = e }))
two_splits (x ∷ xs) r [] s e = inr (inr (record { first = x; more = xs; tail = xs ++ r; split = refl; is = sym e }))
two_splits (x ∷ xs) r (y ∷ ys) s e =
    let first : x ≡ y = cc in
    let later : xs ++ r ≡ ys ++ s = cc in
    same_tail x y xs r ys s first (two_splits xs r ys s later)

-- no text goes on where one does
no_longer : (before longer rest : List Token) → GoesOnWith before longer rest → NoneGoesOn (words before) (words rest) → IsPrefix (words longer) → ⊥
no_longer before longer rest g stuck b =
    let none : NoneGoesOn (words before) (words (g.first ∷ g.tail)) = subst (λ ts. NoneGoesOn (words before) (words ts)) g.is stuck in
    none (record {
      others = words g.more ++ b.others;
      tree = b.tree;
      derived =
          subst (λ ws. IsExpression ws b.tree) (one_word_more before g.more g.first b.others)
          (subst (λ ts. IsExpression (words ts ++ b.others) b.tree) g.split b.derived);
    })

one_place_by : (text : List ℕ) (p q : ℕ) (a : IsFirstBadToken text p) (b : IsFirstBadToken text q) →
    TwoSplits a.before a.rest b.before b.rest → p ≡ q
one_place_by text p q a b (inl e) = sym a.here ∙ (ap (λ ts. place_of (length text) ts) e.1 ∙ b.here)
one_place_by text p q a b (inr (inl g)) = absurd (no_longer a.before b.before a.rest g a.stuck b.prefix)
one_place_by text p q a b (inr (inr g)) = absurd (no_longer b.before a.before b.rest g b.stuck a.prefix)

-- a text has one first bad token
pub first_bad_is_one : (text : List ℕ) (p q : ℕ) → IsFirstBadToken text p → IsFirstBadToken text q → p ≡ q
first_bad_is_one text p q a b = one_place_by text p q a b (two_splits a.before a.rest b.before b.rest (sym a.split ∙ b.split))
