-- The fault of a text is at its first token that has one, and a text has no other.
use Rattle.std.proofs.Common.{◌≡◌, ℕ, ◌<◌, ◌≤◌, Bool, true, false, if◌then◌else◌, nat_le, List, [], ◌∷◌, ◌++◌, length}
use Rattle.std.proofs.Common.{refl, ap, sym, subst, ◌∙◌, append_assoc, append-nil, Ok, Err, Result, inl, inr, arith, rules}
use Rattle.std.proofs.lemmas.List.{map-append}
use Rattle.ember_algebra.specs.Relations.{Every}
use Rattle.ember_expr.specs.declared.fault.ExprFault.{ExprFault}
use Rattle.ember_expr.specs.declared.fault.ExprFault.TheVariants.{Syntax, Deep, NoMesh, Long, OutOfMemory}
use Rattle.ember_expr.specs.declared.fault.ExprFault.TheVariants as fault
use Rattle.ember_expr.specs.declared.token.Word.{Word}
use Rattle.ember_expr.specs.declared.token.Word.TheVariants as word
use Rattle.ember_expr.specs.declared.token.Token.{Token}
use Rattle.ember_expr.specs.declared.grammar.Scope.{Scope}
use Rattle.ember_expr.specs.Formula.{Formula, IsMeshNumber}
use Rattle.ember_expr.specs.Tokens.{tokens_of}
use Rattle.ember_expr.specs.Grammar.{whole, expr_of}
use Rattle.ember_expr.specs.Derivation.{IsExpression, IsFitWord, HasTree, depth, words}
use Rattle.ember_expr.specs.Derivation as grammar
use Rattle.ember_expr.specs.FirstBadToken.{IsPrefix}
use Rattle.ember_expr.specs.FirstFault.{HasLargeNumber, NamesNoMesh, Opens, IsShallowPrefix, IsOverLimit}
use Rattle.ember_expr.specs.FirstFault.{HasFaultNext, AreFaultless, IsFirstFault, HasFault}
use Rattle.ember_expr.proofs.Complete.{every_after}
use Rattle.ember_expr.proofs.OneTree.{parsed_has_tree, unplaced, whole_not_deep, err_same}
use Rattle.ember_expr.proofs.Stops.{SameFirst, IsNextAtFault, IsUpToOdd, allowed_words, Completes}
use Rattle.ember_expr.proofs.TreeStops.{IsPhrase}
use Rattle.ember_expr.proofs.FirstBadToken.{StopsShort, whole_stops, words_are_prefix, none_goes_on, place_here}
use Rattle.ember_expr.proofs.FirstBadToken.{unplaced_after, one_word_more, GoesOnWith, TwoSplits, two_splits}

-- ---- where a text stops
-- a `(` or `!` that is too deep whatever follows begins no text that is shallow enough
none_is_shallow : (scope : Scope) (place : ℕ) (before ts : List Token) (t : Token) →
    ((us : List Token) → SameFirst (t ∷ ts) us → whole scope 64 (before ++ us) ≡ Err (Deep place)) →
    IsShallowPrefix (words before ++ t.word ∷ []) → ⊥
none_is_shallow scope place before ts t local s =
    let placed : (d : IsExpression (words (before ++ t ∷ unplaced s.others)) s.tree) × (depth d ≤ 64) =
    subst (λ ws. (d : IsExpression ws s.tree) × (depth d ≤ 64)) (sym (unplaced_after before t s.others))
    (s.derived, s.shallow) in
    whole_not_deep scope 64 (before ++ t ∷ unplaced s.others) s.tree place placed.0 placed.1
    (local (t ∷ unplaced s.others) refl)

allowed_prefix : (ws : List Word) → Completes (IsPhrase 64 grammar.or false) ws → IsPrefix ws
allowed_prefix ws c = record { others = c.more; tree = c.part; derived = c.holds.derived }

-- the token where a text stops has the fault
next_has_fault : (scope : Scope) (before rest : List Token) (fault : ExprFault) → IsNextAtFault scope rest fault →
    Completes (IsPhrase 64 grammar.or false) (words before ++ allowed_words rest fault) →
    ((us : List Token) → SameFirst rest us → whole scope 64 (before ++ us) ≡ Err fault) →
    HasFaultNext scope.end scope.meshes (words before) rest fault
next_has_fault scope before rest (Syntax place) here allowed local =
    (place_here scope rest place here, none_goes_on scope 64 place before rest local)
next_has_fault scope before [] (Deep place) here allowed local = absurd here
next_has_fault scope before (t ∷ ts) (Deep place) here allowed local = (
  allowed_prefix (words before ++ t.word ∷ []) allowed,
  (here.0, record { opens = here.1; deep = none_is_shallow scope place before ts t local }),
)
next_has_fault scope before [] (NoMesh n) here allowed local = absurd here
next_has_fault scope before (t ∷ ts) (NoMesh n) here allowed local =
    (allowed_prefix (words before ++ t.word ∷ []) allowed, here)
next_has_fault scope before [] (fault.Number place) here allowed local = absurd here
next_has_fault scope before (t ∷ ts) (fault.Number place) here allowed local =
    (allowed_prefix (words before ++ t.word ∷ []) allowed, here)
next_has_fault scope before [] Long here allowed local = absurd here
next_has_fault scope before (t ∷ ts) Long here allowed local = absurd here
next_has_fault scope before [] OutOfMemory here allowed local = absurd here
next_has_fault scope before (t ∷ ts) OutOfMemory here allowed local = absurd here

-- ---- the words before the fault
-- a word before the last is a word before
before_last : (us xs ys : List Word) (w last : Word) → us ++ last ∷ [] ≡ xs ++ w ∷ ys → (w ≡ last → ⊥) →
    (zs : List Word) × (us ≡ xs ++ w ∷ zs)
before_last [] [] ys w last e other = absurd (other (let same : last ≡ w = cc in sym same))
before_last [] (x ∷ xs) ys w last e other =
    let none : [] ≡ xs ++ w ∷ ys = cc in absurd (none_is_some xs w ys none)
  where
    none_is_some : (xs : List Word) (w : Word) (ys : List Word) → [] ≡ xs ++ w ∷ ys → ⊥
    none_is_some [] w ys e = cc
    none_is_some (x ∷ xs) w ys e = cc
before_last (u ∷ us) [] ys w last e other = let same : u ≡ w = cc in (us, ap (λ v. v ∷ us) same)
before_last (u ∷ us) (x ∷ xs) ys w last e other =
    let same : u ≡ x = cc in
    let later : us ++ last ∷ [] ≡ xs ++ w ∷ ys = cc in
    let r = before_last us xs ys w last later other in (r.0, ap (λ v. v ∷ us) same ∙ ap (λ vs. x ∷ vs) r.1)

odd_opens_none : (w : Word) → Opens w → w ≡ word.Odd → ⊥
odd_opens_none w opens e = subst Opens e opens

-- each `(` and `!` of words that begin a shallow text is shallow enough
shallow_front : (us xs ys : List Word) (w : Word) → Completes (IsPhrase 64 grammar.or true) us → us ≡ xs ++ w ∷ ys →
    IsShallowPrefix (xs ++ w ∷ [])
shallow_front us xs ys w c e =
    let same : us ++ c.more ≡ (xs ++ w ∷ []) ++ (ys ++ c.more) =
    ap (λ vs. vs ++ c.more) e ∙ (append_assoc xs (w ∷ ys) c.more ∙ sym (append_assoc xs (w ∷ []) (ys ++ c.more))) in
    let d : (d : IsExpression ((xs ++ w ∷ []) ++ (ys ++ c.more)) c.part) × (depth d ≤ 64) =
    subst (λ ws. (d : IsExpression ws c.part) × (depth d ≤ 64)) same (c.holds.derived, c.holds.shallow) in
    record { others = ys ++ c.more; tree = c.part; derived = d.0; shallow = d.1 }

shallow_before : (sure before : List Token) → IsUpToOdd sure before →
    Completes (IsPhrase 64 grammar.or true) (words sure) → (xs ys : List Word) (w : Word) →
    words before ≡ xs ++ w ∷ ys → Opens w → IsShallowPrefix (xs ++ w ∷ [])
shallow_before sure before (inl same) c xs ys w e opens =
    shallow_front (words sure) xs ys w c (ap (λ ts. words ts) (sym same) ∙ e)
shallow_before sure before (inr (t, odd, same)) c xs ys w e opens =
    let ends : words sure ++ t.word ∷ [] ≡ xs ++ w ∷ ys =
    sym (ap (λ ts. words ts) same ∙ map-append (λ t. t.word) sure (t ∷ [])) ∙ e in
    let r = before_last (words sure) xs ys w t.word ends (λ is. odd_opens_none w opens (is ∙ odd)) in
    shallow_front (words sure) xs r.0 w c r.1

stop_is_first_fault : (text : List ℕ) (meshes : ℕ) (fault : ExprFault) → length text ≤ 4096 →
    StopsShort (record { meshes = meshes; end = length text }) 64 (tokens_of text) fault →
    IsFirstFault text meshes fault
stop_is_first_fault text meshes fault short stop =
    let scope : Scope = record { meshes = meshes; end = length text } in
    record {
      short = short;
      before = stop.before;
      rest = stop.rest;
      split = stop.split;
      faultless = record {
        prefix = words_are_prefix scope 64 (tokens_of text) fault stop;
        fit = stop.fit;
        shallow = λ xs ys w e opens. shallow_before stop.sure stop.before stop.up_to stop.completes xs ys w e opens;
      };
      here = next_has_fault scope stop.before stop.rest fault stop.here stop.allowed stop.local;
    }

-- ---- a text with a fault has it first
none_is_long : (end meshes : ℕ) (before : List Word) (rest : List Token) → HasFaultNext end meshes before rest Long → ⊥
none_is_long end meshes before [] h = h
none_is_long end meshes before (t ∷ ts) h = h.1

as_fault : (text : List ℕ) (meshes : ℕ) (fault : ExprFault) → IsFirstFault text meshes fault → HasFault text meshes fault
as_fault text meshes (Syntax place) h = h
as_fault text meshes (Deep place) h = h
as_fault text meshes (NoMesh n) h = h
as_fault text meshes (fault.Number place) h = h
as_fault text meshes Long h = absurd (none_is_long (length text) meshes (words h.before) h.rest h.here)
as_fault text meshes OutOfMemory h = h

fault_by : (text : List ℕ) (meshes : ℕ) (fault : ExprFault) (short : Bool) → nat_le (length text) 4096 ≡ short →
    ◌≡◌ {A = Result Formula ExprFault} (if short then whole (record { meshes = meshes; end = length text }) 64
    (tokens_of text) else Err Long) (Err fault) → HasFault text meshes fault
fault_by text meshes fault true short e =
    as_fault text meshes fault (stop_is_first_fault text meshes fault (search (rules, short))
    (whole_stops (record { meshes = meshes; end = length text }) 64 (tokens_of text) fault e))
fault_by text meshes fault false short e =
    let long : 4096 < length text = search (rules, short) in
    subst (HasFault text meshes) (err_same Long fault e) long

-- the fault of a text is at its first token that has one
pub fault_is_first : (text : List ℕ) (meshes : ℕ) (fault : ExprFault) → expr_of text meshes ≡ Err fault → HasFault text meshes fault
fault_is_first text meshes fault e = fault_by text meshes fault (nat_le (length text) 4096) refl e

-- ---- two faults of one token
large_names_mesh : (meshes n : ℕ) (w : Word) → HasLargeNumber w → NamesNoMesh meshes n w → ⊥
large_names_mesh meshes n (word.Mesh m) large none = absurd (omega (arith, large, none.0, none.1.small))
large_names_mesh meshes n (word.Wind m) large none = absurd (omega (arith, large, none.0, none.1.small))
large_names_mesh meshes n _ large none = absurd none

large_opens : (w : Word) → HasLargeNumber w → Opens w → ⊥
large_opens word.Open large opens = large
large_opens word.Bang large opens = large
large_opens _ large opens = opens

mesh_opens : (meshes n : ℕ) (w : Word) → NamesNoMesh meshes n w → Opens w → ⊥
mesh_opens meshes n word.Open none opens = none
mesh_opens meshes n word.Bang none opens = none
mesh_opens meshes n _ none opens = opens

one_mesh : (meshes m n : ℕ) (w : Word) → NamesNoMesh meshes m w → NamesNoMesh meshes n w → m ≡ n
one_mesh meshes m n (word.Mesh k) a b = sym a.0 ∙ b.0
one_mesh meshes m n (word.Wind k) a b = sym a.0 ∙ b.0
one_mesh meshes m n _ a b = absurd a

module _ (meshes : ℕ) (before : List Word) (t : Token) where
  number_one : (place : ℕ) (q : ExprFault) → IsOverLimit meshes before t (fault.Number place) →
      IsOverLimit meshes before t q → fault.Number place ≡ q
  number_one place (fault.Number other) a b = ap fault.Number (sym a.0 ∙ b.0)
  number_one place (NoMesh n) a b = absurd (large_names_mesh meshes n t.word a.1 b)
  number_one place (Deep other) a b = absurd (large_opens t.word a.1 b.1.opens)
  number_one place _ a b = absurd b

  mesh_one : (n : ℕ) (q : ExprFault) → IsOverLimit meshes before t (NoMesh n) →
      IsOverLimit meshes before t q → NoMesh n ≡ q
  mesh_one n (fault.Number place) a b = absurd (large_names_mesh meshes n t.word b.1 a)
  mesh_one n (NoMesh m) a b = ap NoMesh (one_mesh meshes n m t.word a b)
  mesh_one n (Deep place) a b = absurd (mesh_opens meshes n t.word a b.1.opens)
  mesh_one n _ a b = absurd b

  deep_one : (place : ℕ) (q : ExprFault) → IsOverLimit meshes before t (Deep place) →
      IsOverLimit meshes before t q → Deep place ≡ q
  deep_one place (fault.Number other) a b = absurd (large_opens t.word b.1 a.1.opens)
  deep_one place (NoMesh n) a b = absurd (mesh_opens meshes n t.word b a.1.opens)
  deep_one place (Deep other) a b = ap Deep (sym a.0 ∙ b.0)
  deep_one place _ a b = absurd b

  limit_one : (p q : ExprFault) → IsOverLimit meshes before t p → IsOverLimit meshes before t q → p ≡ q
  limit_one (fault.Number place) q a b = number_one place q a b
  limit_one (NoMesh n) q a b = mesh_one n q a b
  limit_one (Deep place) q a b = deep_one place q a b
  limit_one _ q a b = absurd a

-- whether the grammar decides of the fault
abbrev IsSyntax : ExprFault → Type 0
IsSyntax (Syntax place) = Unit {0}
IsSyntax _ = ⊥

module _ (end meshes : ℕ) (before : List Word) where
  -- a token that only its limit forbids is allowed by the grammar
  over_next : (t : Token) (ts : List Token) (p : ExprFault) → (IsSyntax p → ⊥) →
      HasFaultNext end meshes before (t ∷ ts) p → IsPrefix (before ++ t.word ∷ []) × IsOverLimit meshes before t p
  over_next t ts (Syntax place) n h = absurd (n tt)
  over_next t ts (Deep place) n h = h
  over_next t ts (NoMesh m) n h = h
  over_next t ts (fault.Number place) n h = h
  over_next t ts Long n h = h
  over_next t ts OutOfMemory n h = h

  end_one : (place : ℕ) (q : ExprFault) → end ≡ place → HasFaultNext end meshes before [] q → Syntax place ≡ q
  end_one place (Syntax other) e b = ap Syntax (sym e ∙ b.0)
  end_one place _ e b = absurd b

  syntax_one : (t : Token) (ts : List Token) (place : ℕ) (q : ExprFault) →
      HasFaultNext end meshes before (t ∷ ts) (Syntax place) → HasFaultNext end meshes before (t ∷ ts) q →
      Syntax place ≡ q
  syntax_one t ts place (Syntax other) a b = ap Syntax (sym a.0 ∙ b.0)
  syntax_one t ts place _ a b = absurd (a.1 b.0)

  fault_one_at : (t : Token) (ts : List Token) (p q : ExprFault) → HasFaultNext end meshes before (t ∷ ts) p →
      HasFaultNext end meshes before (t ∷ ts) q → p ≡ q
  fault_one_at t ts (Syntax place) q a b = syntax_one t ts place q a b
  fault_one_at t ts p (Syntax place) a b = sym (syntax_one t ts place p b a)
  fault_one_at t ts p q a b = limit_one meshes before t p q a.1 b.1

  -- the next token has one fault
  fault_one : (rest : List Token) (p q : ExprFault) → HasFaultNext end meshes before rest p →
      HasFaultNext end meshes before rest q → p ≡ q
  fault_one [] (Syntax place) q a b = end_one place q a.0 b
  fault_one [] _ q a b = absurd a
  fault_one (t ∷ ts) p q a b = fault_one_at t ts p q a b

-- ---- a token with a fault is in no faultless words
fit_is_small : (meshes : ℕ) (w : Word) → IsFitWord meshes w → HasLargeNumber w → ⊥
fit_is_small meshes (word.Number n) fit large = absurd (omega (arith, fit, large))
fit_is_small meshes (word.Mesh n) fit large = absurd (omega (arith, fit.small, large))
fit_is_small meshes (word.Wind n) fit large = absurd (omega (arith, fit.small, large))
fit_is_small meshes _ fit large = large

fit_is_there : (meshes n : ℕ) (w : Word) → IsFitWord meshes w → NamesNoMesh meshes n w → ⊥
fit_is_there meshes n (word.Mesh m) fit none = none.1.none (subst (IsMeshNumber meshes) none.0 (record { first = fit.first; last = fit.last }))
fit_is_there meshes n (word.Wind m) fit none = none.1.none (subst (IsMeshNumber meshes) none.0 (record { first = fit.first; last = fit.last }))
fit_is_there meshes n _ fit none = none

module _ (end meshes : ℕ) (before more : List Token) (t : Token) (faultless : AreFaultless meshes (words (before ++ t ∷ more))) where
  begins : IsPrefix (words before ++ t.word ∷ [])
  begins = record {
    others = words more ++ faultless.prefix.others;
    tree = faultless.prefix.tree;
    derived = subst (λ ws. IsExpression ws faultless.prefix.tree)
        (one_word_more before more t faultless.prefix.others) faultless.prefix.derived;
  }

  fits : IsFitWord meshes t.word
  fits =
      (every_after (IsFitWord meshes) (words before) (t.word ∷ words more)
      (subst (Every (IsFitWord meshes)) (map-append (λ t. t.word) before (t ∷ more)) faultless.fit)).0

  no_limit : (fault : ExprFault) → IsOverLimit meshes (words before) t fault → ⊥
  no_limit (fault.Number place) h = fit_is_small meshes t.word fits h.1
  no_limit (NoMesh n) h = fit_is_there meshes n t.word fits h
  no_limit (Deep place) h =
      h.1.deep (faultless.shallow (words before) (words more) t.word (map-append (λ t. t.word) before (t ∷ more)) h.1.opens)
  no_limit _ h = h

  no_fault : (ts : List Token) (fault : ExprFault) → HasFaultNext end meshes (words before) (t ∷ ts) fault → ⊥
  no_fault ts (Syntax place) h = h.1 begins
  no_fault ts (Deep place) h = no_limit (Deep place) h.1
  no_fault ts (NoMesh n) h = no_limit (NoMesh n) h.1
  no_fault ts (fault.Number place) h = no_limit (fault.Number place) h.1
  no_fault ts Long h = h.1
  no_fault ts OutOfMemory h = h.1

-- ---- one fault of a text
goes_past : (end meshes : ℕ) (before longer rest : List Token) (fault : ExprFault) → GoesOnWith before longer rest →
    HasFaultNext end meshes (words before) rest fault → AreFaultless meshes (words longer) → ⊥
goes_past end meshes before longer rest fault g h faultless =
    no_fault end meshes before g.more g.first (subst (λ ts. AreFaultless meshes (words ts)) g.split faultless) g.tail fault
    (subst (λ ts. HasFaultNext end meshes (words before) ts fault) g.is h)

same_fault_by : (text : List ℕ) (meshes : ℕ) (p q : ExprFault) (a : IsFirstFault text meshes p)
    (b : IsFirstFault text meshes q) → TwoSplits a.before a.rest b.before b.rest → p ≡ q
same_fault_by text meshes p q a b (inl e) =
    fault_one (length text) meshes (words b.before) b.rest p q
    (subst (λ ts. HasFaultNext (length text) meshes (words b.before) ts p) e.1
    (subst (λ ts. HasFaultNext (length text) meshes (words ts) a.rest p) e.0 a.here)) b.here
same_fault_by text meshes p q a b (inr (inl g)) =
    absurd (goes_past (length text) meshes a.before b.before a.rest p g a.here b.faultless)
same_fault_by text meshes p q a b (inr (inr g)) =
    absurd (goes_past (length text) meshes b.before a.before b.rest q g b.here a.faultless)

same_fault : (text : List ℕ) (meshes : ℕ) (p q : ExprFault) → IsFirstFault text meshes p → IsFirstFault text meshes q → p ≡ q
same_fault text meshes p q a b = same_fault_by text meshes p q a b (two_splits a.before a.rest b.before b.rest (sym a.split ∙ b.split))

-- ---- a text with a tree has no fault
tree_is_faultless : (text : List ℕ) (meshes : ℕ) (f : Formula) → HasTree text meshes f → AreFaultless meshes (words (tokens_of text))
tree_is_faultless text meshes f h = record {
  prefix = record {
    others = [];
    tree = f;
    derived = subst (λ ws. IsExpression ws f) (sym (append-nil (words (tokens_of text)))) h.derived;
  };
  fit = h.fit;
  shallow = λ xs ys w e opens. front xs ys w e;
}
  where
    front : (xs ys : List Word) (w : Word) → words (tokens_of text) ≡ xs ++ w ∷ ys → IsShallowPrefix (xs ++ w ∷ [])
    front xs ys w e =
        let d : (d : IsExpression ((xs ++ w ∷ []) ++ ys) f) × (depth d ≤ 64) =
        subst (λ ws. (d : IsExpression ws f) × (depth d ≤ 64)) (e ∙ sym (append_assoc xs (w ∷ []) ys)) (h.derived, h.shallow) in
        record { others = ys; tree = f; derived = d.0; shallow = d.1 }

tree_no_fault : (text : List ℕ) (meshes : ℕ) (f : Formula) → HasTree text meshes f → (before rest : List Token)
    (fault : ExprFault) → tokens_of text ≡ before ++ rest →
    HasFaultNext (length text) meshes (words before) rest fault → ⊥
tree_no_fault text meshes f tree before [] (Syntax place) split h =
    h.1 f (subst (λ ts. IsExpression (words ts) f) (split ∙ append-nil before) tree.derived)
tree_no_fault text meshes f tree before [] _ split h = h
tree_no_fault text meshes f tree before (t ∷ ts) fault split h =
    no_fault (length text) meshes before ts t
    (subst (λ all. AreFaultless meshes (words all)) split (tree_is_faultless text meshes f tree)) ts fault h

-- ---- the fault that comes first is the one that is given
as_first : (text : List ℕ) (meshes : ℕ) (fault : ExprFault) → length text ≤ 4096 → HasFault text meshes fault → IsFirstFault text meshes fault
as_first text meshes (Syntax place) short h = h
as_first text meshes (Deep place) short h = h
as_first text meshes (NoMesh n) short h = h
as_first text meshes (fault.Number place) short h = h
as_first text meshes Long short h = absurd (omega (arith, short, h))
as_first text meshes OutOfMemory short h = h

given_by : (text : List ℕ) (meshes : ℕ) (fault : ExprFault) → IsFirstFault text meshes fault →
    (r : Result Formula ExprFault) → expr_of text meshes ≡ r → expr_of text meshes ≡ Err fault
given_by text meshes fault first (Ok f) e =
    absurd (tree_no_fault text meshes f (parsed_has_tree text meshes f e) first.before first.rest fault first.split first.here)
given_by text meshes fault first (Err other) e =
    e ∙ ap (λ x. Err x) (same_fault text meshes other fault
    (as_first text meshes other first.short (fault_is_first text meshes other e)) first)

long_is_given : (text : List ℕ) (meshes : ℕ) → 4096 < length text → expr_of text meshes ≡ Err Long
long_is_given text meshes long =
    let none : nat_le (length text) 4096 ≡ false = search (rules, long) in rw none refl

-- a text gives the fault that comes first
pub first_fault_is_given : (text : List ℕ) (meshes : ℕ) (fault : ExprFault) → HasFault text meshes fault → expr_of text meshes ≡ Err fault
first_fault_is_given text meshes (Syntax place) h = given_by text meshes (Syntax place) h (expr_of text meshes) refl
first_fault_is_given text meshes (Deep place) h = given_by text meshes (Deep place) h (expr_of text meshes) refl
first_fault_is_given text meshes (NoMesh n) h = given_by text meshes (NoMesh n) h (expr_of text meshes) refl
first_fault_is_given text meshes (fault.Number place) h = given_by text meshes (fault.Number place) h (expr_of text meshes) refl
first_fault_is_given text meshes Long h = long_is_given text meshes h
first_fault_is_given text meshes OutOfMemory h = given_by text meshes OutOfMemory h (expr_of text meshes) refl
