-- The trees that the rules read are derived by the grammar, within the limits.
use Rattle.std.proofs.Common.{◌≡◌, ℕ, zero, suc, ◌+◌, ◌≤◌, true, List, [], ◌∷◌, ◌++◌, length, refl, ap, sym, subst, ◌∙◌}
use Rattle.std.proofs.Common.{arith, append_assoc, append-nil, Some, None, Ok, Err, Result, Option}
use Rattle.ember_algebra.specs.Relations.{Every}
use Rattle.ember_algebra.proofs.Relations.{every_append}
use Rattle.ember_expr.specs.declared.fault.ExprFault.{ExprFault}
use Rattle.ember_expr.specs.declared.token.Word.{Word}
use Rattle.ember_expr.specs.declared.token.Word.TheVariants as word
use Rattle.ember_expr.specs.declared.token.Token.{Token}
use Rattle.ember_expr.specs.declared.grammar.Operator.{Operator}
use Rattle.ember_expr.specs.declared.grammar.Operator.TheVariants as operator
use Rattle.ember_expr.specs.declared.grammar.Scope.{Scope}
use Rattle.ember_expr.specs.Formula.{Formula, Not, Mesh, Odd, Compare}
use Rattle.ember_expr.specs.Grammar.{read, Rule, ◌>>=◌, mesh_number, sum, after_first, begins_with, joins, join}
use Rattle.ember_expr.specs.Grammar.{more_parts, chain_of, part_of, or, is_open, is_close, expect_close, relation}
use Rattle.ember_expr.specs.Grammar.{rel_at, comparison, inside, odd, not_at, not_with, deeper, not, ended, whole}
use Rattle.ember_expr.specs.Derivation.{Phrase, Derives, depth, IsFitWord, IsFitMesh, words}
use Rattle.ember_expr.specs.Derivation as grammar
use Rattle.ember_expr.proofs.Derived.{IfReads, if_bind, if_test, mesh_fits, Front, FrontOf, FitSum, sum_front, signed_part_is_appended}

-- a phrase of the grammar within the limits
pub record IsWithin (meshes left : ℕ) (p : Phrase) (ws : List Word) (f : Formula) : Type 0 where
  pub derived : Derives p ws f
  pub shallow : depth derived ≤ left
  pub fit : Every (IsFitWord meshes) ws

-- ---- chains
abbrev pub chain_phrase : Operator → Phrase
chain_phrase operator.Or = grammar.or
chain_phrase operator.Xor = grammar.xor
chain_phrase operator.And = grammar.and

abbrev pub part_phrase : Operator → Phrase
part_phrase operator.Or = grammar.xor
part_phrase operator.Xor = grammar.and
part_phrase operator.And = grammar.not

abbrev pub operator_word : Operator → Word
operator_word operator.Or = word.Bar
operator_word operator.Xor = word.Hat
operator_word operator.And = word.Amp

-- a word that joins is the operator's word
pub operator_at : (kind : Operator) (w : Word) → joins kind w ≡ true → w ≡ operator_word kind
operator_at operator.Or word.Bar e = refl
operator_at operator.Xor word.Hat e = refl
operator_at operator.And word.Amp e = refl
operator_at _ _ e = cc

operator_split : (kind : Operator) (ts : List Token) → begins_with kind ts ≡ true → words ts ≡ operator_word kind ∷ words (after_first ts)
operator_split kind [] e = cc
operator_split kind (t ∷ ts) e = ap (λ w. w ∷ words ts) (operator_at kind t.word e)

one_part : (meshes left : ℕ) (kind : Operator) (ws : List Word) (a : Formula) →
    IsWithin meshes left (part_phrase kind) ws a → IsWithin meshes left (chain_phrase kind) ws a
one_part meshes left operator.Or ws a h = record { derived = grammar.one_xor h.derived; shallow = h.shallow; fit = h.fit }
one_part meshes left operator.Xor ws a h = record { derived = grammar.one_and h.derived; shallow = h.shallow; fit = h.fit }
one_part meshes left operator.And ws a h = record { derived = grammar.one_not h.derived; shallow = h.shallow; fit = h.fit }

both : (meshes left : ℕ) (w : Word) (vs ws : List Word) → IsFitWord meshes w → Every (IsFitWord meshes) vs →
    Every (IsFitWord meshes) ws → Every (IsFitWord meshes) (vs ++ w ∷ ws)
both meshes left w vs ws fit before after = every_append (IsFitWord meshes) vs (w ∷ ws) before (fit, after)

one_more_part : (meshes left : ℕ) (kind : Operator) (vs ws : List Word) (a b : Formula) →
    IsWithin meshes left (chain_phrase kind) vs a → IsWithin meshes left (part_phrase kind) ws b →
    IsWithin meshes left (chain_phrase kind) (vs ++ operator_word kind ∷ ws) (join kind a b)
one_more_part meshes left operator.Or vs ws a b h k =
    record {
      derived = grammar.bar h.derived k.derived;
      shallow = omega (arith, h.shallow, k.shallow);
      fit =
          both meshes left word.Bar vs ws tt h.fit k.fit;
    }
one_more_part meshes left operator.Xor vs ws a b h k =
    record {
      derived = grammar.hat h.derived k.derived;
      shallow = omega (arith, h.shallow, k.shallow);
      fit =
          both meshes left word.Hat vs ws tt h.fit k.fit;
    }
one_more_part meshes left operator.And vs ws a b h k =
    record {
      derived = grammar.amp h.derived k.derived;
      shallow = omega (arith, h.shallow, k.shallow);
      fit =
          both meshes left word.Amp vs ws tt h.fit k.fit;
    }

-- a rule reads phrases of this name
abbrev pub ReadsPhrase : ℕ → ℕ → Phrase → Rule Formula → Type 0
ReadsPhrase meshes left p rule = (ts : List Token) → IfReads (FrontOf (IsWithin meshes left p) (words ts)) (rule ts)

more_parts_front : (meshes left : ℕ) (kind : Operator) (part : Rule Formula) →
    ReadsPhrase meshes left (part_phrase kind) part →
    (count : ℕ) (vs all : List Word) (tree : Formula) (ts : List Token) → all ≡ vs ++ words ts →
    IsWithin meshes left (chain_phrase kind) vs tree →
    IfReads (FrontOf (IsWithin meshes left (chain_phrase kind)) all) (more_parts kind part count tree ts)
more_parts_front meshes left kind part reads zero vs all tree ts split is = record { ws = vs; split = split; holds = is }
more_parts_front meshes left kind part reads (suc count) vs all tree ts split is =
    if_test (FrontOf (IsWithin meshes left (chain_phrase kind)) all) (begins_with kind ts)
    (part (after_first ts) >>= λ next. more_parts kind part count (join kind tree next.part) next.rest) (read tree ts)
    (λ joins. if_bind (FrontOf (IsWithin meshes left (part_phrase kind)) (words (after_first ts)))
    (FrontOf (IsWithin meshes left (chain_phrase kind)) all) (part (after_first ts))
    (λ next. more_parts kind part count (join kind tree next.part) next.rest) (reads (after_first ts))
    (λ next front. more_parts_front meshes left kind part reads count (vs ++ operator_word kind ∷ front.ws) all
    (join kind tree next.part) next.rest (signed_part_is_appended vs (operator_word kind) all (words (after_first ts))
    front.ws next.rest (split ∙ ap (λ u. vs ++ u) (operator_split kind ts joins)) front.split)
    (one_more_part meshes left kind vs front.ws tree next.part is front.holds)))
    (λ ends. record { ws = vs; split = split; holds = is })

chain_front : (meshes left : ℕ) (kind : Operator) (part : Rule Formula) →
    ReadsPhrase meshes left (part_phrase kind) part → ReadsPhrase meshes left (chain_phrase kind) (chain_of kind part)
chain_front meshes left kind part reads ts =
    if_bind (FrontOf (IsWithin meshes left (part_phrase kind)) (words ts))
    (FrontOf (IsWithin meshes left (chain_phrase kind)) (words ts)) (part ts)
    (λ first. more_parts kind part (length first.rest) first.part first.rest) (reads ts)
    (λ first front. more_parts_front meshes left kind part reads (length first.rest) front.ws (words ts) first.part
    first.rest front.split (one_part meshes left kind front.ws first.part front.holds))

or_front : (meshes left : ℕ) (not : Rule Formula) → ReadsPhrase meshes left grammar.not not → ReadsPhrase meshes left grammar.or (or not)
or_front meshes left not reads =
    chain_front meshes left operator.Or (part_of operator.Or not)
    (chain_front meshes left operator.Xor (part_of operator.Xor not) (chain_front meshes left operator.And not reads))

-- ---- atoms
close_at : (w : Word) → is_close w ≡ true → w ≡ word.Close
close_at word.Close e = refl
close_at _ e = cc

open_at : (w : Word) → is_open w ≡ true → w ≡ word.Open
open_at word.Open e = refl
open_at _ e = cc

closed_front : (scope : Scope) (ts : List Token) → IfReads (λ rest. words ts ≡ word.Close ∷ words rest) (expect_close scope ts)
closed_front scope [] = tt
closed_front scope (t ∷ ts) = if_test (λ rest. words (t ∷ ts) ≡ word.Close ∷ words rest) (is_close t.word) (Ok ts)
    (Err _) (λ e. ap (λ w. w ∷ words ts) (close_at t.word e)) (λ e. tt)

rel_at_front : (t : Token) (w : Word) (ts : List Token) → IfReads (λ r. (w ∷ words ts) ≡ word.Compare r.part ∷ words r.rest) (rel_at t w ts)
rel_at_front t (word.Compare rel) ts = refl
rel_at_front t _ ts = tt

relation_front : (scope : Scope) (ts : List Token) → IfReads (λ r. words ts ≡ word.Compare r.part ∷ words r.rest) (relation scope ts)
relation_front scope [] = tt
relation_front scope (t ∷ ts) = rel_at_front t t.word ts

-- the tokens before a `)`
before_close : (all ws : List Word) (middle rest : List Token) → all ≡ ws ++ words middle →
    words middle ≡ word.Close ∷ words rest → all ≡ (ws ++ word.Close ∷ []) ++ words rest
before_close all ws middle rest e f = e ∙ (ap (λ u. ws ++ u) f ∙ sym (append_assoc ws (word.Close ∷ []) (words rest)))

comparison_front : (scope : Scope) (left : ℕ) → ReadsPhrase scope.meshes left grammar.not (comparison scope)
comparison_front scope left ts =
    if_bind (FrontOf (FitSum scope.meshes) (words ts)) (FrontOf (IsWithin scope.meshes left grammar.not) (words ts))
    (sum scope ts) (λ l. relation scope l.rest >>= λ rel. sum scope rel.rest >>= λ r. read
    (Compare l.part rel.part r.part) r.rest) (sum_front scope ts)
    (λ l at_left. if_bind (λ r. words l.rest ≡ word.Compare r.part ∷ words r.rest)
    (FrontOf (IsWithin scope.meshes left grammar.not) (words ts)) (relation scope l.rest)
    (λ rel. sum scope rel.rest >>= λ r. read (Compare l.part rel.part r.part) r.rest) (relation_front scope l.rest)
    (λ rel sign. if_bind (FrontOf (FitSum scope.meshes) (words rel.rest))
    (FrontOf (IsWithin scope.meshes left grammar.not) (words ts)) (sum scope rel.rest)
    (λ r. read (Compare l.part rel.part r.part) r.rest) (sum_front scope rel.rest)
    (λ r at_right. record {
      ws = at_left.ws ++ word.Compare rel.part ∷ at_right.ws;
      split =
          signed_part_is_appended at_left.ws (word.Compare rel.part) (words ts) (words rel.rest) at_right.ws r.rest
          (at_left.split ∙ ap (λ u. at_left.ws ++ u) sign) at_right.split;
      holds =
          record {
            derived = grammar.one_atom (grammar.comparison at_left.holds.0 at_right.holds.0);
            shallow =
                omega arith;
            fit = both scope.meshes left (word.Compare rel.part) at_left.ws at_right.ws tt at_left.holds.1
                at_right.holds.1;
          };
    })))

if_inside : {A B : Type 0} (Q : B → Type 0) (inner : Option A) (place : ℕ) (go : A → Result B ExprFault) →
    ((x : A) → inner ≡ Some x → IfReads Q (go x)) → IfReads Q (inside inner place go)
if_inside Q None place go h = tt
if_inside Q (Some x) place go h = h x refl

-- the rule of `not` one place deeper
record Deeper (meshes left : ℕ) (rule : Rule Formula) : Type 0 where
  less : ℕ
  is : less + 1 ≤ left
  reads : ReadsPhrase meshes less grammar.not rule

odd_front : (scope : Scope) (left : ℕ) (inner : Option (Rule Formula)) →
    ((rule : Rule Formula) → inner ≡ Some rule → Deeper scope.meshes left rule) → (ts : List Token) →
    IfReads (FrontOf (IsWithin scope.meshes left grammar.not) (word.Odd ∷ words ts)) (odd scope inner ts)
odd_front scope left inner deeper [] = tt
odd_front scope left inner deeper (t ∷ ts) =
    if_test (FrontOf (IsWithin scope.meshes left grammar.not) (word.Odd ∷ t.word ∷ words ts)) (is_open t.word)
    (inside inner t.place (λ _. sum scope ts >>= λ s. expect_close scope s.rest >>= λ rest. read (Odd s.part) rest))
    (Err _) (λ opens. if_inside (FrontOf (IsWithin scope.meshes left grammar.not) (word.Odd ∷ t.word ∷ words ts))
    inner t.place (λ _. sum scope ts >>= λ s. expect_close scope s.rest >>= λ rest. read (Odd s.part) rest)
    (λ rule some. if_bind (FrontOf (FitSum scope.meshes) (words ts))
    (FrontOf (IsWithin scope.meshes left grammar.not) (word.Odd ∷ t.word ∷ words ts)) (sum scope ts)
    (λ s. expect_close scope s.rest >>= λ rest. read (Odd s.part) rest) (sum_front scope ts)
    (λ s front. if_bind (λ rest. words s.rest ≡ word.Close ∷ words rest)
    (FrontOf (IsWithin scope.meshes left grammar.not) (word.Odd ∷ t.word ∷ words ts)) (expect_close scope s.rest)
    (λ rest. read (Odd s.part) rest) (closed_front scope s.rest)
    (λ rest close. record {
      ws = word.Odd ∷ word.Open ∷ front.ws ++ word.Close ∷ [];
      split =
          rw (open_at t.word opens) (ap (λ u. word.Odd ∷ word.Open ∷ u)
          (before_close (words ts) front.ws s.rest rest front.split close));
      holds =
          record {
            derived = grammar.one_atom (grammar.odd front.holds.0);
            shallow =
                omega (arith, (deeper rule some).is);
            fit =
                (tt, (tt, both scope.meshes left word.Close front.ws [] tt front.holds.1 tt));
          };
    })))) (λ other. tt)

not_at_front : (scope : Scope) (left : ℕ) (inner : Option (Rule Formula)) →
    ((rule : Rule Formula) → inner ≡ Some rule → Deeper scope.meshes left rule) →
    (t : Token) (w : Word) (ts : List Token) → t.word ≡ w →
    IfReads (FrontOf (IsWithin scope.meshes left grammar.not) (w ∷ words ts)) (not_at scope inner t w ts)
not_at_front scope left inner deeper t word.Bang ts e =
    if_inside (FrontOf (IsWithin scope.meshes left grammar.not) (word.Bang ∷ words ts)) inner t.place
    (λ not. not ts >>= λ a. read (Not a.part) a.rest) (λ rule some. let d = deeper rule some in
    if_bind (FrontOf (IsWithin scope.meshes d.less grammar.not) (words ts))
    (FrontOf (IsWithin scope.meshes left grammar.not) (word.Bang ∷ words ts)) (rule ts)
    (λ a. read (Not a.part) a.rest) (d.reads ts)
    (λ a front. record {
      ws = word.Bang ∷ front.ws;
      split = ap (λ u. word.Bang ∷ u) front.split;
      holds =
          record {
            derived = grammar.bang front.holds.derived;
            shallow = omega (arith, d.is, front.holds.shallow);
            fit =
                (tt, front.holds.fit);
          };
    }))
not_at_front scope left inner deeper t word.Open ts e =
    if_inside (FrontOf (IsWithin scope.meshes left grammar.not) (word.Open ∷ words ts)) inner t.place
    (λ not. or not ts >>= λ a. expect_close scope a.rest >>= λ rest. read a.part rest) (λ rule some. let d =
    deeper rule some in if_bind (FrontOf (IsWithin scope.meshes d.less grammar.or) (words ts))
    (FrontOf (IsWithin scope.meshes left grammar.not) (word.Open ∷ words ts)) (or rule ts)
    (λ a. expect_close scope a.rest >>= λ rest. read a.part rest) (or_front scope.meshes d.less rule d.reads ts)
    (λ a front. if_bind (λ rest. words a.rest ≡ word.Close ∷ words rest)
    (FrontOf (IsWithin scope.meshes left grammar.not) (word.Open ∷ words ts)) (expect_close scope a.rest)
    (λ rest. read a.part rest) (closed_front scope a.rest)
    (λ rest close. record {
      ws = word.Open ∷ front.ws ++ word.Close ∷ [];
      split =
          ap (λ u. word.Open ∷ u) (before_close (words ts) front.ws a.rest rest front.split close);
      holds =
          record {
            derived = grammar.one_atom (grammar.parentheses front.holds.derived);
            shallow =
                omega (arith, d.is, front.holds.shallow);
            fit =
                (tt, both scope.meshes left word.Close front.ws [] tt front.holds.fit tt);
          };
    })))
not_at_front scope left inner deeper t (word.Mesh n) ts e =
    if_bind (λ x. (n ≡ x) × IsFitMesh scope.meshes n)
    (FrontOf (IsWithin scope.meshes left grammar.not) (word.Mesh n ∷ words ts)) (mesh_number scope t.place n)
    (λ mesh. read (Mesh mesh) ts) (mesh_fits scope t.place n)
    (λ x fit. subst (λ k. Front (IsWithin scope.meshes left grammar.not) (word.Mesh n ∷ words ts) (Mesh k) ts) fit.0
    (record {
      ws = word.Mesh n ∷ [];
      split = refl;
      holds =
          record { derived = grammar.one_atom grammar.mesh; shallow = omega arith; fit = (fit.1, tt) };
    }))
not_at_front scope left inner deeper t word.Odd ts e = odd_front scope left inner deeper ts
not_at_front scope left inner deeper t w ts e =
    subst (λ v. IfReads (FrontOf (IsWithin scope.meshes left grammar.not) (v ∷ words ts)) (comparison scope (t ∷ ts))) e (comparison_front scope left (t ∷ ts))

not_with_front : (scope : Scope) (left : ℕ) (inner : Option (Rule Formula)) →
    ((rule : Rule Formula) → inner ≡ Some rule → Deeper scope.meshes left rule) →
    ReadsPhrase scope.meshes left grammar.not (not_with scope inner)
not_with_front scope left inner deeper [] = tt
not_with_front scope left inner deeper (t ∷ ts) = not_at_front scope left inner deeper t t.word ts refl

-- equal options have equal values
pub some_same : {A : Type 0} (a b : A) → ◌≡◌ {A = Option A} (Some a) (Some b) → a ≡ b
some_same a b e = cc

not_front : (scope : Scope) (left : ℕ) → ReadsPhrase scope.meshes left grammar.not (not scope left)
not_front scope zero = not_with_front scope zero None (λ rule e. cc)
not_front scope (suc left) =
    not_with_front scope (suc left) (Some (not scope left))
    (λ rule e. subst (Deeper scope.meshes (suc left)) (some_same (not scope left) rule e)
    (record { less = left; is = omega arith; reads = not_front scope left }))

-- ---- the whole text
ended_front : (P : List Word → Formula → Type 0) (all : List Word) (tree : Formula) (rest : List Token) →
    Front P all tree rest → IfReads (λ f. P all f) (ended tree rest)
ended_front P all tree [] front = subst (λ u. P u tree) (sym (front.split ∙ append-nil front.ws)) front.holds
ended_front P all tree (t ∷ ts) front = tt

-- what the parser accepts is a text of the grammar
pub whole_derived : (scope : Scope) (left : ℕ) (ts : List Token) → IfReads (λ f. IsWithin scope.meshes left grammar.or (words ts) f) (whole scope left ts)
unfolding whole
whole_derived scope left ts =
    if_bind (FrontOf (IsWithin scope.meshes left grammar.or) (words ts))
    (λ f. IsWithin scope.meshes left grammar.or (words ts) f) (or (not scope left) ts) (λ e. ended e.part e.rest)
    (or_front scope.meshes left (not scope left) (not_front scope left) ts)
    (λ e front. ended_front (IsWithin scope.meshes left grammar.or) (words ts) e.part e.rest front)
