-- The grammar of expressions as a relation: which words have which tree, rule by rule, and the limits beside it
use Rattle.std.specs.Prelude.{ℕ, ◌+◌, ◌≤◌, max, Bool, true, false, List, [], ◌∷◌, ◌++◌, map, length, ⊤}
use Rattle.ember_algebra.specs.Relations.{Every}
use Rattle.ember_expr.specs.declared.trees.Rel.{Rel}
use Rattle.ember_expr.specs.declared.trees.Term.{Term}
use Rattle.ember_expr.specs.declared.token.Word.{Word}
use Rattle.ember_expr.specs.declared.token.Word.TheVariants.{Bar, Hat, Amp, Bang, Open, Close, Plus}
use Rattle.ember_expr.specs.declared.token.Word.TheVariants.{Minus, Star, Number, Wind}
use Rattle.ember_expr.specs.declared.token.Word.TheVariants as word
use Rattle.ember_expr.specs.declared.token.Token.{Token}
use Rattle.ember_expr.specs.Formula.{Formula, Or, Xor, And, Not, Mesh, Odd, Compare}
use Rattle.ember_expr.specs.Tokens.{tokens_of}
use Rattle.ember_expr.specs.Grammar.{product}

-- term = number [ "*" wN ] | wN, subtracted if `minus` holds; mesh 0 means no mesh
pub data IsTerm (minus : Bool) : List Word → Term → Type 0 where
  number : {n : ℕ} → IsTerm minus (Number n ∷ []) (product minus n 0)
  times : {n m : ℕ} → IsTerm minus (Number n ∷ Star ∷ Wind m ∷ []) (product minus n m)
  wind : {m : ℕ} → IsTerm minus (Wind m ∷ []) (product minus 1 m)

-- sum = [ "-" ] term { ( "+" | "-" ) term }
pub data IsSum : List Word → List Term → Type 0 where
  first : {ws : List Word} {t : Term} → IsTerm false ws t → IsSum ws (t ∷ [])
  negative : {ws : List Word} {t : Term} → IsTerm true ws t → IsSum (Minus ∷ ws) (t ∷ [])
  plus : {vs ws : List Word} {ts : List Term} {t : Term} → IsSum vs ts → IsTerm false ws t →
      IsSum (vs ++ Plus ∷ ws) (ts ++ t ∷ [])
  minus : {vs ws : List Word} {ts : List Term} {t : Term} → IsSum vs ts → IsTerm true ws t →
      IsSum (vs ++ Minus ∷ ws) (ts ++ t ∷ [])

-- the rules of the grammar that give an expression
pub data Phrase : Type 0 where
  or : Phrase
  xor : Phrase
  and : Phrase
  not : Phrase
  atom : Phrase

-- these words are a phrase of this rule, with this tree
pub data Derives : Phrase → List Word → Formula → Type 0 where
  -- or = xor { "|" xor }
  one_xor : {ws : List Word} {a : Formula} → Derives xor ws a → Derives or ws a
  bar : {vs ws : List Word} {a b : Formula} → Derives or vs a → Derives xor ws b → Derives or (vs ++ Bar ∷ ws) (Or a b)
  -- xor = and { "^" and }
  one_and : {ws : List Word} {a : Formula} → Derives and ws a → Derives xor ws a
  hat : {vs ws : List Word} {a b : Formula} → Derives xor vs a → Derives and ws b →
      Derives xor (vs ++ Hat ∷ ws) (Xor a b)
  -- and = not { "&" not }
  one_not : {ws : List Word} {a : Formula} → Derives not ws a → Derives and ws a
  amp : {vs ws : List Word} {a b : Formula} → Derives and vs a → Derives not ws b →
      Derives and (vs ++ Amp ∷ ws) (And a b)
  -- not = "!" not | atom
  bang : {ws : List Word} {a : Formula} → Derives not ws a → Derives not (Bang ∷ ws) (Not a)
  one_atom : {ws : List Word} {a : Formula} → Derives atom ws a → Derives not ws a
  -- atom = "(" or ")" | mN | "odd" "(" sum ")" | sum rel sum
  parentheses : {ws : List Word} {a : Formula} → Derives or ws a → Derives atom (Open ∷ ws ++ Close ∷ []) a
  mesh : {n : ℕ} → Derives atom (word.Mesh n ∷ []) (Mesh n)
  odd : {ws : List Word} {s : List Term} → IsSum ws s → Derives atom (word.Odd ∷ Open ∷ ws ++ Close ∷ []) (Odd s)
  comparison : {vs ws : List Word} {s t : List Term} {rel : Rel} → IsSum vs s → IsSum ws t →
      Derives atom (vs ++ word.Compare rel ∷ ws) (Compare s rel t)

-- these words are an expression with this tree
abbrev pub IsExpression : List Word → Formula → Type 0
IsExpression ws f = Derives or ws f

-- ---- the limits
-- the most parentheses and signs `!` inside one another
abbrev pub depth : {p : Phrase} {ws : List Word} {f : Formula} → Derives p ws f → ℕ
depth (one_xor d) = depth d
depth (bar d e) = max (depth d) (depth e)
depth (one_and d) = depth d
depth (hat d e) = max (depth d) (depth e)
depth (one_not d) = depth d
depth (amp d e) = max (depth d) (depth e)
depth (bang d) = depth d + 1
depth (one_atom d) = depth d
depth (parentheses d) = depth d + 1
depth mesh = 0
depth (odd s) = 1
depth (comparison s t) = 0

-- a mesh of the scene, by a number of at most 1,000,000
pub record IsFitMesh (meshes : ℕ) (n : ℕ) : Type 0 where
  pub small : n ≤ 1000000
  pub first : 1 ≤ n
  pub last : n ≤ meshes

-- the limits of the numbers in a word
abbrev pub IsFitWord : ℕ → Word → Type 0
IsFitWord meshes (word.Number n) = n ≤ 1000000
IsFitWord meshes (word.Mesh n) = IsFitMesh meshes n
IsFitWord meshes (word.Wind n) = IsFitMesh meshes n
IsFitWord meshes _ = ⊤

-- the tokens without their places
abbrev pub words : List Token → List Word
words tokens = map (λ t. t.word) tokens

-- the words of a text
abbrev pub words_of : List ℕ → List Word
words_of text = words (tokens_of text)

-- a text of the grammar within all limits, with its tree
pub record HasTree (text : List ℕ) (meshes : ℕ) (f : Formula) : Type 0 where
  pub short : length text ≤ 4096
  pub derived : IsExpression (words_of text) f
  pub shallow : depth derived ≤ 64
  pub fit : Every (IsFitWord meshes) (words_of text)
