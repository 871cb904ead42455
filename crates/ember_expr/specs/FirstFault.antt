-- The first fault of a text: the first token that the grammar doesn't allow there, or that is over a limit
use Rattle.std.specs.Prelude.{◌≡◌, ℕ, ◌<◌, ◌≤◌, ⊤, List, [], ◌∷◌, ◌++◌, length}
use Rattle.ember_algebra.specs.Relations.{Every}
use Rattle.ember_expr.specs.declared.fault.ExprFault.{ExprFault}
use Rattle.ember_expr.specs.declared.fault.ExprFault.TheVariants.{Syntax, Deep, NoMesh, Long}
use Rattle.ember_expr.specs.declared.fault.ExprFault.TheVariants as fault
use Rattle.ember_expr.specs.declared.token.Word.{Word}
use Rattle.ember_expr.specs.declared.token.Word.TheVariants as word
use Rattle.ember_expr.specs.declared.token.Token.{Token}
use Rattle.ember_expr.specs.Formula.{Formula, IsMeshNumber}
use Rattle.ember_expr.specs.Tokens.{tokens_of}
use Rattle.ember_expr.specs.Derivation.{IsExpression, IsFitWord, depth, words}
use Rattle.ember_expr.specs.FirstBadToken.{IsPrefix, NoneGoesOn, place_of}

-- ---- limits
-- the number in the word is above 1,000,000
abbrev pub HasLargeNumber : Word → Type 0
HasLargeNumber (word.Number n) = 1000000 < n
HasLargeNumber (word.Mesh n) = 1000000 < n
HasLargeNumber (word.Wind n) = 1000000 < n
HasLargeNumber _ = ⊥

-- there is no mesh n, though n is at most 1,000,000
pub record IsNoMesh (meshes n : ℕ) : Type 0 where
  pub small : n ≤ 1000000
  pub none : IsMeshNumber meshes n → ⊥

-- the word names mesh n, which isn't there
abbrev pub NamesNoMesh : ℕ → ℕ → Word → Type 0
NamesNoMesh meshes n (word.Mesh m) = (m ≡ n) × IsNoMesh meshes n
NamesNoMesh meshes n (word.Wind m) = (m ≡ n) × IsNoMesh meshes n
NamesNoMesh meshes n _ = ⊥

-- the word is `(` or `!`
abbrev pub Opens : Word → Type 0
Opens word.Open = ⊤
Opens word.Bang = ⊤
Opens _ = ⊥

-- some text of the grammar begins with these words and has at most 64 parentheses and signs `!` inside one another
pub record IsShallowPrefix (ws : List Word) : Type 0 where
  pub others : List Word
  pub tree : Formula
  pub derived : IsExpression (ws ++ others) tree
  pub shallow : depth derived ≤ 64

-- a `(` or `!` after these words that is too deep, whatever follows it
pub record IsTooDeep (before : List Word) (w : Word) : Type 0 where
  pub opens : Opens w
  pub deep : IsShallowPrefix (before ++ w ∷ []) → ⊥

-- after these words the token is over the limit of this fault
abbrev pub IsOverLimit : ℕ → List Word → Token → ExprFault → Type 0
IsOverLimit meshes before t (fault.Number place) = (t.place ≡ place) × HasLargeNumber t.word
IsOverLimit meshes before t (NoMesh n) = NamesNoMesh meshes n t.word
IsOverLimit meshes before t (Deep place) = (t.place ≡ place) × IsTooDeep before t.word
IsOverLimit meshes before t _ = ⊥

-- ---- the first fault
-- after these words the next token, or the end of the text, has this fault: no text of the grammar goes on so, or one
-- does and the token is over a limit
abbrev pub HasFaultNext : ℕ → ℕ → List Word → List Token → ExprFault → Type 0
HasFaultNext end meshes before rest (Syntax place) = (place_of end rest ≡ place) × NoneGoesOn before (words rest)
HasFaultNext end meshes before [] fault = ⊥
HasFaultNext end meshes before (t ∷ ts) fault =
    IsPrefix (before ++ t.word ∷ []) × IsOverLimit meshes before t fault

-- none of these words has a fault after those before it
pub record AreFaultless (meshes : ℕ) (ws : List Word) : Type 0 where
  pub prefix : IsPrefix ws
  pub fit : Every (IsFitWord meshes) ws
  pub shallow : (before after : List Word) (w : Word) → ws ≡ before ++ w ∷ after → Opens w →
      IsShallowPrefix (before ++ w ∷ [])

-- a text of at most 4096 bytes has this fault at its first token that has one
pub record IsFirstFault (text : List ℕ) (meshes : ℕ) (fault : ExprFault) : Type 0 where
  pub short : length text ≤ 4096
  pub before : List Token
  pub rest : List Token
  pub split : tokens_of text ≡ before ++ rest
  pub faultless : AreFaultless meshes (words before)
  pub here : HasFaultNext (length text) meshes (words before) rest fault

-- the fault of a text over this number of meshes
abbrev pub HasFault : List ℕ → ℕ → ExprFault → Type 0
HasFault text meshes Long = 4096 < length text
HasFault text meshes fault = IsFirstFault text meshes fault
