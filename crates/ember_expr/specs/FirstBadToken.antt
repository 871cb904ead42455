-- Where a text leaves the grammar: the first token that no text of the grammar has after the tokens before it
use Rattle.std.specs.Prelude.{◌≡◌, ℕ, List, [], ◌∷◌, ◌++◌, length}
use Rattle.ember_expr.specs.declared.token.Word.{Word}
use Rattle.ember_expr.specs.declared.token.Token.{Token}
use Rattle.ember_expr.specs.Formula.{Formula}
use Rattle.ember_expr.specs.Tokens.{tokens_of}
use Rattle.ember_expr.specs.Derivation.{IsExpression, words}

-- some text of the grammar begins with these words
pub record IsPrefix (ws : List Word) : Type 0 where
  pub others : List Word
  pub tree : Formula
  pub derived : IsExpression (ws ++ others) tree

-- no text of the grammar begins with the words before and the next one; if there is no next word, the words
-- before are no text of the grammar
abbrev pub NoneGoesOn : List Word → List Word → Type 0
NoneGoesOn before [] = (f : Formula) → IsExpression before f → ⊥
NoneGoesOn before (w ∷ ws) = IsPrefix (before ++ w ∷ []) → ⊥

-- the place of the first token, or of the text's end if no token is left
abbrev pub place_of : ℕ → List Token → ℕ
place_of end [] = end
place_of end (t ∷ ts) = t.place

-- the token at this place, or the text's end, is the first that no text of the grammar has there
pub record IsFirstBadToken (text : List ℕ) (place : ℕ) : Type 0 where
  pub before : List Token
  pub rest : List Token
  pub split : tokens_of text ≡ before ++ rest
  pub here : place_of (length text) rest ≡ place
  pub prefix : IsPrefix (words before)
  pub stuck : NoneGoesOn (words before) (words rest)
