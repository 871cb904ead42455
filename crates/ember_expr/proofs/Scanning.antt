-- The tokens of a text, one after another, and numbers that are read with a limit.
use Rattle.std.proofs.Common.{◌≡◌, ℕ, zero, suc, ◌+◌, false, ◌==◌, List, [], ◌∷◌, ◌++◌, drop, refl, ap, ◌∙◌, arith, append_assoc}
use Rattle.ember_expr.specs.declared.token.Token.{Token}
use Rattle.ember_expr.specs.Tokens.{tokens_from, lexeme_of}

-- the bytes that belong to the token before are tokens_after_passed_bytes
tokens_after_passed_bytes : (more place : ℕ) (bs : List ℕ) → tokens_from more place bs ≡ tokens_from 0 (place + more) (drop more bs)
tokens_after_passed_bytes zero place bs = ap (λ p. tokens_from 0 p bs) (omega arith)
tokens_after_passed_bytes (suc more) place [] = refl
tokens_after_passed_bytes (suc more) place (b ∷ bs) =
    tokens_after_passed_bytes more (place + 1) bs ∙ ap (λ p. tokens_from 0 p (drop more bs)) (omega arith)

-- one token more of a text
pub one_token : (place b : ℕ) (bs : List ℕ) (before whole : List Token) →
    whole ≡ before ++ tokens_from 0 place (b ∷ bs) → (b == 32) ≡ false →
    whole ≡ (before ++ record { word = (lexeme_of b bs).word; place = place } ∷ [])
    ++ tokens_from 0 (place + (1 + (lexeme_of b bs).bytes_after)) (drop (lexeme_of b bs).bytes_after bs)
one_token place b bs before whole same h =
    same ∙ rw h (rw (tokens_after_passed_bytes (lexeme_of b bs).bytes_after (place + 1) bs)
    (rw append_assoc (ap (λ p. before ++ record { word = (lexeme_of b bs).word; place = place }
    ∷ tokens_from 0 p (drop (lexeme_of b bs).bytes_after bs)) (omega arith))))
