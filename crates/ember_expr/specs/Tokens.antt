-- The tokens of a text: at each place the longest one, and spaces between tokens
use Rattle.std.specs.Prelude.{ℕ, zero, suc, ◌+◌, ◌-◌, ◌==◌, min, ◌&&◌, if◌then◌else◌, List, [], ◌∷◌, length}
use Rattle.std.specs.Char.{is_ascii_digit}
use Rattle.ember_dec.specs.Digits.{number_from, digits_of}
use Rattle.ember_expr.specs.declared.trees.Rel.{Rel}
use Rattle.ember_expr.specs.declared.trees.Rel.TheVariants.{Less, LessEqual, Equal, NotEqual, GreaterEqual, Greater}
use Rattle.ember_expr.specs.declared.token.Word.{Word}
use Rattle.ember_expr.specs.declared.token.Word.TheVariants.{Bar, Hat, Amp, Bang, Open, Close, Plus}
use Rattle.ember_expr.specs.declared.token.Word.TheVariants.{Minus, Star, Compare, Odd, Number, Mesh}
use Rattle.ember_expr.specs.declared.token.Word.TheVariants.{Wind, Unknown}
use Rattle.ember_expr.specs.declared.token.Token.{Token}
use Rattle.ember_expr.specs.declared.token.Lexeme.{Lexeme}

-- 1,000,001 for each number above 1,000,000
abbrev pub capped_number : ℕ → List ℕ → ℕ
capped_number start bs = min 1000001 (number_from start (digits_of bs))

abbrev pub unknown : Lexeme
unknown = record { word = Unknown; bytes_after = 0 }

-- a letter and a number of `bytes_after` digits
abbrev pub named_by : Word → ℕ → Lexeme
named_by word bytes_after = if bytes_after == 0 then unknown else record { word = word; bytes_after = bytes_after }

-- after an `o`
abbrev pub odd_in : List ℕ → Lexeme
odd_in [] = unknown
odd_in (b ∷ []) = unknown
odd_in (b ∷ c ∷ bs) = if b == 100 && c == 100 then record { word = Odd; bytes_after = 2 } else unknown

-- a sign, which a `=` directly after it turns into the other one
abbrev pub before_equals : Word → Rel → List ℕ → Lexeme
before_equals plain joined [] = record { word = plain; bytes_after = 0 }
before_equals plain joined (b ∷ bs) =
    if b == 61 then record { word = Compare joined; bytes_after = 1 } else record { word = plain; bytes_after = 0 }

-- the word of a sign, by its byte: 124 is `|`, 94 `^`, 38 `&`, 40 `(`, 41 `)`, 43 `+`, 45 `-`, 42 `*`, 61 `=`
abbrev pub sign_of : ℕ → Word
sign_of b =
    if b == 124 then Bar else if b == 94 then Hat else if b == 38 then Amp else if b == 40 then Open else if b == 41
    then Close else if b == 43 then Plus else if b == 45 then Minus else if b == 42 then Star else if b == 61
    then Compare Equal else Unknown

-- the longest token at the front of a text, by its first byte: 109 is `m`, 119 `w`, 111 `o`, 33 `!`, 60 `<`, 62 `>`
abbrev pub lexeme_of : ℕ → List ℕ → Lexeme
lexeme_of b bs =
    if is_ascii_digit b then record { word = Number (capped_number (b - 48) bs); bytes_after = length (digits_of bs) }
    else if b == 109 then named_by (Mesh (capped_number 0 bs)) (length (digits_of bs)) else if b == 119
    then named_by (Wind (capped_number 0 bs)) (length (digits_of bs)) else if b == 111 then odd_in bs
    else if b == 33 then before_equals Bang NotEqual bs else if b == 60
    then before_equals (Compare Less) LessEqual bs else if b == 62
    then before_equals (Compare Greater) GreaterEqual bs else record { word = sign_of b; bytes_after = 0 }

-- the tokens from a place on, where the first `within` bytes are part of the token before
abbrev pub tokens_from : ℕ → ℕ → List ℕ → List Token
tokens_from within place [] = []
tokens_from (suc within) place (b ∷ bs) = tokens_from within (place + 1) bs
tokens_from zero place (b ∷ bs) =
    if b == 32 then tokens_from zero (place + 1) bs else record { word = (lexeme_of b bs).word; place = place } ∷
    tokens_from (lexeme_of b bs).bytes_after (place + 1) bs

abbrev pub tokens_of : List ℕ → List Token
tokens_of text = tokens_from 0 0 text
