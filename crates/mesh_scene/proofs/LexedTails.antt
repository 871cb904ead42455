-- How a text of JSON is read that ends with a line end
use Rattle.std.proofs.Common.{◌≡◌, ℕ, Bool, true, false, cond, ◌&&◌, List, [], ◌∷◌, ◌++◌, refl, sym, ap, ap₂, ◌∙◌, append_assoc, append-nil, map, inl, inr}
use Rattle.json.specs.Token.{Token, begin_object, end_object, begin_array, end_array, key, string, number, boolean, null, bad}
use Rattle.json.specs.Word.{ends_word, word}
use Rattle.json.specs.Lex.{Lexeme, token, comma, colon, string_token, lex, between, fresh, punctuate, tokens}
use Rattle.json.specs.Print.{escape, quoted, token_text, begins, ends, IsPrintable, ArePrintable}
use Rattle.json.specs.Spaced.{IsGap, AreGaps, print_spaced}
use Rattle.json.proofs.Printed.Strings.{content-escape, lex-escape}
use Rattle.json.proofs.Printed.Numbers.{lex-number, in_word-ended}
use Rattle.json.proofs.Printed.Tokens.{tokens-print_spaced}

-- ---- one piece of the text
quoted_lexed : (s r : List ℕ) → lex between (quoted s ++ r) ≡ token (string s) ∷ lex between r
unfolding lex
quoted_lexed s r =
    ap (λ l. lex between (34 ∷ l)) (append_assoc (escape s) (34 ∷ []) r)
    ∙ ap₂ (λ o l. token (string_token o) ∷ l) (content-escape s r) (lex-escape s r)

abbrev token_lexemes : Token → List Lexeme
token_lexemes begin_object = token begin_object ∷ []
token_lexemes end_object = token end_object ∷ []
token_lexemes begin_array = token begin_array ∷ []
token_lexemes end_array = token end_array ∷ []
token_lexemes (key s) = token (string s) ∷ colon ∷ []
token_lexemes (string s) = token (string s) ∷ []
token_lexemes (number s) = token (number s) ∷ []
token_lexemes (boolean b) = token (boolean b) ∷ []
token_lexemes null = token null ∷ []
token_lexemes bad = []

token_lexed : (t : Token) (r : List ℕ) → IsPrintable t → (ends t ≡ true → ends_word r ≡ true) →
    lex between (token_text t ++ r) ≡ token_lexemes t ++ lex between r
unfolding lex word
token_lexed begin_object r h ended = refl
token_lexed end_object r h ended = refl
token_lexed begin_array r h ended = refl
token_lexed end_array r h ended = refl
token_lexed (key s) r h ended = ap (lex between) (append_assoc (quoted s) (58 ∷ []) r) ∙ quoted_lexed s (58 ∷ r)
token_lexed (string s) r h ended = quoted_lexed s r
token_lexed (number s) r h ended = lex-number s r h (ended refl)
token_lexed (boolean true) r h ended = ap₂ (λ b l. token (cond b (boolean true) bad) ∷ l) (ended refl) (in_word-ended r (ended refl))
token_lexed (boolean false) r h ended = ap₂ (λ b l. token (cond b (boolean false) bad) ∷ l) (ended refl) (in_word-ended r (ended refl))
token_lexed null r h ended = ap₂ (λ b l. token (cond b null bad) ∷ l) (ended refl) (in_word-ended r (ended refl))
token_lexed bad r h ended = absurd h

separator_lexed : (b : Bool) (u v : List ℕ) → lex between u ≡ lex between v → lex between (cond b (44 ∷ []) [] ++ u) ≡ lex between (cond b (44 ∷ []) [] ++ v)
unfolding lex
separator_lexed true u v e = ap (λ l. comma ∷ l) e
separator_lexed false u v e = e

gap_lexed : (g r : List ℕ) → IsGap g → lex between (g ++ r) ≡ lex between r
unfolding lex
gap_lexed [] r h = refl
gap_lexed (x ∷ g) r (inl e, h) = rw e (gap_lexed g r h)
gap_lexed (x ∷ g) r (inr e, h) = rw e (gap_lexed g r h)

gap_ends : (g r : List ℕ) → IsGap g → ends_word r ≡ true → ends_word (g ++ r) ≡ true
gap_ends [] r h e = e
gap_ends (x ∷ g) r (inl is, h) e = rw is
gap_ends (x ∷ g) r (inr is, h) e = rw is

-- ---- what follows the pieces
pieces_end : (ps : List (List ℕ × Token)) (r : List ℕ) → AreGaps ps → ends_word r ≡ true → ends_word (print_spaced true ps ++ r) ≡ true
unfolding print_spaced
pieces_end [] r h e = e
pieces_end ((g, begin_object) ∷ ps) r h e = refl
pieces_end ((g, end_object) ∷ ps) r h e = rw (append_assoc g (125 ∷ print_spaced true ps) r) (gap_ends g _ h.0 refl)
pieces_end ((g, begin_array) ∷ ps) r h e = refl
pieces_end ((g, end_array) ∷ ps) r h e = rw (append_assoc g (93 ∷ print_spaced true ps) r) (gap_ends g _ h.0 refl)
pieces_end ((g, key s) ∷ ps) r h e = refl
pieces_end ((g, string s) ∷ ps) r h e = refl
pieces_end ((g, number s) ∷ ps) r h e = refl
pieces_end ((g, boolean b) ∷ ps) r h e = refl
pieces_end ((g, null) ∷ ps) r h e = refl
pieces_end ((g, bad) ∷ ps) r h e = refl

token_then : (t : Token) (u v : List ℕ) → IsPrintable t → (ends t ≡ true → ends_word u ≡ true) →
    (ends t ≡ true → ends_word v ≡ true) → lex between u ≡ lex between v
    → lex between (token_text t ++ u) ≡ lex between (token_text t ++ v)
token_then t u v h end_u end_v e = token_lexed t u h end_u ∙ ap (λ l. token_lexemes t ++ l) e ∙ sym (token_lexed t v h end_v)

-- five pieces, grouped from the end
pub regrouped : (a b c d r : List ℕ) → (a ++ (b ++ (c ++ d))) ++ r ≡ a ++ (b ++ (c ++ (d ++ r)))
regrouped a b c d r = simp append_assoc

-- what has no lexemes changes none before it
pieces_then : (c : Bool) (ps : List (List ℕ × Token)) (r : List ℕ) → AreGaps ps → ArePrintable (map (λ p. p.1) ps) → lex between r ≡ [] → ends_word r ≡ true
    → lex between (print_spaced c ps ++ r) ≡ lex between (print_spaced c ps)
unfolding lex print_spaced ArePrintable
pieces_then c [] r gaps h none e = none
pieces_then c (p ∷ ps) r gaps h none e =
    let t = p.1 in
    let rest = print_spaced (ends t) ps in
    let inner : lex between (token_text t ++ (rest ++ r)) ≡ lex between (token_text t ++ rest) =
    token_then t (rest ++ r) rest h.0 (λ is. ap (λ b. ends_word (print_spaced b ps ++ r)) is ∙ pieces_end ps r gaps.1 e)
    (λ is. ap (λ b. ends_word (print_spaced b ps)) is ∙ ap ends_word (sym (append-nil (print_spaced true ps))) ∙ pieces_end ps [] gaps.1 refl)
    (pieces_then (ends t) ps r gaps.1 h.1 none e) in
    ap (lex between) (regrouped (cond (c && begins t) (44 ∷ []) []) p.0 (token_text t) rest r)
    ∙ separator_lexed (c && begins t) _ _
    (gap_lexed p.0 (token_text t ++ (rest ++ r)) gaps.0 ∙ inner ∙ sym (gap_lexed p.0 (token_text t ++ rest) gaps.0))

-- pieces with a line end behind them are read as their tokens
pub tokens-pieces : (ps : List (List ℕ × Token)) → AreGaps ps → ArePrintable (map (λ p. p.1) ps) → tokens (print_spaced false ps ++ 10 ∷ []) ≡ map (λ p. p.1) ps
unfolding lex
tokens-pieces ps gaps h = ap (punctuate fresh) (pieces_then false ps (10 ∷ []) gaps h refl refl) ∙ tokens-print_spaced ps gaps h
