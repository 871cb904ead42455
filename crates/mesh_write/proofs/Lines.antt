-- Lines of words with a space between them, as a reader finds them
use Rattle.std.proofs.Common.{◌≡◌, ℕ, ◌+◌, ◌<◌, Bool, true, false, ◌&&◌, ◌==◌, List, [], ◌∷◌, ◌++◌, length, map, drop}
use Rattle.std.proofs.Common.{append_assoc, append-nil, refl, sym, ap, ◌∙◌, arith, slice_index}
use Rattle.std.specs.Prelude.{All, nat_lt, not}
use Rattle.std.specs.List.{list_all}
use Rattle.std.proofs.lemmas.Bool.Decides.{nat_tests}
use Rattle.std.proofs.lemmas.List.Elements.{All-cons, All-head, All-tail, All-nil, All-append, All-weaker}
use Rattle.std.proofs.lemmas.Bool.{and_parts}
use Rattle.ember_obj.specs.Scan.{before, onward, is_separator}
use Rattle.mesh_read.specs.Scan.Parts.{Piece, is_hash, lines_from, uncommented, words_from, after_line}
use Rattle.mesh_read.proofs.Cuts.{first_cut, word_cut}

-- ---- words and lines
-- a byte behind `#`, and no backslash
pub record IsInWord (b : ℕ) : Type 0 where
  pub above : 35 < b
  pub no_backslash : b == 92 ≡ false

pub record IsWord (w : List ℕ) : Type 0 where
  pub some : 0 < length w
  pub bytes : All IsInWord w

-- a test of words that are written out
abbrev is_word_byte : ℕ → Bool
is_word_byte b = nat_lt 35 b && not (b == 92)

byte_in_word : (b : ℕ) → is_word_byte b ≡ true → IsInWord b
byte_in_word b h =
    let parts = and_parts (nat_lt 35 b) (not (b == 92)) h in
    record { above = grind (arith, nat_tests, parts.0); no_backslash = turned (b == 92) parts.1 }
  where
    turned : (t : Bool) → not t ≡ true → t ≡ false
    turned false h = refl
    turned true h = absurd (cc)

bytes_in_word : (w : List ℕ) → list_all is_word_byte w ≡ true → All IsInWord w
bytes_in_word [] h = All-nil IsInWord
bytes_in_word (b ∷ bs) h =
    let parts = and_parts (is_word_byte b) (list_all is_word_byte bs) h in
    All-cons IsInWord b bs (byte_in_word b parts.0) (bytes_in_word bs parts.1)

pub literal_word : (w : List ℕ) → list_all is_word_byte w ≡ true → 0 < length w → IsWord w
literal_word w h some = record { some = some; bytes = bytes_in_word w h }

pub two_words : (a b : List ℕ) → IsWord a → IsWord b → All IsWord (a ∷ b ∷ [])
two_words a b h k = All-cons IsWord a (b ∷ []) h (All-cons IsWord b [] k (All-nil IsWord))

pub three_words : (a b c : List ℕ) → IsWord a → IsWord b → IsWord c → All IsWord (a ∷ b ∷ c ∷ [])
three_words a b c h k l = All-cons IsWord a (b ∷ c ∷ []) h (two_words b c k l)

-- words with a space before each, and what follows
abbrev pub spaced : List (List ℕ) → List ℕ → List ℕ
spaced [] rest = rest
spaced (w ∷ ws) rest = 32 ∷ (w ++ spaced ws rest)

-- the line of these words
abbrev pub joined : List ℕ → List (List ℕ) → List ℕ
joined w ws = w ++ spaced ws []

abbrev pub piece : ℕ → List ℕ → Piece
piece s text = record { start = s; text = text }

abbrev pub texts : List Piece → List (List ℕ)
texts ws = map (λ w. w.text) ws

-- a byte of a line: no line feed, no `#`, no carriage return and no backslash
pub record IsInLine (b : ℕ) : Type 0 where
  pub no_feed : b == 10 ≡ false
  pub no_hash : b == 35 ≡ false
  pub no_return : b == 13 ≡ false
  pub no_backslash : b == 92 ≡ false

word_in_line : (b : ℕ) → IsInWord b → IsInLine b
word_in_line b h = record {
  no_feed = grind (arith, nat_tests, h.above);
  no_hash = grind (arith, nat_tests, h.above);
  no_return = grind (arith, nat_tests, h.above);
  no_backslash = h.no_backslash;
}

space_in_line : IsInLine 32
space_in_line = record { no_feed = refl; no_hash = refl; no_return = refl; no_backslash = refl }

spaced_in_line : (ws : List (List ℕ)) → All IsWord ws → All IsInLine (spaced ws [])
spaced_in_line [] h = All-nil IsInLine
spaced_in_line (w ∷ ws) h =
    let word = All-head IsWord w ws h in
    All-cons IsInLine 32 _ space_in_line
    (All-append IsInLine w (spaced ws []) (All-weaker IsInWord IsInLine word_in_line w word.bytes) (spaced_in_line ws (All-tail IsWord w ws h)))

pub joined_in_line : (w : List ℕ) (ws : List (List ℕ)) → IsWord w → All IsWord ws → All IsInLine (joined w ws)
joined_in_line w ws h hs =
    All-append IsInLine w (spaced ws []) (All-weaker IsInWord IsInLine word_in_line w h.bytes) (spaced_in_line ws hs)

-- ---- cuts
before_run : (stops : ℕ → Bool) (xs rest : List ℕ) → All (λ b. stops b ≡ false) xs → before stops (xs ++ rest) ≡ xs ++ before stops rest
before_run stops [] rest h = refl
before_run stops (x ∷ xs) rest h =
    rw (All-head (λ b. stops b ≡ false) x xs h) (ap (λ l. x ∷ l) (before_run stops xs rest (All-tail (λ b. stops b ≡ false) x xs h)))

onward_run : (stops : ℕ → Bool) (xs rest : List ℕ) → All (λ b. stops b ≡ false) xs → onward stops (xs ++ rest) ≡ onward stops rest
onward_run stops [] rest h = refl
onward_run stops (x ∷ xs) rest h =
    rw (All-head (λ b. stops b ≡ false) x xs h) (onward_run stops xs rest (All-tail (λ b. stops b ≡ false) x xs h))

before_all : (stops : ℕ → Bool) (xs rest : List ℕ) → All (λ b. stops b ≡ false) xs → before stops rest ≡ [] → before stops (xs ++ rest) ≡ xs
before_all stops xs rest h none = before_run stops xs rest h ∙ ap (λ l. xs ++ l) none ∙ append-nil xs

-- ---- words
no_separator : (b : ℕ) → IsInWord b → is_separator b ≡ false
no_separator b h = grind (arith, nat_tests, h.above)

first_byte : (w rest : List ℕ) → IsWord w → is_separator (slice_index (w ++ rest) 0) ≡ false
first_byte [] rest h = absurd (omega (arith, h.some))
first_byte (b ∷ bs) rest h = no_separator b (All-head IsInWord b bs h.bytes)

front_some : (w rest : List ℕ) → 0 < length w → 0 < length (w ++ rest)
front_some [] rest h = absurd (omega (arith, h))
front_some (b ∷ bs) rest h = omega arith

word_step : (p : ℕ) (w rest : List ℕ) → IsWord w → before is_separator rest ≡ [] → onward is_separator rest ≡ rest →
    words_from p (w ++ rest) [] ≡ piece p w ∷ words_from (p + length w) rest []
word_step p w rest h none all =
    let clear = All-weaker IsInWord (λ b. is_separator b ≡ false) no_separator w h.bytes in
    word_cut is_separator p p (p + length w) (w ++ rest) w rest (front_some w rest h.some) (first_byte w rest h)
    (sym (before_all is_separator w rest clear none)) (sym (onward_run is_separator w rest clear ∙ all)) refl refl

pub joined_words : (p : ℕ) (w : List ℕ) (ws : List (List ℕ)) → IsWord w → All IsWord ws → texts (words_from p (joined w ws) []) ≡ w ∷ ws
joined_words p w [] h hs = ap texts (word_step p w [] h refl refl)
joined_words p w (v ∷ vs) h hs =
    ap texts (word_step p w (spaced (v ∷ vs) []) h refl refl)
    ∙ ap (λ l. w ∷ l) (joined_words (p + length w + 1) v vs (All-head IsWord v vs hs) (All-tail IsWord v vs hs))

-- ---- lines
pub line_step : (s : ℕ) (line rest : List ℕ) → All IsInLine line → lines_from s (line ++ 10 ∷ rest) ≡ piece s line ∷ lines_from (s + length line + 1) rest
line_step s line rest h =
    let clear = All-weaker IsInLine (λ b. b == 10 ≡ false) (λ b k. k.no_feed) line h in
    first_cut s s (s + length line) (s + length line + 1) (line ++ 10 ∷ rest) line (10 ∷ rest) rest (omega arith)
    (sym (onward_run (λ b. b == 10) line (10 ∷ rest) clear)) (sym (before_all (λ b. b == 10) line (10 ∷ rest) clear refl)) refl refl refl refl

pub line_uncommented : (s : ℕ) (line : List ℕ) → All IsInLine line → uncommented (piece s line) ≡ piece s line
line_uncommented s line h =
    let clear = All-weaker IsInLine (λ b. is_hash b ≡ false) (λ b k. k.no_hash) line h in
    ap (λ l. piece s l) (ap (λ l. before is_hash l) (sym (append-nil line)) ∙ before_all is_hash line [] clear refl)

-- a line's end, and what follows it
spaced_end : (ws : List (List ℕ)) (rest : List ℕ) → spaced ws (10 ∷ []) ++ rest ≡ spaced ws [] ++ 10 ∷ rest
spaced_end [] rest = refl
spaced_end (w ∷ ws) rest =
    ap (λ l. 32 ∷ l)
    (append_assoc w (spaced ws (10 ∷ [])) rest ∙ ap (λ l. w ++ l) (spaced_end ws rest) ∙ sym (append_assoc w (spaced ws []) (10 ∷ rest)))

joined_end : (w : List ℕ) (ws : List (List ℕ)) (rest : List ℕ) → (w ++ spaced ws (10 ∷ [])) ++ rest ≡ joined w ws ++ 10 ∷ rest
joined_end w ws rest =
    append_assoc w (spaced ws (10 ∷ [])) rest ∙ ap (λ l. w ++ l) (spaced_end ws rest) ∙ sym (append_assoc w (spaced ws []) (10 ∷ rest))

-- a line of words and what follows it
pub line_of_words : (s : ℕ) (w : List ℕ) (ws : List (List ℕ)) (rest : List ℕ) → IsWord w → All IsWord ws
    → lines_from s ((w ++ spaced ws (10 ∷ [])) ++ rest) ≡ piece s (joined w ws) ∷ lines_from (s + length (joined w ws) + 1) rest
line_of_words s w ws rest h hs =
    ap (λ l. lines_from s l) (joined_end w ws rest) ∙ line_step s (joined w ws) rest (joined_in_line w ws h hs)

-- what follows a line of words
pub line_passed : (w : List ℕ) (ws : List (List ℕ)) (rest : List ℕ) → IsWord w → All IsWord ws → after_line ((w ++ spaced ws (10 ∷ [])) ++ rest) ≡ rest
line_passed w ws rest h hs =
    let clear = All-weaker IsInLine (λ b. b == 10 ≡ false) (λ b k. k.no_feed) (joined w ws) (joined_in_line w ws h hs) in
    ap after_line (joined_end w ws rest) ∙ ap (λ l. drop 1 l) (onward_run (λ b. b == 10) (joined w ws) (10 ∷ rest) clear)
