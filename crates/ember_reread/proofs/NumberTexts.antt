-- The texts of numbers, at the front of bytes
use Rattle.std.proofs.Common.{◌≡◌, refl, sym, ap, ◌∙◌, arith, ℕ, zero, suc, ◌+◌, ◌/◌, ◌%◌, ◌^◌, ◌<◌, ◌≤◌, Bool, true}
use Rattle.std.proofs.Common.{false, ◌&&◌, cond, eqb, leb, List, [], ◌∷◌, ◌++◌, length, ℤ, pos, negsuc, decimal}
use Rattle.std.specs.List.{list_all}
use Rattle.std.specs.Char.{is_ascii_digit}
use Rattle.std.specs.Fmt.{digits, digits_onto, digit_glyph}
use Rattle.std.proofs.lemmas.Bool.{le-leb, leb-true, and_parts}
use Rattle.ember_dec.proofs.Fronts.{digits_whole}
use Rattle.ember_dec.specs.Digits.{digits_of, behind_digits}
use Rattle.ember_reread.specs.Numbers.{IsEnd, IsSize, IsSizeAt, IsNumberAt}
use Rattle.ember_reread.proofs.Digits.{decimal_injective_wide, AreDigits}

-- equal lists have equal head_injective
pub head_injective : {X : Type 0} {x y : X} {xs ys : List X} → x ∷ xs ≡ y ∷ ys → x ≡ y
head_injective e = cc

-- equal lists have equal tail_injective
pub tail_injective : {X : Type 0} {x y : X} {xs ys : List X} → x ∷ xs ≡ y ∷ ys → xs ≡ ys
tail_injective e = cc

-- ---- digits and what follows them
no_digit : (b : ℕ) → b ≤ 32 → is_ascii_digit b ≡ false
no_digit b h = by (leb 48 b) refl
  where
    by : (t : Bool) → leb 48 b ≡ t → t && leb b 57 ≡ false
    by true e = absurd (omega (arith, leb-true 48 b e))
    by false e = refl

digit_passed : (xs ys : List ℕ) (t : Bool) → t ≡ true → cond t xs ys ≡ xs
digit_passed xs ys true e = refl
digit_passed xs ys false e = absurd (cc)

none_passed : (xs ys : List ℕ) (t : Bool) → t ≡ false → cond t xs ys ≡ ys
none_passed xs ys true e = absurd (cc)
none_passed xs ys false e = refl

front : (ds r : List ℕ) → AreDigits ds → IsEnd r → (digits_of (ds ++ r) ≡ ds) × (behind_digits (ds ++ r) ≡ r)
front [] [] p e = (refl, refl)
front [] (b ∷ bs) p e =
    let t = no_digit b e in
    (none_passed (b ∷ digits_of bs) [] (is_ascii_digit b) t, none_passed (behind_digits bs) (b ∷ bs) (is_ascii_digit b) t)
front (d ∷ ds) r p e =
    let q = and_parts (is_ascii_digit d) (list_all is_ascii_digit ds) p in
    let f = front ds r q.1 e in (
      digit_passed (d ∷ digits_of (ds ++ r)) [] (is_ascii_digit d) q.0 ∙ ap (λ l. d ∷ l) f.0,
      digit_passed (behind_digits (ds ++ r)) (d ∷ (ds ++ r)) (is_ascii_digit d) q.0 ∙ f.1,
    )

-- ---- the text of a number
digit_is : (d : ℕ) → d < 10 → is_ascii_digit (digit_glyph false d) ≡ true
digit_is d l = by (leb (suc d) 10) (lt-leb-true d l)
  where
    lt-leb-true : (d : ℕ) → d < 10 → leb (suc d) 10 ≡ true
    lt-leb-true d l = le-leb (suc d) 10 (omega arith)

    by : (b : Bool) → b ≡ true → is_ascii_digit (cond b (48 + d) (cond false (55 + d) (87 + d))) ≡ true
    by true e =
        let x = le-leb 48 (48 + d) (omega arith) in let y = le-leb (48 + d) 57 (omega arith) in
        λ i. x i && y i
    by false e = absurd (cc)

digits_all : (k n : ℕ) (bs : List ℕ) → AreDigits bs → AreDigits (digits_onto k 10 false n bs)
digits_all zero n bs h = h
digits_all (suc k) n bs h =
    let g = digit_is (n % 10) (omega arith) in
    let more : AreDigits (digit_glyph false (n % 10) ∷ bs) = λ i. g i && h i in
    either (eqb (n / 10) 0) _ _ more (digits_all k (n / 10) _ more)
  where
    either : (b : Bool) (xs ys : List ℕ) → AreDigits xs → AreDigits ys → AreDigits (cond b xs ys)
    either true xs ys p q = p
    either false xs ys p q = q

digits_grow : (k n : ℕ) (bs : List ℕ) → length bs ≤ length (digits_onto k 10 false n bs)
digits_grow zero n bs = omega arith
digits_grow (suc k) n bs =
    let g : ℕ = digit_glyph false (n % 10) in
    either (eqb (n / 10) 0) (g ∷ bs) _ (omega arith) (omega (arith, digits_grow k (n / 10) (g ∷ bs)))
  where
    either : (b : Bool) (xs ys : List ℕ) → length bs ≤ length xs → length bs ≤ length ys → length bs ≤ length (cond b xs ys)
    either true xs ys p q = p
    either false xs ys p q = q

decimal_digits : (n : ℕ) → AreDigits (decimal n)
unfolding digits
decimal_digits n = digits_all 64 n [] refl

decimal_begins : (n : ℕ) → 0 < length (decimal n)
unfolding digits
decimal_begins n = begins (eqb (n / 10) 0)
  where
    begins : (b : Bool) → 0 < length (cond b (digit_glyph false (n % 10) ∷ []) (digits_onto 63 10 false (n / 10) (digit_glyph false (n % 10) ∷ [])))
    begins true = omega arith
    begins false = omega (arith, digits_grow 63 (n / 10) (digit_glyph false (n % 10) ∷ []))

-- no minus is before it
no_minus : (n : ℕ) (bs rest : List ℕ) → 45 ∷ bs ≡ decimal n ++ rest → ⊥
no_minus n bs rest e = by (decimal n) (decimal_digits n) (decimal_begins n) e
  where
    by : (ds : List ℕ) → AreDigits ds → 0 < length ds → 45 ∷ bs ≡ ds ++ rest → ⊥
    by [] d l e = omega arith
    by (c ∷ cs) d l e =
        let q = and_parts (leb 48 c) (leb c 57) (and_parts (is_ascii_digit c) (list_all is_ascii_digit cs) d).0 in
        omega (arith, leb-true 48 c q.0, head_injective e)

-- ---- sizes at the front
-- the digits at the front are those of the number, and what follows them follows it
pub size_front : {most n : ℕ} {bytes rest : List ℕ} → IsSizeAt most n bytes rest → IsSize most n (digits_of bytes) × (behind_digits bytes ≡ rest)
size_front {most} {n} {bytes} {rest} h =
    let f = front (decimal n) rest (decimal_digits n) h.ends in
    (record { small = h.small; is = ap digits_of h.is ∙ f.0 }, ap behind_digits h.is ∙ f.1)

-- digits that spell a number, and an end, are a number at the front
pub size_there : {most n : ℕ} {bytes : List ℕ} → IsSize most n (digits_of bytes) → IsEnd (behind_digits bytes) → IsSizeAt most n bytes (behind_digits bytes)
size_there {bytes = bytes} h e =
    record { small = h.small; ends = e; is = digits_whole bytes ∙ ap (λ w. w ++ behind_digits bytes) h.is }

-- ---- numbers at the front
-- a minus begins a negative number
pub negative_size : (most : ℕ) (z : ℤ) (bs rest : List ℕ) → IsNumberAt most z (45 ∷ bs) rest → (n : ℕ) × (z ≡ negsuc n) × IsSizeAt most (suc n) bs rest
negative_size most (pos n) bs rest h = absurd (no_minus n bs rest h.is)
negative_size most (negsuc n) bs rest h =
    (n, refl, record { small = h.small.small; ends = h.ends; is = tail_injective h.is })

-- one front has one size, and one rest
size_once : (k l : ℕ) {bytes r s : List ℕ} → IsEnd r → IsEnd s → bytes ≡ decimal k ++ r → bytes ≡ decimal l ++ s → (decimal k ≡ decimal l) × (r ≡ s)
size_once k l {bytes} {r} {s} p q e f =
    let a = front (decimal k) r (decimal_digits k) p in
    let b = front (decimal l) s (decimal_digits l) q in
    let same : decimal k ++ r ≡ decimal l ++ s = sym e ∙ f in
    (sym a.0 ∙ ap digits_of same ∙ b.0, sym a.1 ∙ ap behind_digits same ∙ b.1)

-- what follows two numbers at one front is the same
pub number_rest : {m n : ℕ} (y z : ℤ) {bytes r s : List ℕ} → IsNumberAt m y bytes r → IsNumberAt n z bytes s → r ≡ s
number_rest (pos k) (pos l) h i = (size_once k l h.ends i.ends h.is i.is).1
number_rest (pos k) (negsuc l) {bytes} {r} {s} h i = absurd (no_minus k (decimal (suc l) ++ s) r (sym i.is ∙ h.is))
number_rest (negsuc k) (pos l) {bytes} {r} {s} h i = absurd (no_minus l (decimal (suc k) ++ r) s (sym h.is ∙ i.is))
number_rest (negsuc k) (negsuc l) {bytes} {r} {s} h i =
    (size_once (suc k) (suc l) {bytes = decimal (suc k) ++ r} h.ends i.ends refl (tail_injective (sym h.is ∙ i.is))).1

-- two numbers below 10^64 in size at one front are equal
pub number_once : {m : ℕ} (y z : ℤ) {bytes r s : List ℕ} → m < 10 ^ 64 → IsNumberAt m y bytes r → IsNumberAt m z bytes s → y ≡ z
number_once (pos k) (pos n) l h i =
    ap (λ a. pos a) (decimal_injective_wide k n (omega (arith, l, h.small.small)) (omega (arith, l, i.small.small)) (size_once k n h.ends i.ends h.is i.is).0)
number_once (pos k) (negsuc n) {bytes} {r} {s} l h i = absurd (no_minus k (decimal (suc n) ++ s) r (sym i.is ∙ h.is))
number_once (negsuc k) (pos n) {bytes} {r} {s} l h i = absurd (no_minus n (decimal (suc k) ++ r) s (sym h.is ∙ i.is))
number_once (negsuc k) (negsuc n) {bytes} {r} {s} l h i =
    let e = (size_once (suc k) (suc n) {bytes = decimal (suc k) ++ r} h.ends i.ends refl (tail_injective (sym h.is ∙ i.is))).0 in
    ap (λ a. negsuc a) (omega (arith, decimal_injective_wide (suc k) (suc n) (omega (arith, l, h.small.small)) (omega (arith, l, i.small.small)) e))
