-- Pieces that are appended one after another.
use Rattle.std.proofs.Common.{◌≡◌, ℕ, if◌then◌else◌, List, ◌++◌, Result, Ok, Err, is_ok, OnOk, ap, ◌∙◌, append_assoc}

-- ---- two, three and more pieces, each with the text before it
pub after2 : (a b x0 x1 : List ℕ) → x1 ≡ x0 ++ a → x1 ++ b ≡ x0 ++ (a ++ b)
after2 a b x0 x1 e = ap (λ (xs : List ℕ). xs ++ b) e ∙ append_assoc x0 a b

pub after3 : (a b c x0 x1 x2 : List ℕ) → x1 ≡ x0 ++ a → x2 ≡ x1 ++ b → x2 ++ c ≡ x0 ++ (a ++ (b ++ c))
after3 a b c x0 x1 x2 e f = after2 b c x1 x2 f ∙ after2 a (b ++ c) x0 x1 e

pub after4 : (a b c d x0 x1 x2 x3 : List ℕ) → x1 ≡ x0 ++ a → x2 ≡ x1 ++ b → x3 ≡ x2 ++ c → x3 ++ d ≡ x0 ++ (a ++ (b ++ (c ++ d)))
after4 a b c d x0 x1 x2 x3 e f g = after2 c d x2 x3 g ∙ after3 a b (c ++ d) x0 x1 x2 e f

pub after5 : (a b c d p x0 x1 x2 x3 x4 : List ℕ) → x1 ≡ x0 ++ a → x2 ≡ x1 ++ b → x3 ≡ x2 ++ c → x4 ≡ x3 ++ d → x4 ++ p ≡ x0 ++ (a ++ (b ++ (c ++ (d ++ p))))
after5 a b c d p x0 x1 x2 x3 x4 e f g h = after2 d p x3 x4 h ∙ after4 a b c (d ++ p) x0 x1 x2 x3 e f g

pub after6 : (a b c d p q x0 x1 x2 x3 x4 x5 : List ℕ) → x1 ≡ x0 ++ a → x2 ≡ x1 ++ b → x3 ≡ x2 ++ c → x4 ≡ x3 ++ d → x5 ≡ x4 ++ p →
    x5 ++ q ≡ x0 ++ (a ++ (b ++ (c ++ (d ++ (p ++ q)))))
after6 a b c d p q x0 x1 x2 x3 x4 x5 e f g h i = after3 d p q x3 x4 x5 h i ∙ after4 a b c (d ++ (p ++ q)) x0 x1 x2 x3 e f g

pub after7 : (a b c d p q r x0 x1 x2 x3 x4 x5 x6 : List ℕ) → x1 ≡ x0 ++ a → x2 ≡ x1 ++ b → x3 ≡ x2 ++ c → x4 ≡ x3 ++ d →
    x5 ≡ x4 ++ p → x6 ≡ x5 ++ q → x6 ++ r ≡ x0 ++ (a ++ (b ++ (c ++ (d ++ (p ++ (q ++ r))))))
after7 a b c d p q r x0 x1 x2 x3 x4 x5 x6 e f g h i j =
    after4 d p q r x3 x4 x5 x6 h i j ∙ after4 a b c (d ++ (p ++ (q ++ r))) x0 x1 x2 x3 e f g

pub after8 : (a b c d p q r s x0 x1 x2 x3 x4 x5 x6 x7 : List ℕ) → x1 ≡ x0 ++ a → x2 ≡ x1 ++ b → x3 ≡ x2 ++ c →
    x4 ≡ x3 ++ d → x5 ≡ x4 ++ p → x6 ≡ x5 ++ q → x7 ≡ x6 ++ r →
    x7 ++ s ≡ x0 ++ (a ++ (b ++ (c ++ (d ++ (p ++ (q ++ (r ++ s)))))))
after8 a b c d p q r s x0 x1 x2 x3 x4 x5 x6 x7 e f g h i j k =
    after4 p q r s x4 x5 x6 x7 i j k ∙ after5 a b c d (p ++ (q ++ (r ++ s))) x0 x1 x2 x3 x4 e f g h

pub after9 : (a b c d p q r s t x0 x1 x2 x3 x4 x5 x6 x7 x8 : List ℕ) → x1 ≡ x0 ++ a → x2 ≡ x1 ++ b → x3 ≡ x2 ++ c →
    x4 ≡ x3 ++ d → x5 ≡ x4 ++ p → x6 ≡ x5 ++ q → x7 ≡ x6 ++ r → x8 ≡ x7 ++ s →
    x8 ++ t ≡ x0 ++ (a ++ (b ++ (c ++ (d ++ (p ++ (q ++ (r ++ (s ++ t))))))))
after9 a b c d p q r s t x0 x1 x2 x3 x4 x5 x6 x7 x8 e f g h i j k l =
    after5 p q r s t x4 x5 x6 x7 x8 i j k l ∙ after5 a b c d (p ++ (q ++ (r ++ (s ++ t)))) x0 x1 x2 x3 x4 e f g h

pub after11 : (a b c d p q r s t u v x0 x1 x2 x3 x4 x5 x6 x7 x8 x9 y : List ℕ) → x1 ≡ x0 ++ a → x2 ≡ x1 ++ b →
    x3 ≡ x2 ++ c → x4 ≡ x3 ++ d → x5 ≡ x4 ++ p → x6 ≡ x5 ++ q → x7 ≡ x6 ++ r → x8 ≡ x7 ++ s → x9 ≡ x8 ++ t → y ≡ x9 ++ u →
    y ++ v ≡ x0 ++ (a ++ (b ++ (c ++ (d ++ (p ++ (q ++ (r ++ (s ++ (t ++ (u ++ v))))))))))
after11 a b c d p q r s t u v x0 x1 x2 x3 x4 x5 x6 x7 x8 x9 y e f g h i j k l m n =
    after7 p q r s t u v x4 x5 x6 x7 x8 x9 y i j k l m n
    ∙ after5 a b c d (p ++ (q ++ (r ++ (s ++ (t ++ (u ++ v)))))) x0 x1 x2 x3 x4 e f g h

-- ---- results
-- a value chosen by a result is the first one if the result is Ok
pub on_ok_if : {X E : Type 0} {new want : List ℕ} (ok err : List ℕ) (r : Result X E) → new ≡ (if is_ok r then ok else err) → ok ≡ want → OnOk r (new ≡ want)
on_ok_if ok err (Ok v) e f = e ∙ f
on_ok_if ok err (Err e) d f = tt

-- an equal value
pub on_ok_same : {X E : Type 0} (new now want : List ℕ) (r : Result X E) → OnOk r (new ≡ now) → now ≡ want → OnOk r (new ≡ want)
on_ok_same new now want (Ok v) e f = e ∙ f
on_ok_same new now want (Err e) d f = tt

-- a fact that holds anyway
pub on_ok_anyway : {X E P : Type 0} (r : Result X E) → P → OnOk r P
on_ok_anyway (Ok v) p = p
on_ok_anyway (Err e) p = tt

-- what follows from two facts
pub on_ok_both : {X E P Q R : Type 0} (r : Result X E) → (P → Q → R) → OnOk r P → OnOk r Q → OnOk r R
on_ok_both (Ok v) f p q = f p q
on_ok_both (Err e) f p q = tt
