-- Numbers and points at their places among the bytes of a file.
use Rattle.std.proofs.Common.{◌≡◌, ℕ, ◌+◌, ◌*◌, ◌/◌, ◌%◌, List, ◌++◌, length, get_or, Option, Some, refl, ap, ◌∙◌, arith}
use Rattle.std.proofs.lemmas.List.{get_or-append-add}
use Rattle.mesh_number.specs.Number.Fractions.{Fraction}
use Rattle.mesh_number.specs.Number.Floats.{binary32_value}
use Rattle.mesh_read.specs.Surface.Surfaces.{Point}
use Rattle.mesh_read.specs.Stl.Binary.{number_at, finite_point, point_at}
use Rattle.mesh_write.specs.declared.stl.triangle.FloatPoint.{FloatPoint}
use Rattle.mesh_write.specs.declared.stl.triangle.FloatTriangle.{FloatTriangle}
use Rattle.mesh_write.specs.Stl.Written.{stl_header, number_bytes, point_bytes, triangle_bytes}
use Rattle.mesh_write.specs.Stl.ReadBack.{IsPoint}

byte_behind : (front rest : List ℕ) (at i : ℕ) → at ≡ length front + i → get_or (front ++ rest) at 0 ≡ get_or rest i 0
byte_behind front rest at i e = ap (λ (k : ℕ). get_or (front ++ rest) k 0) e ∙ get_or-append-add front rest i 0

-- a number behind other bytes
pub number_behind : (front rest : List ℕ) (at i : ℕ) → at ≡ length front + i → number_at (front ++ rest) at ≡ number_at rest i
number_behind front rest at i e =
    four (byte_behind front rest at i e) (byte_behind front rest (at + 1) (i + 1) (omega (arith, e)))
    (byte_behind front rest (at + 2) (i + 2) (omega (arith, e)))
    (byte_behind front rest (at + 3) (i + 3) (omega (arith, e)))
  where
    four : {a b c d p q r s : ℕ} → a ≡ p → b ≡ q → c ≡ r → d ≡ s → a + b * 256 + c * 65536 + d * 16777216 ≡ p + q * 256 + r * 65536 + s * 16777216
    four e f g h = omega (arith, e, f, g, h)

-- and a point
pub point_behind : (front rest : List ℕ) (at i : ℕ) → at ≡ length front + i → point_at (front ++ rest) at ≡ point_at rest i
unfolding point_at
point_behind front rest at i e =
    three (number_behind front rest at i e) (number_behind front rest (at + 4) (i + 4) (omega (arith, e)))
    (number_behind front rest (at + 8) (i + 8) (omega (arith, e)))
  where
    three : {a b c p q r : ℕ} → a ≡ p → b ≡ q → c ≡ r →
        finite_point (binary32_value a) (binary32_value b) (binary32_value c) ≡ finite_point (binary32_value p)
        (binary32_value q) (binary32_value r)
    three {a} {b} {c} {p} {q} {r} e f g =
        ap (λ (n : ℕ). finite_point (binary32_value n) (binary32_value b) (binary32_value c)) e
        ∙ ap (λ (n : ℕ). finite_point (binary32_value p) (binary32_value n) (binary32_value c)) f
        ∙ ap (λ (n : ℕ). finite_point (binary32_value p) (binary32_value q) (binary32_value n)) g

-- the four bytes of a number give it again
whole : (n : ℕ) → n % 256 + n / 256 % 256 * 256 + n / 65536 % 256 * 65536 + n / 16777216 * 16777216 ≡ n
whole n = omega arith

finite : (x y z : ℕ) (p : FloatPoint) (q : Point) → x ≡ p.x → y ≡ p.y → z ≡ p.z → IsPoint p q →
    finite_point (binary32_value x) (binary32_value y) (binary32_value z) ≡ Some q
finite x y z p q e f g is =
    ap (λ (n : ℕ). finite_point (binary32_value n) (binary32_value y) (binary32_value z)) e
    ∙ ap (λ (n : ℕ). finite_point (binary32_value p.x) (binary32_value n) (binary32_value z)) f
    ∙ ap (λ (n : ℕ). finite_point (binary32_value p.x) (binary32_value p.y) (binary32_value n)) g
    ∙ ap (λ (v : Option Fraction). finite_point v (binary32_value p.y) (binary32_value p.z)) is.x
    ∙ ap (λ (v : Option Fraction). finite_point (Some q.x) v (binary32_value p.z)) is.y
    ∙ ap (λ (v : Option Fraction). finite_point (Some q.x) (Some q.y) v) is.z

-- the corners of a triangle among its bytes
pub corner_a : (t : FloatTriangle) (rest : List ℕ) (q : Point) → IsPoint t.a q → point_at (triangle_bytes t ++ rest) 12 ≡ Some q
unfolding point_at triangle_bytes point_bytes number_bytes
corner_a t rest q is = finite (number_at (triangle_bytes t ++ rest) 12) (number_at (triangle_bytes t ++ rest) 16)
    (number_at (triangle_bytes t ++ rest) 20) t.a q (whole t.a.x) (whole t.a.y) (whole t.a.z) is

-- the second corner is at byte 24 of a triangle
pub corner_b : (t : FloatTriangle) (rest : List ℕ) (q : Point) → IsPoint t.b q → point_at (triangle_bytes t ++ rest) 24 ≡ Some q
unfolding point_at triangle_bytes point_bytes number_bytes
corner_b t rest q is = finite (number_at (triangle_bytes t ++ rest) 24) (number_at (triangle_bytes t ++ rest) 28)
    (number_at (triangle_bytes t ++ rest) 32) t.b q (whole t.b.x) (whole t.b.y) (whole t.b.z) is

-- the third corner is at byte 36 of a triangle
pub corner_c : (t : FloatTriangle) (rest : List ℕ) (q : Point) → IsPoint t.c q → point_at (triangle_bytes t ++ rest) 36 ≡ Some q
unfolding point_at triangle_bytes point_bytes number_bytes
corner_c t rest q is = finite (number_at (triangle_bytes t ++ rest) 36) (number_at (triangle_bytes t ++ rest) 40)
    (number_at (triangle_bytes t ++ rest) 44) t.c q (whole t.c.x) (whole t.c.y) (whole t.c.z) is

-- ---- lengths, and the number of triangles
-- the header has 80 bytes
pub header_length : length stl_header ≡ 80
unfolding stl_header
header_length = refl

-- a number takes 4 bytes
pub number_length : (n : ℕ) → length (number_bytes n) ≡ 4
unfolding number_bytes
number_length n = refl

-- a triangle takes 50 bytes
pub triangle_length : (t : FloatTriangle) → length (triangle_bytes t) ≡ 50
unfolding triangle_bytes point_bytes number_bytes
triangle_length t = refl

-- a number that was written is read again at its first byte
pub number_first : (n : ℕ) (rest : List ℕ) → number_at (number_bytes n ++ rest) 0 ≡ n
unfolding number_bytes
number_first n rest = whole n
