-- A face that is turned: the same inside, key and hits, and the amount with the other sign.
use Rattle.std.proofs.Common.{◌≡◌, pred, not, ap, ◌∙◌, ◌&&◌, ℤ, ◌*ℤ◌, neg_ℤ, unsigned_abs}
use Rattle.ember_algebra.specs.Sign.{sign, is_zero}
use Rattle.ember_algebra.proofs.Order.{sign-neg}
use Rattle.ember_algebra.proofs.Numbers.{unsigned_abs-neg, neg-neg}
use Rattle.ember_model.specs.declared.point.Spot.{Spot}
use Rattle.ember_model.specs.declared.point.Axis.{Axis}
use Rattle.ember_model.specs.declared.face.Face.{Face}
use Rattle.ember_model.specs.Planes.{value_at, along, opposite}
use Rattle.ember_model.specs.Faces.{is_inside, hit, flipped_face}
use Rattle.ember_model.proofs.SignTests.{is_zero-neg}
use Rattle.ember_model.proofs.PlaneValues.{value-opposite}
use Rattle.ember_model.proofs.FlippedFaces.{inside-flipped, along-opposite, hit-opposite}
use Rattle.ember_meaning.proofs.Lines.{key, is_hit, amount}

-- ---- on a line
key_num : (n v : ℤ) → neg_ℤ (sign (neg_ℤ n) *ℤ neg_ℤ v) ≡ neg_ℤ (sign n *ℤ v)
key_num n v = ap neg_ℤ (ap (λ (z : ℤ). z *ℤ neg_ℤ v) (sign-neg n) ∙ neg-neg (sign n) v)

-- a flipped face has the same key
pub key-turned : (a : Axis) (p : Spot) (f : Face) → key a p (flipped_face f) ≡ key a p f
key-turned a p f =
    let e = along-opposite a f.support in let d = value-opposite f.support p in
    let n : neg_ℤ (sign (along (opposite f.support) a) *ℤ value_at (opposite f.support) p) ≡ neg_ℤ
    (sign (along f.support a) *ℤ value_at f.support p) =
    (λ i. neg_ℤ (sign (e i) *ℤ d i)) ∙ key_num (along f.support a) (value_at f.support p) in
    let m = ap (λ (z : ℤ). pred (unsigned_abs z)) e ∙ ap pred (unsigned_abs-neg (along f.support a)) in
    λ i. record { num = n i; den = m i }

-- a flipped face is hit where the face is
pub is_hit-turned : (a : Axis) (p : Spot) (f : Face) → is_hit a p (flipped_face f) ≡ is_hit a p f
is_hit-turned a p f =
    let e = ap is_zero (along-opposite a f.support) ∙ is_zero-neg (along f.support a) in
    let d = ap (is_inside (flipped_face f)) (hit-opposite f.support a p) ∙ inside-flipped f (hit f.support a p) in
    λ i. not (e i) && d i

-- and the negative amount
pub amount-turned : (a : Axis) (f : Face) → amount a (flipped_face f) ≡ neg_ℤ (amount a f)
amount-turned a f = ap sign (along-opposite a f.support) ∙ sign-neg (along f.support a)
