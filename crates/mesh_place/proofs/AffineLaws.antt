-- One affine map after another
use Rattle.std.proofs.Common.{◌≡◌, ℕ, ◌*◌, Bool, true, false, refl, sym, ap, ◌∙◌, ℤ, pos, ◌+ℤ◌, ◌-ℤ◌, ◌*ℤ◌}
use Rattle.ember_algebra.specs.declared.Sign.{Sign}
use Rattle.ember_algebra.specs.declared.Sign.TheVariants.{Neg, Zero, Pos}
use Rattle.ember_algebra.specs.Sign.{sgn, times, is_nil, is_zero}
use Rattle.ember_algebra.specs.Vector.{Tuple}
use Rattle.ember_algebra.proofs.Laws.{*ℤ_assoc}
use Rattle.ember_algebra.proofs.Ring.{◌⊕◌, ◌⊖◌, ◌⊗◌, num, ◌≈◌, solve, cancels}
use Rattle.ember_algebra.proofs.Cramer.{Det3}
use Rattle.ember_algebra.proofs.Signs.{sgn-mul}
use Rattle.mesh_place.specs.AffineMaps.{Row, Affine, row, affine, value_at, image, column, composed_row, composed, determinant, is_flattening}
use Rattle.mesh_place.proofs.Sums.{product_of_naturals}

-- a row of two maps, one after another
composed_value : (r : Row) (b : Affine) (p : Tuple) → value_at (composed_row r b) p ≡ value_at r (image b p)
composed_value r b p =
    solve 21 (λ rx ry rz ro ax ay az ao bx by bz bo cx cy cz co s x y z w.
    (rx ⊗ ax ⊕ ry ⊗ bx ⊕ rz ⊗ cx ⊕ ro ⊗ num (pos 0)) ⊗ x ⊕ (rx ⊗ ay ⊕ ry ⊗ by ⊕ rz ⊗ cy ⊕ ro ⊗ num (pos 0)) ⊗ y
    ⊕ (rx ⊗ az ⊕ ry ⊗ bz ⊕ rz ⊗ cz ⊕ ro ⊗ num (pos 0)) ⊗ z ⊕ (rx ⊗ ao ⊕ ry ⊗ bo ⊕ rz ⊗ co ⊕ ro ⊗ s) ⊗ w
    ≈ rx ⊗ (ax ⊗ x ⊕ ay ⊗ y ⊕ az ⊗ z ⊕ ao ⊗ w) ⊕ ry ⊗ (bx ⊗ x ⊕ by ⊗ y ⊕ bz ⊗ z ⊕ bo ⊗ w)
    ⊕ rz ⊗ (cx ⊗ x ⊕ cy ⊗ y ⊕ cz ⊗ z ⊕ co ⊗ w) ⊕ ro ⊗ (s ⊗ w)) cancels
    r.x r.y r.z r.offset b.x.x b.x.y b.x.z b.x.offset b.y.x b.y.y b.y.z b.y.offset b.z.x b.z.y b.z.z b.z.offset
    (pos b.scale) p.x p.y p.z p.w

-- the scales of two maps
composed_weight : (a b : ℕ) (w : ℤ) → pos (a * b) *ℤ w ≡ pos a *ℤ (pos b *ℤ w)
composed_weight a b w = ap (λ (n : ℤ). n *ℤ w) (sym (product_of_naturals a b)) ∙ *ℤ_assoc (pos a) (pos b) w

-- the image by one map after another is the image of the image
pub image_after_image : (a b : Affine) (p : Tuple) → image (composed a b) p ≡ image a (image b p)
image_after_image a b p = λ i. record {
  x = composed_value a.x b p i;
  y = composed_value a.y b p i;
  z = composed_value a.z b p i;
  w = composed_weight a.scale b.scale p.w i;
}

-- the determinant of a map after another
pub determinant_of_both : (a b : Affine) → determinant (composed a b) ≡ determinant a *ℤ determinant b
determinant_of_both a b =
    solve 21 (λ ax ay az bx by bz cx cy cz ux uy uz vx vy vz wx wy wz ao bo co.
    Det3 (ax ⊗ ux ⊕ ay ⊗ vx ⊕ az ⊗ wx ⊕ ao ⊗ num (pos 0)) (ax ⊗ uy ⊕ ay ⊗ vy ⊕ az ⊗ wy ⊕ ao ⊗ num (pos 0))
    (ax ⊗ uz ⊕ ay ⊗ vz ⊕ az ⊗ wz ⊕ ao ⊗ num (pos 0)) (bx ⊗ ux ⊕ by ⊗ vx ⊕ bz ⊗ wx ⊕ bo ⊗ num (pos 0))
    (bx ⊗ uy ⊕ by ⊗ vy ⊕ bz ⊗ wy ⊕ bo ⊗ num (pos 0)) (bx ⊗ uz ⊕ by ⊗ vz ⊕ bz ⊗ wz ⊕ bo ⊗ num (pos 0))
    (cx ⊗ ux ⊕ cy ⊗ vx ⊕ cz ⊗ wx ⊕ co ⊗ num (pos 0)) (cx ⊗ uy ⊕ cy ⊗ vy ⊕ cz ⊗ wy ⊕ co ⊗ num (pos 0))
    (cx ⊗ uz ⊕ cy ⊗ vz ⊕ cz ⊗ wz ⊕ co ⊗ num (pos 0))
    ≈ Det3 ax ay az bx by bz cx cy cz ⊗ Det3 ux uy uz vx vy vz wx wy wz) cancels
    a.x.x a.x.y a.x.z a.y.x a.y.y a.y.z a.z.x a.z.y a.z.z b.x.x b.x.y b.x.z b.y.x b.y.y b.y.z b.z.x b.z.y b.z.z
    a.x.offset a.y.offset a.z.offset

-- a product is 0 only if a factor is
not_nil : (s t : Sign) → is_nil s ≡ false → is_nil t ≡ false → is_nil (times s t) ≡ false
not_nil Neg Neg e f = refl
not_nil Neg Zero e f = f
not_nil Neg Pos e f = refl
not_nil Zero t e f = e
not_nil Pos t e f = f

-- two maps that keep space keep it one after another
pub space_is_kept : (a b : Affine) → is_flattening a ≡ false → is_flattening b ≡ false → is_flattening (composed a b) ≡ false
space_is_kept a b e f =
    ap is_zero (determinant_of_both a b) ∙ ap is_nil (sgn-mul (determinant a) (determinant b))
    ∙ not_nil (sgn (determinant a)) (sgn (determinant b)) e f

-- ---- as code composes maps, by the columns of the inner one
pub composed_by_columns : (r o : Row) (inner : Affine) (zero scale : ℤ) (x y z origin : Tuple) →
    r ≡ row (value_at o x) (value_at o y) (value_at o z) (value_at o origin) →
    x ≡ column inner.x.x inner.y.x inner.z.x zero → y ≡ column inner.x.y inner.y.y inner.z.y zero →
    z ≡ column inner.x.z inner.y.z inner.z.z zero → origin ≡ column inner.x.offset inner.y.offset inner.z.offset scale →
    zero ≡ pos 0 → scale ≡ pos inner.scale → r ≡ composed_row o inner
composed_by_columns r o inner zero scale x y z origin e ex ey ez eo none is =
    let fx : x ≡ column inner.x.x inner.y.x inner.z.x (pos 0) = ex ∙ ap (column inner.x.x inner.y.x inner.z.x) none in
    let fy : y ≡ column inner.x.y inner.y.y inner.z.y (pos 0) = ey ∙ ap (column inner.x.y inner.y.y inner.z.y) none in
    let fz : z ≡ column inner.x.z inner.y.z inner.z.z (pos 0) = ez ∙ ap (column inner.x.z inner.y.z inner.z.z) none in
    let fo : origin ≡ column inner.x.offset inner.y.offset inner.z.offset (pos inner.scale) =
    eo ∙ ap (column inner.x.offset inner.y.offset inner.z.offset) is in
    e ∙ (λ i. row (value_at o (fx i)) (value_at o (fy i)) (value_at o (fz i)) (value_at o (fo i)))

pub same_affine : (x x' y y' z z' : Row) (s s' : ℕ) → x ≡ x' → y ≡ y' → z ≡ z' → s ≡ s' →
    affine x y z s ≡ affine x' y' z' s'
same_affine x x' y y' z z' s s' ex ey ez es = λ i. affine (ex i) (ey i) (ez i) (es i)
