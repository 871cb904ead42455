-- Tests of a sign, and the insides of the two parts of a face.
use Rattle.std.proofs.Common.{◌≡◌, zero, suc, refl, ap, ◌∙◌, [], ◌∷◌, Bool, true, false, ◌&&◌, ℤ, pos, negsuc}
use Rattle.std.specs.List.{list_all}
use Rattle.std.proofs.lemmas.List.Folds.{list_all-append}
use Rattle.std.proofs.lemmas.Bool.{and_parts}
use Rattle.ember_algebra.specs.Sign.{is_positive, is_zero, is_negative}
use Rattle.ember_model.specs.declared.plane.Plane.{Plane}
use Rattle.ember_model.specs.declared.point.Spot.{Spot}
use Rattle.ember_model.specs.declared.face.Face.{Face}
use Rattle.ember_model.specs.Planes.{value_at, opposite}
use Rattle.ember_model.specs.Faces.{is_inside, below, above}
use Rattle.ember_model.proofs.SignTests.{is_negative-neg}
use Rattle.ember_model.proofs.PlaneValues.{value-opposite}

-- ---- one of three
pub by_tests : {P : Type 0} (z : ℤ) → (is_positive z ≡ true → P) → (is_zero z ≡ true → P) → (is_negative z ≡ true → P) → P
by_tests (pos zero) f g h = g refl
by_tests (pos (suc n)) f g h = f refl
by_tests (negsuc n) f g h = h refl

-- ---- a plane appended
and_end : (a b c d : Bool) → (a && (b && (c && (d && true)))) ≡ ((a && (b && c)) && d)
and_end true true true true = refl
and_end true true true false = refl
and_end true true false d = refl
and_end true false c d = refl
and_end false b c d = refl

-- inside the part below: inside the face, and below the plane
pub is_inside-below : (f : Face) (p : Plane) (v : Spot) → is_inside (below f p) v ≡ (is_inside f v && is_negative (value_at p v))
is_inside-below f p v =
    rw (list_all-append (λ e. is_negative (value_at e v)) f.edges (p ∷ []))
    (and_end (is_positive v.w) (is_zero (value_at f.support v)) (list_all (λ e. is_negative (value_at e v)) f.edges)
    (is_negative (value_at p v)))

-- a point is inside the part above a plane exactly if it is inside the face and above the plane
pub is_inside-above : (f : Face) (p : Plane) (v : Spot) → is_inside (above f p) v ≡ (is_inside f v && is_positive (value_at p v))
is_inside-above f p v =
    is_inside-below f (opposite p) v ∙ ap (λ b. is_inside f v && b) (ap is_negative (value-opposite p v) ∙ is_negative-neg (value_at p v))

-- an inside point lies on the support plane
pub on_support : (f : Face) (v : Spot) → is_inside f v ≡ true → is_zero (value_at f.support v) ≡ true
on_support f v e =
    (and_parts (is_zero (value_at f.support v)) (list_all (λ e. is_negative (value_at e v)) f.edges)
    (and_parts (is_positive v.w) (is_zero (value_at f.support v)
    && list_all (λ e. is_negative (value_at e v)) f.edges) e).1).0
