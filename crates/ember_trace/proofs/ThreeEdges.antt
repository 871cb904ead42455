-- What holds of three tests, one by one, as of the three edge planes of a triangle.
use Rattle.std.proofs.Common.{◌≡◌, sym, ap, ◌∙◌, Bool, true, ◌&&◌, Some, slice_get}
use Rattle.ember_algebra.specs.declared.Sign.{Sign}
use Rattle.ember_algebra.specs.Sign.{is_neg}
use Rattle.ember_algebra.proofs.Booleans.{same_some}
use Rattle.ember_model.specs.declared.plane.Plane.{Plane}
use Rattle.ember_model.specs.declared.point.Axis.{Axis}
use Rattle.ember_model.specs.declared.tri.Tri.{Tri}
use Rattle.ember_model.specs.Planes.{edge_planes}
use Rattle.ember_model.proofs.SignTests.{and_true}
use Rattle.ember_trace.specs.Lines.{all_behind}

-- as the code asks: the last two only if the ones before are behind
pub all_three : (side : Plane → Sign) (t : Tri) (k : Axis) (p q r : Plane) (x y z : Bool) →
    slice_get (edge_planes t k) 0 ≡ Some p → slice_get (edge_planes t k) 1 ≡ Some q →
    slice_get (edge_planes t k) 2 ≡ Some r → x ≡ is_neg (side p) → y ≡ is_neg (side q) → z ≡ is_neg (side r) →
    x && (y && z) ≡ all_behind side (edge_planes t k)
all_three side t k p q r x y z ep eq er ex ey ez =
    let a = ex ∙ ap (λ (h : Plane). is_neg (side h)) (sym (same_some ep)) in
    let b = ey ∙ ap (λ (h : Plane). is_neg (side h)) (sym (same_some eq)) in
    let c = ez ∙ ap (λ (h : Plane). is_neg (side h)) (sym (same_some er)) ∙ sym (and_true _) in
    λ i. a i && (b i && c i)

-- if the first two of three are true, the third decides
pub last_of_three : (x y z b : Bool) → x ≡ true → y ≡ true → x && (y && z) ≡ b → z ≡ b
last_of_three x y z b p q e = sym (λ i. p i && (q i && z)) ∙ e
