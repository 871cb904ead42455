-- What the code of the test computes is what its definitions say.
use Rattle.std.proofs.Common.{◌≡◌, sym, ap, ◌∙◌, Bool, ◌&&◌, ℕ, List, get_or, neg_ℤ}
use Rattle.ember_algebra.specs.Sign.{is_zero}
use Rattle.ember_algebra.proofs.Exact.{◌&◌}
use Rattle.ember_model.specs.declared.plane.Plane.{Plane}
use Rattle.ember_model.specs.declared.tri.Tri.{Tri}
use Rattle.ember_model.specs.Faces.{is_flat}
use Rattle.ember_model.specs.Owners.{spot_of_corner}
use Rattle.ember_model.specs.Planes.{support_of, opposite}
use Rattle.ember_model.proofs.PlaneValues.{value-opposite}
use Rattle.ember_width.specs.declared.heights.Heights.{Heights}
use Rattle.ember_width.specs.Heights.{heights_of}

-- the values of the opposite plane
pub opposite_is : (p : Plane) (u : Tri) (v w : Heights) → v ≡ heights_of p u → w.a ≡ neg_ℤ v.a → w.b ≡ neg_ℤ v.b → w.c ≡ neg_ℤ v.c →
    w ≡ heights_of (opposite p) u
opposite_is p u v w e a b c =
    let x = a ∙ ap (λ (r : Heights). neg_ℤ r.a) e ∙ sym (value-opposite p (spot_of_corner u.a)) in
    let y = b ∙ ap (λ (r : Heights). neg_ℤ r.b) e ∙ sym (value-opposite p (spot_of_corner u.b)) in
    let z = c ∙ ap (λ (r : Heights). neg_ℤ r.c) e ∙ sym (value-opposite p (spot_of_corner u.c)) in
    λ i. record { a = x i; b = y i; c = z i }

-- the values of a plane of a list
pub values_at_index : (es fs : List Plane) (i : ℕ) (d : Plane) (u : Tri) (v : Heights) → v ≡ heights_of (get_or es i d) u → es ≡ fs →
    v ≡ heights_of (get_or fs i d) u
values_at_index es fs i d u v h e = h ∙ ap (λ (ps : List Plane). heights_of (get_or ps i d) u) e

-- the triangle with this support plane is flat
pub flat_is : (t : Tri) (n : Plane) (b : Bool) → n ≡ support_of t → b ≡ is_zero n.a && (is_zero n.b && is_zero n.c) → b ≡ is_flat t
unfolding is_flat
flat_is t n b e h = h ∙ ap (λ (p : Plane). is_zero p.a && (is_zero p.b && is_zero p.c)) e
