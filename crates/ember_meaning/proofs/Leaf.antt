-- In one leaf: the regions of a triangle that have x inside are one if x is in the half-open box
-- and inside the face, otherwise none.
use Rattle.std.proofs.Common.{◌≡◌, ℕ, ◌+◌, refl, ap, ◌∙◌, sym, subst, List, [], ◌∷◌, Bool, true, false, ◌&&◌, ◌||◌}
use Rattle.std.proofs.Common.{cond, zero, suc, ℤ, pos, negsuc, ◌-ℤ◌, ◌*ℤ◌, ◌<ℤ◌, ◌≤ℤ◌, arith}
use borrow.Author.Differences.{ints}
use Rattle.std.specs.Prelude.{int_le, int_lt}
use Rattle.std.specs.List.{list_all}
use Rattle.std.proofs.lemmas.Int.{by_lt_z}
use Rattle.ember_algebra.specs.Relations.{Each, Chain}
use Rattle.ember_algebra.specs.Sign.{is_zero, is_negative}
use Rattle.ember_algebra.proofs.Laws.{linear}
use Rattle.ember_algebra.proofs.Ring.{◌⊕◌, ◌⊖◌, ◌⊗◌, ◌≈◌, neg, num, solve, cancels}
use Rattle.ember_algebra.proofs.Numbers.{int_lt_in, int_lt_not, int_le_in}
use Rattle.ember_model.specs.declared.tri.Tri.{Tri}
use Rattle.ember_model.specs.declared.point.Spot.{Spot}
use Rattle.ember_model.specs.declared.point.Axis.{Axis}
use Rattle.ember_model.specs.declared.point.Axis.TheVariants.{X, Y, Z}
use Rattle.ember_model.specs.declared.face.Face.{Face}
use Rattle.ember_model.specs.Planes.{value_at, support_of}
use Rattle.ember_model.specs.Faces.{is_inside, is_flat, face_of}
use Rattle.ember_box.specs.Boxes.{Cell, low, high}
use Rattle.ember_box.specs.Near.{tri_at}
use Rattle.ember_box.specs.Sums.{number}
use Rattle.ember_box.specs.Regions.{AreLeftByWall, low_wall, high_wall, walls, IsRegions, cutting_planes}
use Rattle.ember_ref.proofs.NearPoints.{coordinate}
use Rattle.ember_meaning.proofs.CountedPoints.{hits, passes, is_in_box, IsFair}
use Rattle.ember_meaning.proofs.RegionsPartition.{cutting_planes_count, start_count}

-- ---- the walls are the half-open box
not_le : (l x : ℤ) → x <ℤ l → int_le l x ≡ false
not_le l x h = grind (arith, ints)

at_most_test : (v : ℤ) → v ≤ℤ pos 0 → (is_negative v || (true && is_zero v)) ≡ true
at_most_test (pos zero) h = refl
at_most_test (pos (suc n)) h = absurd (omega (arith, ints))
at_most_test (negsuc n) h = refl

above_test : (v : ℤ) → pos 0 <ℤ v → (is_negative v || (true && is_zero v)) ≡ false
above_test (pos zero) h = absurd (omega (arith, ints))
above_test (pos (suc n)) h = refl
above_test (negsuc n) h = absurd (omega (arith, ints))

below_test : (v : ℤ) → v <ℤ pos 0 → (is_negative v || (false && is_zero v)) ≡ true
below_test (pos n) h = absurd (omega (arith, ints))
below_test (negsuc n) h = refl

at_least_test : (v : ℤ) → pos 0 ≤ℤ v → (is_negative v || (false && is_zero v)) ≡ false
at_least_test (pos zero) h = refl
at_least_test (pos (suc n)) h = refl
at_least_test (negsuc n) h = absurd (omega (arith, ints))

low_test : (v l x : ℤ) → v ≡ l -ℤ x → (is_negative v || (true && is_zero v)) ≡ int_le l x
low_test v l x e =
    by_lt_z x l (λ h. above_test v (omega (arith, linear)) ∙ sym (not_le l x h)) (λ h. at_most_test v (omega (arith, linear)) ∙ sym (int_le_in l x h))

high_test : (v h x : ℤ) → v ≡ x -ℤ h → (is_negative v || (false && is_zero v)) ≡ int_lt x h
high_test v h x e =
    by_lt_z x h (λ l. below_test v (omega (arith, linear)) ∙ sym (int_lt_in x h l)) (λ l. at_least_test v (omega (arith, linear)) ∙ sym (int_lt_not x h l))

low_passes : (c : Cell) (k : Axis) (x : Spot) → passes x (low_wall c k) ≡ int_le (low c k *ℤ x.w) (coordinate k x)
low_passes c X x =
    low_test (value_at (low_wall c X).plane x) (low c X *ℤ x.w) x.x
    (solve 5 (λ l x y z w. num (negsuc 0) ⊗ x ⊕ num (pos 0) ⊗ y ⊕ num (pos 0) ⊗ z ⊖ neg l ⊗ w ≈ l ⊗ w ⊖ x) cancels
    c.lo.x x.x x.y x.z x.w)
low_passes c Y x =
    low_test (value_at (low_wall c Y).plane x) (low c Y *ℤ x.w) x.y
    (solve 5 (λ l x y z w. num (pos 0) ⊗ x ⊕ num (negsuc 0) ⊗ y ⊕ num (pos 0) ⊗ z ⊖ neg l ⊗ w ≈ l ⊗ w ⊖ y) cancels
    c.lo.y x.x x.y x.z x.w)
low_passes c Z x =
    low_test (value_at (low_wall c Z).plane x) (low c Z *ℤ x.w) x.z
    (solve 5 (λ l x y z w. num (pos 0) ⊗ x ⊕ num (pos 0) ⊗ y ⊕ num (negsuc 0) ⊗ z ⊖ neg l ⊗ w ≈ l ⊗ w ⊖ z) cancels
    c.lo.z x.x x.y x.z x.w)

high_passes : (c : Cell) (k : Axis) (x : Spot) → passes x (high_wall c k) ≡ int_lt (coordinate k x) (high c k *ℤ x.w)
high_passes c X x =
    high_test (value_at (high_wall c X).plane x) (high c X *ℤ x.w) x.x
    (solve 5 (λ h x y z w. num (pos 1) ⊗ x ⊕ num (pos 0) ⊗ y ⊕ num (pos 0) ⊗ z ⊖ h ⊗ w ≈ x ⊖ h ⊗ w) cancels (high c X)
    x.x x.y x.z x.w)
high_passes c Y x =
    high_test (value_at (high_wall c Y).plane x) (high c Y *ℤ x.w) x.y
    (solve 5 (λ h x y z w. num (pos 0) ⊗ x ⊕ num (pos 1) ⊗ y ⊕ num (pos 0) ⊗ z ⊖ h ⊗ w ≈ y ⊖ h ⊗ w) cancels (high c Y)
    x.x x.y x.z x.w)
high_passes c Z x =
    high_test (value_at (high_wall c Z).plane x) (high c Z *ℤ x.w) x.z
    (solve 5 (λ h x y z w. num (pos 0) ⊗ x ⊕ num (pos 0) ⊗ y ⊕ num (pos 1) ⊗ z ⊖ h ⊗ w ≈ z ⊖ h ⊗ w) cancels (high c Z)
    x.x x.y x.z x.w)

regroup : (a b c d e f : Bool) → (a && (b && (c && (d && (e && (f && true)))))) ≡ ((a && b) && ((c && d) && (e && f)))
regroup false b c d e f = refl
regroup true false c d e f = refl
regroup true true false d e f = refl
regroup true true true false e f = refl
regroup true true true true false f = refl
regroup true true true true true false = refl
regroup true true true true true true = refl

walls_box : (c : Cell) (x : Spot) → list_all (λ w. passes x w) (walls c) ≡ is_in_box c x
walls_box c x =
    regroup (passes x (low_wall c X)) (passes x (high_wall c X)) (passes x (low_wall c Y)) (passes x (high_wall c Y))
    (passes x (low_wall c Z)) (passes x (high_wall c Z))
    ∙ six (low_passes c X x) (high_passes c X x) (low_passes c Y x) (high_passes c Y x) (low_passes c Z x)
    (high_passes c Z x)
  where
    six : {a b c d e f a' b' c' d' e' f' : Bool} → a ≡ a' → b ≡ b' → c ≡ c' → d ≡ d' → e ≡ e' → f ≡ f' →
        ((a && b) && ((c && d) && (e && f))) ≡ ((a' && b') && ((c' && d') && (e' && f')))
    six a b c d e f = cc

-- ---- one leaf
pub leaf_count : (c : Cell) (ts : List Tri) (i : ℕ) (x : Spot) (fs : List Face) → is_flat (tri_at ts i) ≡ false →
    IsFair c ts i x → IsRegions c ts i fs → hits x fs ≡ number (is_in_box c x && is_inside (face_of (tri_at ts i)) x)
unfolding face_of
leaf_count c ts i x fs e fair r =
    let t = tri_at ts i in
    let begun = subst (λ b. Chain (λ w. Each (AreLeftByWall w)) (walls c) (elim b [ true ↦ [] | false ↦ face_of t ∷ [] ]) r.start) e r.is_start in
    let k = start_count x (support_of t) (walls c) (face_of t ∷ []) r.start fair.walls (refl, tt) begun in
    let m = cutting_planes_count x (support_of t) (cutting_planes ts i) r.start fs fair.cutting_planes k.0 r.cuts in
    m.1 ∙ k.1 ∙ ap (λ b. cond b (hits x (face_of t ∷ [])) 0) (walls_box c x) ∙ one (is_in_box c x) (is_inside (face_of t) x)
  where
    one : (a b : Bool) → cond a (0 + number b) 0 ≡ number (a && b)
    one true true = refl
    one true false = refl
    one false b = refl
