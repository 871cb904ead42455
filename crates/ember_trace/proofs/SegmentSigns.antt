-- A segment along an axis crosses a triangle as the signs of the planes at its ends tell.
use Rattle.std.proofs.Common.{◌≡◌, refl, ap, ◌∙◌, arith, ℕ, zero, suc, ◌*◌, ◌≤◌, Bool, true, false, ◌&&◌, cond}
use Rattle.std.proofs.Common.{ℤ, pos, ◌+ℤ◌, ◌-ℤ◌, ◌*ℤ◌, neg_ℤ, ◌<ℤ◌, ◌≤ℤ◌}
use borrow.Author.Differences.{ints}
use Rattle.ember_algebra.specs.Vector.{Vector}
use Rattle.ember_algebra.specs.declared.Sign.{Sign}
use Rattle.ember_algebra.specs.declared.Sign.TheVariants.{Neg, Zero, Pos}
use Rattle.ember_algebra.specs.Sign.{sign, sgn, times, number, is_neg}
use Rattle.ember_algebra.proofs.Laws.{linear}
use Rattle.ember_algebra.proofs.Order.{pos_mul, mul_le}
use Rattle.ember_algebra.proofs.Ring.{◌⊕◌, ◌⊖◌, ◌⊗◌, ◌≈◌, num, solve, cancels}
use Rattle.ember_algebra.proofs.Signs.{sgn-mul}
use Rattle.ember_model.specs.declared.point.Spot.{Spot}
use Rattle.ember_model.specs.declared.point.Axis.{Axis}
use Rattle.ember_model.specs.declared.point.Axis.TheVariants.{X, Y, Z}
use Rattle.ember_model.specs.declared.plane.Plane.{Plane}
use Rattle.ember_model.specs.declared.tri.Tri.{Tri}
use Rattle.ember_model.specs.declared.point.Corner.{Corner}
use Rattle.ember_model.specs.Planes.{unit, value_at, along, support_of, edge_through, edge_planes, times_plane}
use Rattle.ember_model.specs.Points.{DifferAlong}
use Rattle.ember_model.specs.Within.{IsCornerWithin, IsTriWithin, IsSupportWithin, IsEdgeWithin}
use Rattle.ember_model.specs.Faces.{face_of, leg}
use Rattle.ember_model.specs.ClearTest.{all_negative}
use Rattle.ember_model.proofs.SignTests.{negative_out}
use Rattle.ember_model.proofs.PlaneValues.{sign-number}
use Rattle.ember_model.proofs.PlaneSizes.{edge_within, sign_small}
use Rattle.ember_model.proofs.LegSigns.{leg_is}
use Rattle.ember_algebra.proofs.Size.{small_within}
use Rattle.ember_algebra.proofs.Booleans.{cond_and_nested}
use Rattle.ember_ref.proofs.NearPoints.{coordinate as along_point}
use Rattle.ember_trace.specs.Paths.{coordinate, first_of, second_of}
use Rattle.ember_trace.specs.Lines.{all_behind}
use Rattle.ember_trace.specs.Crossings.{signed_crossing}
use Rattle.ember_trace.proofs.PathVertices.{entries}
use Rattle.ember_trace.proofs.VertexSides.{stop_at_start}
use Rattle.ember_trace.proofs.SegmentsPast.{across}

-- ---- where the path starts
-- the square and the cube of a number from 2 on
pub record ArePowers (m : ℤ) : Type 0 where
  pub square : pos 0 <ℤ (m *ℤ m)
  pub square_below : (m *ℤ m) <ℤ (m *ℤ m *ℤ m)
  pub below : m <ℤ (m *ℤ m *ℤ m)
  pub one_below : pos 1 <ℤ (m *ℤ m *ℤ m)

-- they are in order
pub powers : (m : ℤ) → pos 2 ≤ℤ m → ArePowers m
powers m l =
    let p : pos 0 <ℤ m = omega (arith, linear, l) in let z : pos 0 ≤ℤ m = omega (arith, linear, l) in
    let sq = pos_mul p p in let zs : pos 0 ≤ℤ (m *ℤ m) = omega (arith, linear, sq) in
    let a = mul_le z l in let b = mul_le zs l in
    let two : m *ℤ pos 2 ≡ m +ℤ m = solve 1 (λ m. m ⊗ num (pos 2) ≈ m ⊕ m) cancels m in
    let four : m *ℤ m *ℤ pos 2 ≡ m *ℤ m +ℤ m *ℤ m = solve 1 (λ m. m ⊗ m ⊗ num (pos 2) ≈ m ⊗ m ⊕ m ⊗ m) cancels m in
    record {
      square = sq;
      square_below = omega (arith, linear, b, four, sq);
      below =
          omega (arith, linear, a, b, two, four, l);
      one_below = omega (arith, linear, a, b, two, four, l);
    }

-- y / w lies between a whole number and the next
pub record IsAbove (at y w : ℤ) : Type 0 where
  pub from : (at *ℤ w) <ℤ y
  pub to : y <ℤ ((at +ℤ pos 1) *ℤ w)

above : (at m e : ℤ) → pos 0 <ℤ e → e <ℤ m → IsAbove at (m *ℤ at +ℤ e) (m *ℤ pos 1)
above at m e l h =
    let x = solve 2 (λ a m. a ⊗ (m ⊗ num (pos 1)) ≈ m ⊗ a) cancels at m in let y =
    solve 2 (λ a m. (a ⊕ num (pos 1)) ⊗ (m ⊗ num (pos 1)) ≈ m ⊗ a ⊕ m) cancels at m in
    record { from = omega (arith, linear, x, l); to = omega (arith, linear, y, h) }

pub start_above : (lo : Vector) (n : ℕ) (k : Axis) → 2 ≤ n →
    IsAbove (coordinate (entries lo) k) (along_point k (stop_at_start lo n)) (stop_at_start lo n).w
start_above lo n k l = by k
  where
    p : ArePowers (pos n)
    p = powers (pos n) (omega (arith, ints, l))

    by : (k : Axis) → IsAbove (coordinate (entries lo) k) (along_point k (stop_at_start lo n)) (stop_at_start lo n).w
    by X = above lo.x (pos n *ℤ pos n *ℤ pos n) (pos n *ℤ pos n) p.square p.square_below
    by Y = above lo.y (pos n *ℤ pos n *ℤ pos n) (pos n) (omega (arith, ints, l)) p.below
    by Z = above lo.z (pos n *ℤ pos n *ℤ pos n) (pos 1) (omega (arith, ints)) p.one_below

-- ---- axes of a path are three
-- a vector across an axis has no part along the next one
pub across_first : (k : Axis) (s d : ℤ) → along (across k s d) (first_of k) ≡ pos 0
across_first X s d = refl
across_first Y s d = refl
across_first Z s d = refl

-- nor along the one after it
pub across_second : (k : Axis) (s d : ℤ) → along (across k s d) (second_of k) ≡ pos 0
across_second X s d = refl
across_second Y s d = refl
across_second Z s d = refl

-- a vector across the axis after the next one
pub second_first : (k : Axis) (s d : ℤ) → along (across (second_of k) s d) (first_of k) ≡ pos 0
second_first X s d = refl
second_first Y s d = refl
second_first Z s d = refl

-- a vector across the next axis
pub first_second : (k : Axis) (s d : ℤ) → along (across (first_of k) s d) (second_of k) ≡ pos 0
first_second X s d = refl
first_second Y s d = refl
first_second Z s d = refl

-- ---- the edge planes along an axis
pub edge_level : (s : ℤ) (u v : Corner) (k : Axis) → along (times_plane s (edge_through u v (unit k))) k ≡ pos 0
edge_level s u v X = solve 3 (λ s y z. s ⊗ (y ⊗ num (pos 0) ⊖ z ⊗ num (pos 0)) ≈ num (pos 0)) cancels s (v.y -ℤ u.y) (v.z -ℤ u.z)
edge_level s u v Y = solve 3 (λ s z x. s ⊗ (z ⊗ num (pos 0) ⊖ x ⊗ num (pos 0)) ≈ num (pos 0)) cancels s (v.z -ℤ u.z) (v.x -ℤ u.x)
edge_level s u v Z = solve 3 (λ s x y. s ⊗ (x ⊗ num (pos 0) ⊖ y ⊗ num (pos 0)) ≈ num (pos 0)) cancels s (v.x -ℤ u.x) (v.y -ℤ u.y)

-- a number is at most its square, and that at most its cube
own_square : (m : ℕ) → m ≤ m * m
own_square zero = omega arith
own_square (suc m) = omega arith

own_cube : (m : ℕ) → m * m ≤ m * (m * m)
own_cube zero = omega arith
own_cube (suc m) = omega arith

-- an edge plane is within the bounds of a support plane
pub edge_support : {m : ℕ} {p : Plane} → IsEdgeWithin m p → IsSupportWithin m p
edge_support {m} s =
    let q = own_square m in let r = own_cube m in
    record {
      a = small_within (omega (arith, q)) s.a;
      b = small_within (omega (arith, q)) s.b;
      c = small_within (omega (arith, q)) s.c;
      d = small_within (omega (arith, r)) s.d;
    }

-- all edge planes are negative at p if the sides say so
pub edges_behind : {m : ℕ} (side : Plane → Sign) (t : Tri) (k : Axis) (p : Spot) → IsTriWithin m t →
    ((h : Plane) → IsSupportWithin m h → along h k ≡ pos 0 → sgn (value_at h p) ≡ side h) →
    all_negative (edge_planes t k) p ≡ all_behind side (edge_planes t k)
edges_behind {m} side t k p v f =
    let x = each t.a t.b v.a v.b in let y = each t.b t.c v.b v.c in let z = each t.c t.a v.c v.a in
    λ i. is_neg (x i) && (is_neg (y i) && (is_neg (z i) && true))
  where
    s : ℤ
    s = sign (along (support_of t) k)

    each : (u w : Corner) → IsCornerWithin m u → IsCornerWithin m w →
        sgn (value_at (times_plane s (edge_through u w (unit k))) p) ≡ side (times_plane s (edge_through u w (unit k)))
    each u w iu iw =
        f (times_plane s (edge_through u w (unit k))) (edge_support (edge_within m u w k s iu iw (sign_small (along (support_of t) k)))) (edge_level s u w k)

-- ---- a segment by signs
-- a leg, by the signs of its ends
pub told : (k : Axis) (p q : Spot) (t : Tri) (b : Bool) (s e : Sign) → pos 0 <ℤ p.w → pos 0 <ℤ q.w → DifferAlong k p q →
    sgn (value_at (support_of t) p) ≡ s → sgn (value_at (support_of t) q) ≡ e → all_negative (edge_planes t k) p ≡ b →
    leg (face_of t) p q ≡ cond b (signed_crossing s e) (pos 0)
told k p q t b s e wp wq d es ee eb =
    let x = value_at (support_of t) p in let y = value_at (support_of t) q in
    let m = ap is_neg (sgn-mul x y) ∙ (λ i. is_neg (times (es i) (ee i))) in let f = sign-number y ∙ ap number ee in
    leg_is k p q t wp wq d ∙ (λ i. cond (m i && eb i) (f i) (pos 0)) ∙ cond_and_nested (is_neg (times s e)) b (number e)

back : (s e : Sign) → signed_crossing e s ≡ neg_ℤ (signed_crossing s e)
back Neg Neg = refl
back Neg Zero = refl
back Neg Pos = refl
back Zero Neg = refl
back Zero Zero = refl
back Zero Pos = refl
back Pos Neg = refl
back Pos Zero = refl
back Pos Pos = refl

-- the same leg backwards
pub told_back : (b : Bool) (s e : Sign) (g : ℤ) → g ≡ cond b (signed_crossing e s) (pos 0) → g ≡ neg_ℤ (cond b (signed_crossing s e) (pos 0))
told_back true s e g h = h ∙ back s e
told_back false s e g h = h

-- ---- tests that leave out what doesn't count
-- a crossing that a test leaves out
pub tested : (f b : Bool) (v g : ℤ) → g ≡ neg_ℤ (cond b v (pos 0)) → (f ≡ false → g ≡ pos 0) → g ≡ neg_ℤ (cond (f && b) v (pos 0))
tested true b v g h n = h
tested false b v g h n = n refl

-- two crossings that one test leaves out
pub both : (f : Bool) (v u g h : ℤ) → g ≡ neg_ℤ v → h ≡ neg_ℤ u → (f ≡ false → g ≡ pos 0) → (f ≡ false → h ≡ pos 0) → g +ℤ h ≡ neg_ℤ (cond f (v +ℤ u) (pos 0))
both true v u g h e d n m = omega (arith, linear, e, d)
both false v u g h e d n m = let x = n refl in let y = m refl in omega (arith, linear, x, y)

-- one of two tests fails
pub either_test : {P : Type 0} (f g : Bool) → (f ≡ false → P) → (g ≡ false → P) → f && g ≡ false → P
either_test true g x y e = y e
either_test false g x y e = x refl

-- a number with the sign `Neg` is below 0
pub negative_sign : (z : ℤ) → sgn z ≡ Neg → z <ℤ pos 0
negative_sign z e = negative_out z (ap is_neg e)
