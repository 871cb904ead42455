-- Vertices at one position are one corner on the grid, so a closed surface is closed there
use Rattle.std.proofs.Common.{◌≡◌, ◌<◌, ℕ, zero, suc, ◌*◌, Bool, true, false, cond, List, [], ◌∷◌, Option, Some, None}
use Rattle.std.proofs.Common.{refl, sym, ap, subst, ◌∙◌, arith, ℤ, pos, ◌+ℤ◌, ◌-ℤ◌, ◌*ℤ◌, mul-pos}
use borrow.Author.Differences.{ints}
use Rattle.std.specs.Prelude.{slice_get}
use Rattle.std.specs.Int.{int_div_euclid}
use Rattle.std.proofs.lemmas.Bool.{and_parts, and_from}
use Rattle.ember_algebra.specs.Sign.{is_zero}
use Rattle.ember_algebra.proofs.Laws.{linear}
use Rattle.ember_algebra.proofs.Ring.{◌⊕◌, ◌⊗◌, ◌≈◌, solve, cancels}
use Rattle.mesh_number.specs.Number.Fractions.{Fraction}
use Rattle.mesh_number.specs.Number.Values.{value_of}
use Rattle.mesh_number.proofs.Denominators.{denominator_pos}
use Rattle.mesh_grid.specs.declared.snap.steps.GridStep.{GridStep}
use Rattle.mesh_grid.specs.Snap.Steps.{IsStep}
use Rattle.mesh_grid.specs.Snap.Cells.{scaled_number, scaled_half, cell_of, cell_at}
use Rattle.mesh_grid.proofs.Floors.{floor_chain, floor_is}
use Rattle.mesh_read.specs.declared.surface.surface.Vertex.{Vertex}
use Rattle.mesh_read.specs.declared.surface.surface.Surface.{Surface}
use Rattle.ember_model.specs.declared.point.Corner.{Corner}
use Rattle.ember_model.specs.Meshes.{IsBalanced}
use Rattle.ember_model.proofs.SignTests.{zero_out, clash}
use Rattle.mesh_grid.specs.declared.grid.grid.Grid.{Grid}
use Rattle.mesh_grid.specs.Grid.Corners.{corner_on, corner_from, corner_at}
use Rattle.mesh_grid.specs.Grid.Images.{images}
use Rattle.mesh_grid.specs.Grid.Closed.{is_same_number, is_same_position, first_at, position_from, position_of, IsSurfaceClosed}
use Rattle.mesh_grid.proofs.Maps.{map_keeps_closed}

-- a floor of a fraction that is multiplied above and below
floor_scaled : (a : ℤ) (k d : ℕ) → 0 < k → 0 < d → int_div_euclid (pos k *ℤ a) (pos (k * d)) ≡ int_div_euclid a (pos d)
floor_scaled a k d p q =
    let inner : int_div_euclid (pos k *ℤ a) (pos k) ≡ a = floor_is (pos k *ℤ a) a k p (omega (arith, linear)) (omega (arith, ints, linear, p)) in
    let chain = floor_chain (pos k *ℤ a) k 0 d p q in
    let none : pos k *ℤ a +ℤ pos (k * 0) ≡ pos k *ℤ a = omega (arith, ints, linear) in
    let more : a +ℤ pos 0 ≡ a = omega (arith, ints, linear) in
    sym (ap (λ (z : ℤ). int_div_euclid z (pos (k * d))) none) ∙ sym chain
    ∙ ap (λ (z : ℤ). int_div_euclid (z +ℤ pos 0) (pos d)) inner ∙ ap (λ (z : ℤ). int_div_euclid z (pos d)) more

-- equal numbers have one cell
pub same_cell : (s : GridStep) (v w : Fraction) → 0 < s.numerator → 0 < v.denominator → 0 < w.denominator → is_same_number v w ≡ true → cell_of s v ≡ cell_of s w
same_cell s v w n p q h =
    let zero = zero_out (v.numerator *ℤ pos w.denominator -ℤ w.numerator *ℤ pos v.denominator) h in
    let cross : v.numerator *ℤ pos w.denominator ≡ w.numerator *ℤ pos v.denominator = omega (arith, linear, zero) in
    let left = floor_scaled (scaled_number s v +ℤ scaled_half s v) w.denominator (v.denominator * (2 * s.numerator)) q (mul-pos p (omega arith)) in
    let right = floor_scaled (scaled_number s w +ℤ scaled_half s w) v.denominator (w.denominator * (2 * s.numerator)) p (mul-pos q (omega arith)) in
    let up : pos w.denominator *ℤ (scaled_number s v +ℤ scaled_half s v) ≡ pos v.denominator *ℤ (scaled_number s w +ℤ scaled_half s w) =
    let e = solve 5 (λ d n v w s. w ⊗ (d ⊗ n ⊕ v ⊗ s) ≈ d ⊗ (n ⊗ w) ⊕ v ⊗ w ⊗ s) cancels (pos (2 * s.denominator))
    v.numerator (pos v.denominator) (pos w.denominator) (pos s.numerator) in
    let f = solve 5 (λ d n v w s. v ⊗ (d ⊗ n ⊕ w ⊗ s) ≈ d ⊗ (n ⊗ v) ⊕ v ⊗ w ⊗ s) cancels (pos (2 * s.denominator))
    w.numerator (pos v.denominator) (pos w.denominator) (pos s.numerator) in
    e ∙ ap (λ (z : ℤ). pos (2 * s.denominator) *ℤ z +ℤ pos v.denominator *ℤ pos w.denominator *ℤ pos s.numerator) cross ∙ sym f in
    let under : w.denominator * (v.denominator * (2 * s.numerator)) ≡ v.denominator * (w.denominator * (2 * s.numerator)) = omega arith in
    sym left ∙ (λ i. int_div_euclid (up i) (pos (under i))) ∙ right

-- vertices of one position have one corner on a grid
pub same_corner_on : (g : Grid) (v w : Vertex) → IsStep g.step → is_same_position v w ≡ true → corner_on g v ≡ corner_on g w
unfolding cell_at
same_corner_on g v w s h =
    let p = and_parts _ _ h in
    let q = and_parts _ _ p.1 in
    let x = same_cell g.step (value_of v.x) (value_of w.x) s.numerator_positive (denominator_pos v.x) (denominator_pos w.x) p.0 in
    let y = same_cell g.step (value_of v.y) (value_of w.y) s.numerator_positive (denominator_pos v.y) (denominator_pos w.y) q.0 in
    let z = same_cell g.step (value_of v.z) (value_of w.z) s.numerator_positive (denominator_pos v.z) (denominator_pos w.z) q.1 in
    λ i. record { x = x i -ℤ g.offset.x; y = y i -ℤ g.offset.y; z = z i -ℤ g.offset.z }

-- ---- the first vertex at a position
-- a number is the same as itself
pub same_number-refl : (v : Fraction) → is_same_number v v ≡ true
same_number-refl v =
    let e : v.numerator *ℤ pos v.denominator -ℤ v.numerator *ℤ pos v.denominator ≡ pos 0 = omega (arith, linear) in ap is_zero e

-- a vertex has the same position as itself
pub same_position-refl : (v : Vertex) → is_same_position v v ≡ true
same_position-refl v =
    and_from _ _ (same_number-refl (value_of v.x)) (and_from _ _ (same_number-refl (value_of v.y)) (same_number-refl (value_of v.z)))

record IsThere (vs : List Vertex) (i : ℕ) (v : Vertex) : Type 0 where
  vertex : Vertex
  found : slice_get vs i ≡ Some vertex
  same : is_same_position vertex v ≡ true

some_out : {v w : Vertex} → Some v ≡ Some w → v ≡ w
some_out {v} {w} e = ap (out v) e
  where
    out : Vertex → Option Vertex → Vertex
    out d None = d
    out d (Some x) = x

first_is_there : (v : Vertex) (vs : List Vertex) (i : ℕ) → slice_get vs i ≡ Some v → IsThere vs (first_at v vs) v
first_is_there v [] i h = absurd (none_is_some h)
  where
    none_is_some : None ≡ Some v → ⊥
    none_is_some e = cc
first_is_there v (w ∷ ws) i h = by (is_same_position w v) refl i h (first_is_there v ws)
  where
    by : (b : Bool) → is_same_position w v ≡ b → (i : ℕ) → slice_get (w ∷ ws) i ≡ Some v →
        ((j : ℕ) → slice_get ws j ≡ Some v → IsThere ws (first_at v ws) v) →
        IsThere (w ∷ ws) (cond b 0 (suc (first_at v ws))) v
    by true e i h next = record { vertex = w; found = refl; same = e }
    by false e zero h next =
        absurd (clash (subst (λ (u : Vertex). is_same_position u v ≡ true) (sym (some_out h)) (same_position-refl v)) e)
    by false e (suc i) h next =
        let r = next i h in record { vertex = r.vertex; found = r.found; same = r.same }

position_keeps : (g : Grid) (vs : List Vertex) (i : ℕ) → IsStep g.step → corner_at g vs (position_of vs i) ≡ corner_at g vs i
position_keeps g vs i s = by (slice_get vs i) refl
  where
    by : (o : Option Vertex) → slice_get vs i ≡ o → corner_at g vs (position_from vs i o) ≡ corner_from g o
    by None e = ap (corner_from g) e
    by (Some v) e =
        let r = first_is_there v vs i e in ap (corner_from g) r.found ∙ same_corner_on g r.vertex v s r.same

-- a surface that is closed by its positions is closed on the grid
pub closed_on_grid : (g : Grid) (s : Surface) (mesh : ℕ) → IsStep g.step → IsSurfaceClosed s →
    IsBalanced (images (corner_at g s.vertices.items) mesh s.facets.items)
closed_on_grid g s mesh step h =
    let vs = s.vertices.items in
    let one : (λ (i : ℕ). corner_at g vs (position_of vs i)) ≡ (λ (i : ℕ). corner_at g vs i) = λ k i. position_keeps g vs i step k in
    subst (λ (at : ℕ → Corner). IsBalanced (images at mesh s.facets.items)) one (map_keeps_closed (position_of vs) (corner_at g vs) mesh s.facets.items h)
