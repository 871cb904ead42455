-- The greatest square of vertices that have a mark is that of triangles
use Rattle.std.proofs.Common.{◌≡◌, ◌⊎◌, inl, inr, ◌≤◌, ◌<◌, ℕ, ◌+◌, Bool, true, false, cond, max, List, [], ◌∷◌, Some}
use Rattle.std.proofs.Common.{length, get_or, refl, sym, ap, subst, ◌∙◌, arith}
use Rattle.std.specs.List.{All}
use Rattle.std.proofs.lemmas.Bool.{cases_eq, cases_lt, true≢false}
use Rattle.std.proofs.lemmas.List.Elements.{All-nil, All-cons, All-head, All-tail, All-weaker}
use Rattle.std.proofs.lemmas.Option.{slice_get-get_or, slice_get_past}
use Rattle.std.proofs.Math.Nat.{le-max_left, le-max_right, max-le}
use Rattle.mesh_grid.specs.declared.snap.steps.GridStep.{GridStep}
use Rattle.mesh_read.specs.declared.surface.surface.Vertex.{Vertex}
use Rattle.mesh_read.specs.declared.surface.surface.Facet.{Facet}
use Rattle.mesh_read.specs.declared.surface.surface.Surface.{Surface}
use Rattle.mesh_grid.specs.Grid.Marks.{indices_in, HasThreeCorners, AreMarksOf}
use Rattle.mesh_grid.proofs.JoinedLists.{all_out}
use Rattle.mesh_grid.proofs.CornerMarks.{three_corners, marks_hold}
use Rattle.mesh_grid.specs.Moves.Greatest.{square_of, square_from, square_at, facet_square, greatest_square}
use Rattle.mesh_grid.proofs.GreatestSquares.{none_is_greater}

module _ (s : GridStep) (fineness : ℕ) (vertices : List Vertex) where
  -- no corner of a triangle has a square above the triangle's
  corners_below : (f : Facet) → HasThreeCorners f → All (λ corner. square_at s fineness vertices corner ≤ facet_square s fineness vertices f) f.corners
  corners_below f three =
      let at = λ (k : ℕ). square_at s fineness vertices (get_or f.corners k 0) in
      let IsBelow = λ (corner : ℕ). square_at s fineness vertices corner ≤ facet_square s fineness vertices f in
      let both = le-max_left (max (at 0) (at 1)) (at 2) in
      let a : at 0 ≤ facet_square s fineness vertices f = omega (arith, le-max_left (at 0) (at 1), both) in
      let b : at 1 ≤ facet_square s fineness vertices f = omega (arith, le-max_right (at 0) (at 1), both) in
      let c : at 2 ≤ facet_square s fineness vertices f = le-max_right (max (at 0) (at 1)) (at 2) in
      let second = get_or f.corners 1 0 in
      let third = get_or f.corners 2 0 in
      let last = All-cons IsBelow third [] c (All-nil IsBelow) in
      let two = All-cons IsBelow second (third ∷ []) b last in
      subst (All IsBelow) (three_corners f.corners three) (All-cons IsBelow (get_or f.corners 0 0) (second ∷ third ∷ []) a two)

  all_corners_below : (fs : List Facet) → All HasThreeCorners fs →
      All (λ f. All (λ corner. square_at s fineness vertices corner ≤ greatest_square s fineness vertices fs) f.corners)
      fs
  all_corners_below fs three i d less =
      let f = get_or fs i d in
      let greatest = none_is_greater s fineness vertices fs i d less in
      All-weaker (λ corner. square_at s fineness vertices corner ≤ facet_square s fineness vertices f)
      (λ corner. square_at s fineness vertices corner ≤ greatest_square s fineness vertices fs)
      (λ corner h. omega (arith, h, greatest)) f.corners (corners_below f (three i d less))

  -- what no corner is above, no triangle is
  facet_at_most : (f : Facet) (most : ℕ) → HasThreeCorners f →
      All (λ corner. square_at s fineness vertices corner ≤ most) f.corners → facet_square s fineness vertices f ≤ most
  facet_at_most f most three h =
      max-le (max-le (h 0 0 (omega (arith, three))) (h 1 0 (omega (arith, three)))) (h 2 0 (omega (arith, three)))

  greatest_at_most : (fs : List Facet) (most : ℕ) → All HasThreeCorners fs →
      All (λ f. All (λ corner. square_at s fineness vertices corner ≤ most) f.corners) fs →
      greatest_square s fineness vertices fs ≤ most
  greatest_at_most [] most three h = omega arith
  greatest_at_most (f ∷ fs) most three h =
      max-le (facet_at_most f most (All-head HasThreeCorners f fs three)
      (All-head (λ g. All (λ corner. square_at s fineness vertices corner ≤ most) g.corners) f fs h))
      (greatest_at_most fs most (All-tail HasThreeCorners f fs three)
      (All-tail (λ g. All (λ corner. square_at s fineness vertices corner ≤ most) g.corners) f fs h))

-- the greatest of the first i vertices that have a mark
pub record IsFirstGreatest (s : GridStep) (fineness : ℕ) (surface : Surface) (marks : List Bool) (i greatest : ℕ) : Type 0 where
  pub above : (k : ℕ) → k < i → get_or marks k false ≡ true → square_at s fineness surface.vertices.items k ≤ greatest
  pub below : greatest ≤ greatest_square s fineness surface.vertices.items surface.facets.items

pub first_none : (s : GridStep) (fineness : ℕ) (surface : Surface) (marks : List Bool) → IsFirstGreatest s fineness surface marks 0 0
first_none s fineness surface marks =
    record { above = λ k l e. absurd (omega (arith, l)); below = omega arith }

-- one vertex more
pub first_more : (s : GridStep) (fineness : ℕ) (surface : Surface) (marks : List Bool) (i old new : ℕ) (v : Vertex) →
    AreMarksOf surface marks → All HasThreeCorners surface.facets.items → i < length surface.vertices.items →
    v ≡ get_or surface.vertices.items i v → new ≡ cond (get_or marks i false) (max old (square_of s fineness v)) old →
    IsFirstGreatest s fineness surface marks i old → IsFirstGreatest s fineness surface marks (i + 1) new
first_more s fineness surface marks i old new v m three less is e h = by (get_or marks i false) refl e
  where
    vs : List Vertex
    vs = surface.vertices.items

    here : square_at s fineness vs i ≡ square_of s fineness v
    here = ap (square_from s fineness) (slice_get-get_or vs i v less ∙ ap Some (sym is))

    higher : (k : ℕ) → old ≤ new → (get_or marks i false ≡ true → square_at s fineness vs i ≤ new) → k < i + 1 →
        get_or marks k false ≡ true → (k ≡ i) ⊎ (k ≡ i → ⊥) → square_at s fineness vs k ≤ new
    higher k more last l t (inl same) =
        subst (λ (j : ℕ). square_at s fineness vs j ≤ new) (sym same) (last (subst (λ (j : ℕ). get_or marks j false ≡ true) same t))
    higher k more last l t (inr other) = omega (arith, h.above k (omega (arith, l, other)) t, more)

    by : (b : Bool) → get_or marks i false ≡ b → new ≡ cond b (max old (square_of s fineness v)) old → IsFirstGreatest s fineness surface marks (i + 1) new
    by true t e =
        let left = le-max_left old (square_of s fineness v) in
        let right = le-max_right old (square_of s fineness v) in
        let square : square_of s fineness v ≤ greatest_square s fineness vs surface.facets.items =
        subst (λ (n : ℕ). n ≤ greatest_square s fineness vs surface.facets.items) here
        (marks_hold (λ k. square_at s fineness vs k ≤ greatest_square s fineness vs surface.facets.items) surface
        marks i m (all_corners_below s fineness vs surface.facets.items three) t) in
        let most : max old (square_of s fineness v) ≤ greatest_square s fineness vs surface.facets.items = max-le h.below square in
        record {
          above = λ k l u. higher k (omega (arith, left, e)) (λ _. omega (arith, right, here, e)) l u (cases_eq k i);
          below = omega (arith, most, e);
        }
    by false t e = record {
      above = λ k l u. higher k (omega (arith, e)) (λ w. absurd (true≢false (sym w ∙ t))) l u (cases_eq k i);
      below = omega (arith, h.below, e);
    }

-- all vertices
pub first_all : (s : GridStep) (fineness : ℕ) (surface : Surface) (marks : List Bool) (i greatest : ℕ) →
    AreMarksOf surface marks → All HasThreeCorners surface.facets.items → length surface.vertices.items ≤ i →
    IsFirstGreatest s fineness surface marks i greatest →
    greatest ≡ greatest_square s fineness surface.vertices.items surface.facets.items
first_all s fineness surface marks i greatest m three all h =
    let vs = surface.vertices.items in
    let corners = All-weaker (λ k. k < length vs →
    get_or marks k false ≡ true) (λ k. square_at s fineness vs k ≤ greatest)
    (λ k t. by k t (cases_lt k (length surface.vertices.items))) (indices_in surface.facets.items) m.marked in
    let most = greatest_at_most s fineness vs surface.facets.items greatest three
    (all_out (λ k. square_at s fineness vs k ≤ greatest) (λ f. f.corners) surface.facets.items corners) in
    omega (arith, most, h.below)
  where
    by : (k : ℕ) → (k < length surface.vertices.items → get_or marks k false ≡ true) →
        (k < length surface.vertices.items) ⊎ (length surface.vertices.items ≤ k) →
        square_at s fineness surface.vertices.items k ≤ greatest
    by k t (inl less) = h.above k (omega (arith, less, all)) (t less)
    by k t (inr past) =
        let none : square_at s fineness surface.vertices.items k ≡ 0 =
        ap (square_from s fineness) (slice_get_past surface.vertices.items k past) in omega (arith, none)
