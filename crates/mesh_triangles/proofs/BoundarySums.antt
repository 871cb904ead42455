-- Boundaries of lists of segments
use Rattle.std.proofs.Common.{◌≡◌, ℕ, Bool, true, false, ◌&&◌, cond, List, [], ◌∷◌, ◌++◌, ℤ, pos, ◌+ℤ◌, refl, sym, ap, ◌∙◌, arith, eqb}
use Rattle.std.specs.List.{All}
use Rattle.std.specs.List.Sorted.{IsPermutation}
use Rattle.std.proofs.lemmas.Bool.{eq-eqb}
use Rattle.std.proofs.lemmas.List.Elements.{All-head, All-tail}
use Rattle.ember_algebra.specs.Sums.{total}
use Rattle.ember_algebra.proofs.Laws.{linear}
use Rattle.ember_algebra.proofs.Sums.{total-append, total-filter}
use Rattle.mesh_certificate.specs.declared.certificate.segment.Segment.{Segment}
use Rattle.mesh_certificate.specs.Certificate.Chains.{is_on, boundary}
use Rattle.mesh_certificate.proofs.Boundaries.{ended_at}
use Rattle.mesh_triangles.specs.Walks.{AddsBoundary}
use Rattle.mesh_triangles.proofs.Totals.{total-permutation, total-push}

-- what one segment adds to a boundary
abbrev pub ended : ℕ → ℕ → ℕ → Segment → ℤ
ended plane line corner s = cond (is_on plane line s) (ended_at corner s) (pos 0)

module _ (plane line corner : ℕ) where
  -- a boundary as one sum over all segments
  boundary_total : (ss : List Segment) → boundary plane line corner ss ≡ total (ended plane line corner) ss
  boundary_total ss = total-filter (ended_at corner) (is_on plane line) ss

  -- the boundary of two lists
  pub boundary-append : (ss ts : List Segment) → boundary plane line corner (ss ++ ts) ≡ boundary plane line corner ss +ℤ boundary plane line corner ts
  boundary-append ss ts =
      let a = boundary_total ss in let b = boundary_total ts in
      boundary_total (ss ++ ts) ∙ total-append (ended plane line corner) ss ts ∙ (λ i. sym a i +ℤ sym b i)

  -- one more segment
  pub boundary-push : (ss : List Segment) (s : Segment) → boundary plane line corner (ss ++ s ∷ []) ≡ boundary plane line corner ss +ℤ ended plane line corner s
  boundary-push ss s =
      let a = boundary_total ss in
      boundary_total (ss ++ s ∷ []) ∙ total-push (ended plane line corner) ss (ss ++ s ∷ []) s refl ∙ (λ i. sym a i +ℤ ended plane line corner s)

  -- the order of the segments doesn't matter
  pub boundary-permutation : (ss ts : List Segment) → IsPermutation ss ts → boundary plane line corner ts ≡ boundary plane line corner ss
  boundary-permutation ss ts h =
      boundary_total ts ∙ total-permutation (ended plane line corner) ss ts h ∙ sym (boundary_total ss)

  -- what a segment of the line adds to its boundary
  pub ended_on : (s : Segment) → s.line ≡ line → ended plane line corner s ≡ cond (eqb plane s.plane) (ended_at corner s) (pos 0)
  ended_on s e = by (eqb plane s.plane) (eqb line s.line) (eq-eqb line s.line (sym e))
    where
      by : (x y : Bool) → y ≡ true → cond (x && y) (ended_at corner s) (pos 0) ≡ cond x (ended_at corner s) (pos 0)
      by true true e = refl
      by true false e = cc
      by false y e = refl

  -- the same of a segment of another line
  pub ended_off : (s : Segment) → eqb line s.line ≡ false → ended plane line corner s ≡ pos 0
  ended_off s e = by (eqb plane s.plane) (eqb line s.line) e
    where
      by : (x y : Bool) → y ≡ false → cond (x && y) (ended_at corner s) (pos 0) ≡ pos 0
      by true true e = cc
      by true false e = refl
      by false y e = refl

  -- segments of other lines have no boundary on this one
  pub boundary_off : (l : ℕ) (ss : List Segment) → All (λ (s : Segment). s.line ≡ l) ss → eqb line l ≡ false → boundary plane line corner ss ≡ pos 0
  boundary_off l ss h e = boundary_total ss ∙ none ss h
    where
      sum : (a b : ℤ) → a ≡ pos 0 → b ≡ pos 0 → a +ℤ b ≡ pos 0
      sum a b x y = omega (arith, linear, x, y)

      none : (ss : List Segment) → All (λ (s : Segment). s.line ≡ l) ss → total (ended plane line corner) ss ≡ pos 0
      none [] h = refl
      none (s ∷ ss) h =
          let on = All-head (λ (s : Segment). s.line ≡ l) s ss h in
          sum (ended plane line corner s) (total (ended plane line corner) ss) (ended_off s (ap (eqb line) on ∙ e))
          (none ss (All-tail (λ (s : Segment). s.line ≡ l) s ss h))

-- ---- segments that are added
-- segments that are added after the others
pub adds_more : (before more : List Segment) → AddsBoundary before more (before ++ more)
adds_more before more = record { each = λ plane line corner. boundary-append plane line corner before more }
