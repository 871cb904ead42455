-- The marks of segments
use Rattle.std.proofs.Common.{◌≡◌, ℕ, ◌≤◌, Bool, true, false, cond, List, [], ◌∷◌, ◌++◌, length, take, ℤ, pos, ◌+ℤ◌, ◌-ℤ◌, refl, ap, subst, ◌∙◌, arith, eqb}
use Rattle.std.specs.List.Sorted.{IsPermutation}
use Rattle.std.proofs.lemmas.List.{take_all}
use Rattle.ember_algebra.specs.Sums.{total}
use Rattle.ember_algebra.proofs.Laws.{linear}
use Rattle.mesh_certificate.specs.declared.certificate.segment.Segment.{Segment}
use Rattle.mesh_certificate.specs.Certificate.Chains.{one_at, boundary}
use Rattle.mesh_triangles.specs.declared.marks.What.TheVariants.{Start, End, Split}
use Rattle.mesh_triangles.specs.declared.marks.Mark.{Mark}
use Rattle.mesh_triangles.specs.Marks.{change, change_by, only_at, change_at, AreMarks}
use Rattle.mesh_triangles.proofs.Totals.{total-permutation, total-push}
use Rattle.mesh_triangles.proofs.BoundarySums.{ended, ended_on, boundary-push}
use Rattle.mesh_triangles.proofs.Strands.{only_at-zero}

-- what a segment adds at a corner, and the changes at its ends
ends_parts : (x y z : Bool) → cond x (cond y (pos 1) (pos 0) -ℤ cond z (pos 1) (pos 0)) (pos 0) +ℤ
    (cond z (cond x (pos 1) (pos 0)) (pos 0) +ℤ cond y (pos 0 -ℤ cond x (pos 1) (pos 0)) (pos 0)) ≡ pos 0
ends_parts true true true = refl
ends_parts true true false = refl
ends_parts true false true = refl
ends_parts true false false = refl
ends_parts false true true = refl
ends_parts false true false = refl
ends_parts false false true = refl
ends_parts false false false = refl

both : (b t x y z b' t' u : ℤ) → b +ℤ t ≡ pos 0 → x +ℤ (y +ℤ z) ≡ pos 0 → b' ≡ b +ℤ x → u ≡ t +ℤ y → t' ≡ u +ℤ z → b' +ℤ t' ≡ pos 0
both b t x y z b' t' u e f g h k = omega (arith, linear, e, f, g, h, k)

one_and_back : (t u v y : ℤ) → t ≡ pos 0 → u ≡ t +ℤ y → v ≡ u +ℤ (pos 0 -ℤ y) → v ≡ pos 0
one_and_back t u v y e f g = omega (arith, linear, e, f, g)

nothing_more : (b t u y : ℤ) → b +ℤ t ≡ pos 0 → u ≡ t +ℤ y → y ≡ pos 0 → b +ℤ u ≡ pos 0
nothing_more b t u y e f g = omega (arith, linear, e, f, g)

nothing_yet : (t u y : ℤ) → t ≡ pos 0 → u ≡ t +ℤ y → y ≡ pos 0 → u ≡ pos 0
nothing_yet t u y e f g = omega (arith, linear, e, f, g)

module _ (line : ℕ) where
  -- the marks of one more segment
  pub ends_pushed : (done : List Segment) (s : Segment) (ms ns os : List Mark) (a b : Mark) → s.line ≡ line →
      a.corner ≡ s.start → a.what ≡ Start s.plane → b.corner ≡ s.end → b.what ≡ End s.plane → ns ≡ ms ++ a ∷ [] →
      os ≡ ns ++ b ∷ [] → AreMarks line done ms → AreMarks line (done ++ s ∷ []) os
  ends_pushed done s ms ns os a b on ac aw bc bw e f h =
      record { corners = corners; whole = whole }
    where
      corners : (plane corner : ℕ) → boundary plane line corner (done ++ s ∷ []) +ℤ total (change_at plane corner) os ≡ pos 0
      corners plane corner =
          let m : change_at plane corner a ≡ only_at corner s.start (one_at plane s.plane) = λ i. only_at corner (ac i) (change plane (aw i)) in
          let n : change_at plane corner b ≡ only_at corner s.end (pos 0 -ℤ one_at plane s.plane) = λ i. only_at corner (bc i) (change plane (bw i)) in
          let d = ended_on plane line corner s on in
          both (boundary plane line corner done) (total (change_at plane corner) ms) (ended plane line corner s)
          (change_at plane corner a) (change_at plane corner b) _ _ (total (change_at plane corner) ns)
          (h.corners plane corner) ((λ i. d i +ℤ (m i +ℤ n i))
          ∙ ends_parts (eqb plane s.plane) (eqb corner s.end) (eqb corner s.start))
          (boundary-push plane line corner done s) (total-push (change_at plane corner) ms ns a e)
          (total-push (change_at plane corner) ns os b f)

      whole : (plane : ℕ) → total (change_by plane) os ≡ pos 0
      whole plane =
          one_and_back (total (change_by plane) ms) (total (change_by plane) ns) (total (change_by plane) os)
          (one_at plane s.plane) (h.whole plane)
          (total-push (change_by plane) ms ns a e ∙ ap (λ w. total (change_by plane) ms +ℤ change plane w) aw)
          (total-push (change_by plane) ns os b f ∙ ap (λ w. total (change_by plane) ns +ℤ change plane w) bw)

  -- a split changes nothing
  pub split_pushed : (done : List Segment) (ms ns : List Mark) (a : Mark) → a.what ≡ Split → ns ≡ ms ++ a ∷ [] → AreMarks line done ms → AreMarks line done ns
  split_pushed done ms ns a aw e h =
      record {
        corners = λ plane corner. nothing_more (boundary plane line corner done)
            (total (change_at plane corner) ms) (total (change_at plane corner) ns) (change_at plane corner a)
            (h.corners plane corner) (total-push (change_at plane corner) ms ns a e)
            (ap (λ w. only_at corner a.corner (change plane w)) aw ∙ only_at-zero corner a.corner);
        whole =
            λ plane. nothing_yet (total (change_by plane) ms) (total (change_by plane) ns) (change_by plane a)
            (h.whole plane) (total-push (change_by plane) ms ns a e) (ap (change plane) aw);
      }

  -- the order of the marks doesn't matter
  marks_in_order : (ss : List Segment) (ms ns : List Mark) → IsPermutation ms ns → AreMarks line ss ms → AreMarks line ss ns
  marks_in_order ss ms ns p h =
      record {
        corners = λ plane corner. ap (λ (z : ℤ). boundary plane line corner ss +ℤ z)
            (total-permutation (change_at plane corner) ms ns p) ∙ h.corners plane corner;
        whole =
            λ plane. total-permutation (change_by plane) ms ns p ∙ h.whole plane;
      }

  -- all segments have their marks, and the splits have theirs
  pub all_marked : (ss : List Segment) (i : ℕ) (ms ns os : List Mark) → length ss ≤ i → IsPermutation ns os →
      ((l : ℕ) (done : List Segment) → AreMarks l done ms → AreMarks l done ns) → AreMarks line (take i ss) ms →
      AreMarks line ss os
  all_marked ss i ms ns os l p more h =
      marks_in_order ss ns os p (subst (λ (ts : List Segment). AreMarks line ts ns) (take_all i ss l) (more line (take i ss) h))
