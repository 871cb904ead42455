-- Segments with the same boundary: any quantity of planes, lines and corners has one sum, over all starts less over all ends.
use Rattle.std.proofs.Common.{◌≡◌, ℕ, ◌/◌, ◌%◌, List, ◌++◌, map, ℤ, ◌-ℤ◌, ◌∙◌, arith, eqb}
use Rattle.ember_algebra.specs.Sums.{total}
use Rattle.ember_algebra.proofs.Laws.{linear}
use Rattle.ember_algebra.proofs.Sums.{total-append, total-map, total-sub, total_same, total_same_occurrences}
use Rattle.mesh_certificate.specs.declared.certificate.segment.Segment.{Segment}
use Rattle.mesh_certificate.specs.Certificate.Chains.{HaveSameBoundary}
use Rattle.mesh_certificate.specs.Certificate.Keys.{start_key, end_key}
use Rattle.mesh_certificate.proofs.Boundaries.{numbers_are_equal}
use Rattle.mesh_certificate.proofs.Keyed.{keys_from_boundary}

-- the three digits of a key
start_plane : (s : Segment) → start_key s / 4294967296 / 4294967296 ≡ s.plane
start_plane s = omega (arith, s.sized.line_small, s.sized.start_small)

start_line : (s : Segment) → start_key s / 4294967296 % 4294967296 ≡ s.line
start_line s = omega (arith, s.sized.line_small, s.sized.start_small)

start_corner : (s : Segment) → start_key s % 4294967296 ≡ s.start
start_corner s = omega (arith, s.sized.start_small)

end_plane : (s : Segment) → end_key s / 4294967296 / 4294967296 ≡ s.plane
end_plane s = omega (arith, s.sized.line_small, s.sized.end_small)

end_line : (s : Segment) → end_key s / 4294967296 % 4294967296 ≡ s.line
end_line s = omega (arith, s.sized.line_small, s.sized.end_small)

end_corner : (s : Segment) → end_key s % 4294967296 ≡ s.end
end_corner s = omega (arith, s.sized.end_small)

module _ (g : ℕ → ℕ → ℕ → ℤ) where
  abbrev of_key : ℕ → ℤ
  of_key n = g (n / 4294967296 / 4294967296) (n / 4294967296 % 4294967296) (n % 4294967296)

  abbrev at_start : Segment → ℤ
  at_start s = g s.plane s.line s.start

  abbrev at_end : Segment → ℤ
  at_end s = g s.plane s.line s.end

  starts_by_key : (ss : List Segment) → total of_key (map start_key ss) ≡ total at_start ss
  starts_by_key ss =
      total-map of_key start_key ss ∙ total_same (λ s. of_key (start_key s)) at_start (λ s i. g (start_plane s i) (start_line s i) (start_corner s i)) ss

  ends_by_key : (ss : List Segment) → total of_key (map end_key ss) ≡ total at_end ss
  ends_by_key ss =
      total-map of_key end_key ss ∙ total_same (λ s. of_key (end_key s)) at_end (λ s i. g (end_plane s i) (end_line s i) (end_corner s i)) ss

  -- both lists have one sum over the starts less over the ends
  pub places_agree : (ss ts : List Segment) → HaveSameBoundary ss ts →
      total (λ s. g s.plane s.line s.start -ℤ g s.plane s.line s.end) ss ≡ total
      (λ s. g s.plane s.line s.start -ℤ g s.plane s.line s.end) ts
  places_agree ss ts h =
      let e = total_same_occurrences eqb numbers_are_equal of_key (map start_key ss ++ map end_key ts)
      (map start_key ts ++ map end_key ss) (keys_from_boundary ss ts h) in
      let a = total-append of_key (map start_key ss) (map end_key ts) in
      let b = total-append of_key (map start_key ts) (map end_key ss) in
      let c = starts_by_key ss in let d = ends_by_key ss in let i = starts_by_key ts in let j = ends_by_key ts in
      let k = total-sub at_start at_end ss in let l = total-sub at_start at_end ts in
      omega (arith, linear, e, a, b, c, d, i, j, k, l)
