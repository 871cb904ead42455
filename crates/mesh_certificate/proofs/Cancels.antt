-- Closed segments: what changes its sign with the direction cancels
use Rattle.std.proofs.Common.{◌≡◌, ℕ, ◌/◌, ◌%◌, List, map, ℤ, pos, neg_ℤ, sym, ◌∙◌, arith, eqb}
use Rattle.ember_algebra.specs.Sums.{total}
use Rattle.ember_algebra.proofs.Laws.{linear}
use Rattle.ember_algebra.proofs.Sums.{total-map, total-neg, total_same, total_same_occurrences}
use Rattle.mesh_certificate.specs.declared.certificate.segment.Segment.{Segment}
use Rattle.mesh_certificate.specs.Certificate.Closed.{AreSegmentsClosed}
use Rattle.mesh_certificate.specs.Certificate.Keys.{edge_key, reverse_key}
use Rattle.mesh_certificate.proofs.Boundaries.{numbers_are_equal}
use Rattle.mesh_certificate.proofs.ClosedKeys.{keys_from_closed}

-- the two digits of a key
high_of : (s : Segment) → edge_key s / 4294967296 ≡ s.start
high_of s = omega (arith, s.sized.end_small)

low_of : (s : Segment) → edge_key s % 4294967296 ≡ s.end
low_of s = omega (arith, s.sized.end_small)

reverse_high : (s : Segment) → reverse_key s / 4294967296 ≡ s.end
reverse_high s = omega (arith, s.sized.start_small)

reverse_low : (s : Segment) → reverse_key s % 4294967296 ≡ s.start
reverse_low s = omega (arith, s.sized.start_small)

module _ (g : ℕ → ℕ → ℤ) (odd : (u v : ℕ) → g v u ≡ neg_ℤ (g u v)) (ss : List Segment) (h : AreSegmentsClosed ss) where
  abbrev of_key : ℕ → ℤ
  of_key n = g (n / 4294967296) (n % 4294967296)

  there : total of_key (map edge_key ss) ≡ total (λ s. g s.start s.end) ss
  there =
      total-map of_key edge_key ss ∙ total_same (λ s. of_key (edge_key s)) (λ s. g s.start s.end) (λ s i. g (high_of s i) (low_of s i)) ss

  back : total of_key (map reverse_key ss) ≡ neg_ℤ (total (λ s. g s.start s.end) ss)
  back =
      total-map of_key reverse_key ss ∙ total_same (λ s. of_key (reverse_key s)) (λ s. neg_ℤ (g s.start s.end))
      (λ s. (λ i. g (reverse_high s i) (reverse_low s i)) ∙ odd s.start s.end) ss
      ∙ total-neg (λ s. g s.start s.end) ss

  pub closed_cancels : total (λ s. g s.start s.end) ss ≡ pos 0
  closed_cancels =
      let e = sym there ∙ total_same_occurrences eqb numbers_are_equal of_key (map edge_key ss) (map reverse_key ss) (keys_from_closed ss h) ∙ back in
      half (total (λ s. g s.start s.end) ss) e
    where
      half : (z : ℤ) → z ≡ neg_ℤ z → z ≡ pos 0
      half z e = omega (arith, linear, e)
