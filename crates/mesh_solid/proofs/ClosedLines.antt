-- Segments that are moved into one plane have the chains of all planes together
use Rattle.std.proofs.Common.{◌≡◌, ℕ, Bool, true, false, ◌&&◌, cond, List, [], ◌∷◌, filter, ℤ, pos, ◌+ℤ◌, ◌-ℤ◌}
use Rattle.std.proofs.Common.{refl, sym, ap, subst, ◌∙◌, eqb}
use Rattle.std.specs.List.{AllZip}
use Rattle.std.proofs.lemmas.Bool.{eqb-true}
use Rattle.ember_algebra.specs.Sums.{total}
use Rattle.mesh_certificate.specs.declared.certificate.segment.Segment.{Segment}
use Rattle.mesh_certificate.specs.Certificate.Chains.{is_on, reached, coverage, chain, HaveSameChains}
use Rattle.mesh_solid.specs.Refusal.ClosedLines.{AreLinesClosed, IsInPlaneZero}

module _ (line : ℕ) (rank : ℕ → ℤ) (x : ℤ) where
  same_coverage : (s t : Segment) → IsInPlaneZero s t → coverage rank x t ≡ coverage rank x s
  same_coverage s t h = λ i. reached (rank (h.start i)) x -ℤ reached (rank (h.end i)) x

  abbrev sum_of : List Segment → ℤ
  sum_of ss = total (coverage rank x) ss

  -- in the plane 0
  chain_moved : (ss ts : List Segment) → AllZip IsInPlaneZero ss ts →
      chain 0 line rank x ts ≡ sum_of (filter (λ s. eqb line s.line) ss)
  chain_moved [] [] h = refl
  chain_moved [] (t ∷ ts) h = absurd h
  chain_moved (s ∷ ss) [] h = absurd h
  chain_moved (s ∷ ss) (t ∷ ts) h =
      ap (λ (b : Bool). sum_of (cond b (t ∷ filter (is_on 0 line) ts) (filter (is_on 0 line) ts))) test
      ∙ by (eqb line s.line) (chain_moved ss ts h.1)
    where
      test : is_on 0 line t ≡ eqb line s.line
      test = λ i. eqb 0 (h.0.plane i) && eqb line (h.0.line i)

      by : (b : Bool) → sum_of (filter (is_on 0 line) ts) ≡ sum_of (filter (λ s. eqb line s.line) ss) →
          sum_of (cond b (t ∷ filter (is_on 0 line) ts) (filter (is_on 0 line) ts)) ≡
          sum_of (cond b (s ∷ filter (λ s. eqb line s.line) ss) (filter (λ s. eqb line s.line) ss))
      by true r = λ i. same_coverage s t h.0 i +ℤ r i
      by false r = r

  -- and in no other one
  chain_elsewhere : (plane : ℕ) → eqb plane 0 ≡ false → (ss ts : List Segment) → AllZip IsInPlaneZero ss ts →
      chain plane line rank x ts ≡ pos 0
  chain_elsewhere plane e [] [] h = refl
  chain_elsewhere plane e [] (t ∷ ts) h = absurd h
  chain_elsewhere plane e (s ∷ ss) [] h = absurd h
  chain_elsewhere plane e (s ∷ ss) (t ∷ ts) h =
      ap (λ (b : Bool). sum_of (cond b (t ∷ filter (is_on plane line) ts) (filter (is_on plane line) ts))) test
      ∙ chain_elsewhere plane e ss ts h.1
    where
      test : is_on plane line t ≡ false
      test = (λ i. eqb plane (h.0.plane i) && eqb line t.line) ∙ (λ i. e i && eqb line t.line)

module _ (ss ts : List Segment) (moved : AllZip IsInPlaneZero ss ts) where
  -- segments are closed along lines if those that are moved have no chain
  pub lines_closed_from_chains : HaveSameChains ts [] → AreLinesClosed ss
  lines_closed_from_chains h =
      record { each = λ line rank x. sym (chain_moved line rank x ss ts moved) ∙ h.each 0 line rank x }

  -- and the other way round
  pub chains_from_lines_closed : AreLinesClosed ss → HaveSameChains ts []
  chains_from_lines_closed h = record { each = λ plane line rank x. by plane line rank x (eqb plane 0) refl }
    where
      by : (plane line : ℕ) (rank : ℕ → ℤ) (x : ℤ) (b : Bool) → eqb plane 0 ≡ b → chain plane line rank x ts ≡ pos 0
      by plane line rank x true e =
          subst (λ (p : ℕ). chain p line rank x ts ≡ pos 0) (sym (eqb-true plane 0 e))
          (chain_moved line rank x ss ts moved ∙ h.each line rank x)
      by plane line rank x false e = chain_elsewhere line rank x plane e ss ts moved
