-- Parts that are certified, one after another
use Rattle.std.proofs.Common.{◌≡◌, ℕ, ◌+◌, List, [], ◌++◌, ℤ, ◌+ℤ◌, refl, sym, ap, subst, ◌∙◌}
use Rattle.std.specs.Prelude.{filter}
use Rattle.std.specs.List.{All}
use Rattle.std.proofs.lemmas.List.Sums.{sum_by-append}
use Rattle.std.proofs.lemmas.List.Elements.{All-nil, All-append, filter-append}
use Rattle.ember_algebra.specs.Sums.{total}
use Rattle.ember_algebra.proofs.Sums.{total-append}
use Rattle.ember_model.specs.declared.plane.Plane.{Plane}
use Rattle.mesh_certificate.specs.declared.key.lines.LineKey.{LineKey}
use Rattle.mesh_certificate.specs.declared.certificate.segment.Segment.{Segment}
use Rattle.mesh_point.specs.declared.space_point.SpacePoint.{SpacePoint}
use Rattle.mesh_certificate.specs.declared.certificate.triangle.Triangle.{Triangle}
use Rattle.mesh_certificate.specs.Certificate.Certificate.{edges_in, IsProper, ArePartsCertified}
use Rattle.mesh_certificate.specs.Certificate.Chains.{is_on, coverage, chain, HaveSameChains}
use Rattle.mesh_certificate.specs.Certificate.OnLines.{is_free, runs_in, AreFreePaired, IsOnItsLine}
use Rattle.mesh_certificate.proofs.Triangles.{edges_in-append}

-- ---- chains
chain-append : (plane line : ℕ) (rank : ℕ → ℤ) (x : ℤ) (ss ts : List Segment) →
    chain plane line rank x (ss ++ ts) ≡ chain plane line rank x ss +ℤ chain plane line rank x ts
chain-append plane line rank x ss ts =
    ap (total (coverage rank x)) (filter-append (is_on plane line) ss ts)
    ∙ total-append (coverage rank x) (filter (is_on plane line) ss) (filter (is_on plane line) ts)

-- lists with the same chains, one after another
pub same_chains-append : (ss ts us vs : List Segment) → HaveSameChains ss us → HaveSameChains ts vs → HaveSameChains (ss ++ ts) (us ++ vs)
same_chains-append ss ts us vs h k =
    record {
      each = λ plane line rank x. chain-append plane line rank x ss ts
          ∙ (λ i. h.each plane line rank x i +ℤ k.each plane line rank x i) ∙ sym (chain-append plane line rank x us vs);
    }

-- ---- pairs on free lines
runs_in-append : (plane u v : ℕ) (ls : List LineKey) (ss ts : List Segment) →
    runs_in plane u v (filter (is_free ls) (ss ++ ts)) ≡ runs_in plane u v (filter (is_free ls) ss)
    + runs_in plane u v (filter (is_free ls) ts)
runs_in-append plane u v ls ss ts =
    ap (runs_in plane u v) (filter-append (is_free ls) ss ts) ∙ sum_by-append _ (filter (is_free ls) ss) (filter (is_free ls) ts)

free_paired-append : (ls : List LineKey) (ss ts : List Segment) → AreFreePaired ls ss → AreFreePaired ls ts → AreFreePaired ls (ss ++ ts)
free_paired-append ls ss ts h k =
    record { each = λ plane u v. runs_in-append plane u v ls ss ts ∙ (λ i. h.each plane u v i + k.each plane u v i) ∙ sym (runs_in-append plane v u ls ss ts) }

-- ---- parts
module _ (ps : List Plane) (ls : List LineKey) (cs : List SpacePoint) where
  -- no triangles cut up no faces
  pub parts_certified-nil : ArePartsCertified ps ls cs [] []
  parts_certified-nil = record {
    proper = All-nil (IsProper ps cs);
    chains = record { each = λ plane line rank x. refl };
    on_lines = All-nil (IsOnItsLine ls cs);
    free_paired = record { each = λ plane u v. refl };
  }

  -- the triangles of some parts and of others cut up the faces of both
  pub parts_certified-append : (ss ts : List Segment) (us vs : List Triangle) → ArePartsCertified ps ls cs ss us →
      ArePartsCertified ps ls cs ts vs → ArePartsCertified ps ls cs (ss ++ ts) (us ++ vs)
  parts_certified-append ss ts us vs h k =
      let edges = edges_in-append us vs in
      record {
        proper = All-append (IsProper ps cs) us vs h.proper k.proper;
        chains = subst (HaveSameChains (ss ++ ts)) (sym edges) (same_chains-append ss ts (edges_in us) (edges_in vs) h.chains k.chains);
        on_lines = subst (All (IsOnItsLine ls cs)) (sym edges) (All-append (IsOnItsLine ls cs) (edges_in us) (edges_in vs) h.on_lines k.on_lines);
        free_paired = subst (AreFreePaired ls) (sym edges) (free_paired-append ls (edges_in us) (edges_in vs) h.free_paired k.free_paired);
      }
