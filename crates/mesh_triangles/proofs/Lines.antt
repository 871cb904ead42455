-- One line after another
use Rattle.std.proofs.Common.{◌≡◌, ℕ, ◌+◌, ◌<◌, List, [], ◌∷◌, ◌++◌, length, take, get_or, ℤ, pos, ◌+ℤ◌, sym, ap, subst, ◌∙◌, append_assoc, arith}
use Rattle.std.specs.List.{All}
use Rattle.std.specs.List.Sorted.{IsPermutation}
use Rattle.std.proofs.lemmas.List.{nil_from_length, take_more}
use Rattle.std.proofs.lemmas.List.Elements.{All-push}
use Rattle.ember_algebra.proofs.Laws.{linear}
use Rattle.mesh_certificate.specs.declared.certificate.segment.Segment.{Segment}
use Rattle.mesh_certificate.specs.Certificate.Chains.{boundary, HaveSameChains}
use Rattle.mesh_certificate.proofs.Boundaries.{chains_from_boundary}
use Rattle.mesh_triangles.specs.Walks.{AddsBoundary}
use Rattle.mesh_triangles.proofs.BoundarySums.{boundary-append, boundary-permutation, adds_more}

-- ---- two opposite segments
-- two segments, one after the other
pub both_stay : (before : List Segment) (s t : Segment) → AddsBoundary before (s ∷ t ∷ []) ((before ++ s ∷ []) ++ t ∷ [])
both_stay before s t =
    subst (AddsBoundary before (s ∷ t ∷ [])) (sym (append_assoc before (s ∷ []) (t ∷ []))) (adds_more before (s ∷ t ∷ []))

-- ---- the segments of one line
module _ (line : ℕ) where
  abbrev On : Segment → Type 0
  On s = s.line ≡ line

  -- one more segment on the line
  pub one_more_on : (ss : List Segment) (i : ℕ) (s : Segment) → i < length ss → s ≡ get_or ss i s → On s → All On (take i ss) → All On (take (i + 1) ss)
  one_more_on ss i s l e on h =
      subst (All On) (sym (take_more ss i s l ∙ ap (λ (t : Segment). take i ss ++ t ∷ []) (sym e))) (All-push On (take i ss) s h on)

-- ---- from line to line
-- the segments of one more line
pub next_line : (all done more rest here behind : List Segment) → rest ≡ here ++ behind → AddsBoundary done here more →
    AddsBoundary done rest all → AddsBoundary more behind all
next_line all done more rest here behind e k h =
    record {
      each = λ plane line corner. passed (boundary plane line corner all) (boundary plane line corner done)
          (boundary plane line corner rest) (boundary plane line corner here) (boundary plane line corner behind)
          (boundary plane line corner more) (h.each plane line corner)
          (ap (boundary plane line corner) e ∙ boundary-append plane line corner here behind) (k.each plane line corner);
    }
  where
    passed : (a d r h b m : ℤ) → a ≡ d +ℤ r → r ≡ h +ℤ b → m ≡ d +ℤ h → a ≡ m +ℤ b
    passed a d r h b m e f g = omega (arith, linear, e, f, g)

-- no line is left
pub last_line : (all done rest : List Segment) → length rest ≡ 0 → AddsBoundary done rest all → HaveSameChains all done
last_line all done rest z h =
    chains_from_boundary all done (record {
      each =
          λ plane line corner. passed (boundary plane line corner all) (boundary plane line corner done)
          (boundary plane line corner rest) (h.each plane line corner)
          (ap (boundary plane line corner) (nil_from_length rest z));
    })
  where
    passed : (a d r : ℤ) → a ≡ d +ℤ r → r ≡ pos 0 → a ≡ d
    passed a d r e f = omega (arith, linear, e, f)

-- segments in another order have the same chains
pub chains_in_order : (ss sorted : List Segment) → IsPermutation ss sorted → HaveSameChains ss sorted
chains_in_order ss sorted p =
    chains_from_boundary ss sorted (record { each = λ plane line corner. sym (boundary-permutation plane line corner ss sorted p) })

-- the chains of segments whose order is changed twice, before and after their boundaries are found
pub chains_of_all : (ss sorted found bs ts : List Segment) → IsPermutation ss sorted → HaveSameChains sorted found →
    HaveSameChains found bs → HaveSameChains bs ts → HaveSameChains ss ts
chains_of_all ss sorted found bs ts p f h k =
    let order = chains_in_order ss sorted p in
    record { each = λ plane line rank x. order.each plane line rank x ∙ f.each plane line rank x ∙ h.each plane line rank x ∙ k.each plane line rank x }
