-- What the bytes begin with.
use Rattle.std.proofs.Common.{◌≡◌, refl, sym, ap, ◌∙◌, ℕ, ◌+◌, nat_eq, Bool, true, false, List, [], ◌∷◌, ◌++◌, length}
use Rattle.std.proofs.Common.{take, drop, codes, decimal, Option, Some, None, Bor}
use Rattle.std.specs.Prelude.{MatchOption}
use Rattle.std.specs.Bool.{Decides}
use Rattle.std.specs.Cmp.Lexicographic.{pointwise}
use Rattle.std.proofs.lemmas.Bool.Decides.{Decides-eqb, Decides-like}
use Rattle.std.proofs.lemmas.Slice.Eq.{slice_eq-Decides}
use Rattle.std.proofs.lemmas.List.{take-append-drop, append_cancel_left}
use Rattle.std.proofs.Math.Seq.{take-append_seam}
use Rattle.ember_model.specs.FaceFiles.{ending}
use Rattle.ember_reread.proofs.NumberTexts.{tail_injective}

abbrev begins : List ℕ → List ℕ → Bool
begins bytes text = pointwise nat_eq (take (length text) bytes) text

begins_with : (bytes text : List ℕ) → Decides (begins bytes text) (take (length text) bytes ≡ text)
begins_with bytes text = slice_eq-Decides Decides-eqb (take (length text) bytes) text (begins bytes text) refl

-- what the library's prefix test gives is what follows the text
pub prefix_found : (bytes text : List ℕ) (r : Option (Bor (List ℕ))) →
    MatchOption r (begins bytes text ≡ false) (λ x. (begins bytes text ≡ true) × (x.now ≡ drop (length text) bytes) ×
    (length x.now + length text ≡ length bytes)) →
    MatchOption r ((rest : List ℕ) → bytes ≡ text ++ rest → ⊥) (λ x. bytes ≡ text ++ x.now)
prefix_found bytes text None h =
    λ rest e. let t = (begins_with bytes text).1 (ap (λ l. take (length text) l) e ∙ take-append_seam text rest) in cc
prefix_found bytes text (Some x) h =
    sym (take-append-drop (length text) bytes) ∙ (λ i. (begins_with bytes text).0 h.0 i ++ sym h.1 i)

-- the last line by its parts
pub ending_test : (n : ℕ) (bytes rest last number : List ℕ) (r : Bool) → bytes ≡ codes "end " ++ rest →
    rest ≡ number ++ last → number ≡ decimal n → r ≡ pointwise nat_eq last (10 ∷ []) → Decides r (bytes ≡ ending n)
ending_test n bytes rest last number r e f g h =
    let whole : bytes ≡ 101 ∷ 110 ∷ 100 ∷ 32 ∷ (decimal n ++ last) = e ∙ ap (λ l. 101 ∷ 110 ∷ 100 ∷ 32 ∷ l) (f ∙ ap (λ l. l ++ last) g) in
    Decides-like r
    (λ p. whole ∙ ap (λ l. 101 ∷ 110 ∷ 100 ∷ 32 ∷ (decimal n ++ l)) p)
    (λ p. append_cancel_left (decimal n) last (10 ∷ []) (tail_injective (tail_injective (tail_injective (tail_injective (sym whole ∙ p))))))
    (slice_eq-Decides Decides-eqb last (10 ∷ []) r h)
