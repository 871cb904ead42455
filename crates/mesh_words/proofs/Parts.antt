-- A word cut at its first equals sign
use Rattle.std.proofs.Common.{◌≡◌, ◌≢◌, ℕ, suc, ◌<◌, List, [], ◌∷◌, ◌++◌, length, get_or, false, ◌==◌, Option, Some}
use Rattle.std.proofs.Common.{None, option_map, refl, ap, sym, ◌∙◌, arith, inl, inr}
use Rattle.std.specs.Prelude.{MatchOption}
use Rattle.std.specs.Borrow.{Bor}
use Rattle.std.proofs.lemmas.Bool.Decides.{eqb_tells}
use Rattle.mesh_words.specs.Arguments.{parts_of}

not_equals : (b : ℕ) → b ≢ 61 → (b == 61) ≡ false
not_equals b n = elim (eqb_tells b 61) [ inl h ↦ absurd (n h.1) | inr h ↦ h.0 ]

parts_whole : (text : List ℕ) → ((i : ℕ) → i < length text → get_or text i 0 ≢ 61) → parts_of text ≡ None
parts_whole [] free = refl
parts_whole (b ∷ bs) free = rw (not_equals b (free 0 (omega arith)), parts_whole bs (λ i low. free (suc i) (omega arith))) refl

parts_cut : (front rest : List ℕ) → ((i : ℕ) → i < length front → get_or front i 0 ≢ 61) → parts_of (front ++ 61 ∷ rest) ≡ Some (front, rest)
parts_cut [] rest free = refl
parts_cut (b ∷ bs) rest free = rw (not_equals b (free 0 (omega arith)), parts_cut bs rest (λ i low. free (suc i) (omega arith))) refl

-- what the library's `split_once` gives at an equals sign are the parts of the definition
pub parts_once : (text : List ℕ) (r : Option (Bor (List ℕ) × Bor (List ℕ)))
    → MatchOption r ((i : ℕ) → i < length text →
    get_or text i 0 ≢ 61) (λ x. (text ≡ x.0.now ++ (61 ∷ x.1.now)) × ((i : ℕ) → i < length x.0.now →
    get_or x.0.now i 0 ≢ 61))
    → option_map (λ (p : Bor (List ℕ) × Bor (List ℕ)). (p.0.now, p.1.now)) r ≡ parts_of text
parts_once text None h = sym (parts_whole text h)
parts_once text (Some x) h = sym (ap parts_of h.0 ∙ parts_cut x.0.now x.1.now h.1)
