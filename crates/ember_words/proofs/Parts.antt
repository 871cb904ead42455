-- A text cut at its first comma
use Rattle.std.proofs.Common.{◌≡◌, ◌≢◌, ℕ, suc, ◌<◌, List, [], ◌∷◌, ◌++◌, length, get_or, Bool, true, false, ◌==◌}
use Rattle.std.proofs.Common.{Option, Some, None, refl, ap, ◌∙◌, arith, inl, inr, cond}
use Rattle.std.specs.Prelude.{MatchOption}
use Rattle.std.specs.Borrow.{Bor}
use Rattle.std.proofs.lemmas.Bool.Decides.{eqb_tells}
use Rattle.clap.specs.Walk.{Text}
use Rattle.ember_words.specs.Limits.{parts_of, in_front, four_of}

not_comma : (b : ℕ) → b ≢ 44 → (b == 44) ≡ false
not_comma b n = elim (eqb_tells b 44) [ inl h ↦ absurd (n h.1) | inr h ↦ h.0 ]

parts_whole : (text : List ℕ) → ((i : ℕ) → i < length text → get_or text i 0 ≢ 44) → parts_of text ≡ text ∷ []
parts_whole [] free = refl
parts_whole (b ∷ bs) free = rw (not_comma b (free 0 (omega arith)), parts_whole bs (λ i low. free (suc i) (omega arith))) refl

parts_cut : (front rest : List ℕ) → ((i : ℕ) → i < length front → get_or front i 0 ≢ 44) → parts_of (front ++ 44 ∷ rest) ≡ front ∷ parts_of rest
parts_cut [] rest free = refl
parts_cut (b ∷ bs) rest free = rw (not_comma b (free 0 (omega arith)), parts_cut bs rest (λ i low. free (suc i) (omega arith))) refl

-- a text cut at its first comma
pub parts_once : (text : List ℕ) (r : Option (Bor (List ℕ) × Bor (List ℕ)))
    → MatchOption r ((i : ℕ) → i < length text →
    get_or text i 0 ≢ 44) (λ x. (text ≡ x.0.now ++ (44 ∷ x.1.now)) × ((i : ℕ) → i < length x.0.now →
    get_or x.0.now i 0 ≢ 44))
    → MatchOption r (parts_of text ≡ text ∷ []) (λ x. parts_of text ≡ x.0.now ∷ parts_of x.1.now)
parts_once text None h = parts_whole text h
parts_once text (Some x) h = ap parts_of h.0 ∙ parts_cut x.0.now x.1.now h.1

-- after four parts there is a fifth
pub too_many : (x y z w : Text) (text : List ℕ) → four_of (x ∷ y ∷ z ∷ w ∷ parts_of text) ≡ None
too_many x y z w [] = refl
too_many x y z w (b ∷ bs) = comma (b == 44)
  where
    front : (parts : List Text) → four_of (x ∷ y ∷ z ∷ w ∷ in_front b parts) ≡ None
    front [] = refl
    front (part ∷ parts) = refl

    comma : (is : Bool) → four_of (x ∷ y ∷ z ∷ w ∷ cond is ([] ∷ parts_of bs) (in_front b (parts_of bs))) ≡ None
    comma true = refl
    comma false = front (parts_of bs)
