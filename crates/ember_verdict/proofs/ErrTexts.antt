-- A text that is written piece by piece, up to the first fault.
use Rattle.std.proofs.Common.{◌≡◌, ℕ, ◌+◌, ◌<◌, ◌≤◌, List, ◌++◌, length, drop, get_or, flat_map, ap, sym, ◌∙◌, append_assoc, arith}
use Rattle.std.proofs.lemmas.List.{drop_more}
use Rattle.std.specs.declared.option.Option.{Option}
use Rattle.std.specs.Borrow.{Bor}
use Rattle.std.specs.Io.KnownBytes.{Appends}
use Rattle.ember_io.specs.Causes.{HasRisen}
use Rattle.ember_io.specs.Sinks.{AppendsPrefix}
use Rattle.ember_io.proofs.ToldBytes.{Appends-append}
use Rattle.ember_verdict.specs.Messages.{AppendsUntilFault}

abbrev pub flat : List (Bor (List ℕ)) → List ℕ
flat pieces = flat_map {X = Bor (List ℕ)} {A = ℕ} (λ p. p.now) pieces

next : (pieces : List (Bor (List ℕ))) (i : ℕ) (d : Bor (List ℕ)) (text front : List ℕ) → i < length pieces →
    text ≡ front ++ flat (drop i pieces) → text ≡ front ++ ((get_or pieces i d).now ++ flat (drop (i + 1) pieces))
next pieces i d text front l e = e ∙ ap (λ (ps : List (Bor (List ℕ))). front ++ flat ps) (drop_more pieces i d l)

-- one more piece was taken
pub piece_said : (old mid new : Option (List ℕ)) (pieces : List (Bor (List ℕ))) (i : ℕ) (d : Bor (List ℕ))
    (text front : List ℕ) → i < length pieces → text ≡ front ++ flat (drop i pieces) → Appends old mid front →
    Appends mid new (get_or pieces i d).now
    → (x : List ℕ) × (text ≡ x ++ flat (drop (i + 1) pieces)) × Appends old new x
piece_said old mid new pieces i d text front l e p q = (
  front ++ (get_or pieces i d).now,
  next pieces i d text front l e
      ∙ sym (append_assoc front (get_or pieces i d).now (flat (drop (i + 1) pieces))),
  Appends-append old mid new front (get_or pieces i d).now p q,
)

-- if a count rose later, it has risen in all
pub has_risen_later : (a b c : ℕ) → a ≤ b → HasRisen b c → HasRisen a c
has_risen_later a b c l r = omega (arith, l, r)

-- a piece whose fault ends the text
pub piece_stopped : (a b c : ℕ) (old mid new : Option (List ℕ)) (pieces : List (Bor (List ℕ))) (i : ℕ)
    (d : Bor (List ℕ)) (text front : List ℕ) → a ≤ b → b ≤ c → HasRisen b c → i < length pieces →
    text ≡ front ++ flat (drop i pieces) → Appends old mid front → AppendsPrefix mid new (get_or pieces i d).now
    → AppendsUntilFault a c old new text
piece_stopped a b c old mid new pieces i d text front l m r h e p q =
    let more = flat (drop (i + 1) pieces) in
    let x = q.0 in let y = q.1 in
    let whole = next pieces i d text front h e ∙ ap (λ (piece : List ℕ). front ++ (piece ++ more)) q.2
    ∙ ap (λ (z : List ℕ). front ++ z) (append_assoc x y more) ∙ sym (append_assoc front x (y ++ more)) in
    record {
      later = omega (arith, l, m);
      prefix =
          (front ++ x, y ++ more, whole, Appends-append old mid new front x p q.3);
      whole =
          λ n. absurd (n (has_risen_later a b c l r));
    }
