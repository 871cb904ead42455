-- Texts that are appended one after another
use Rattle.std.proofs.Common.{◌≡◌, ℕ, List, ◌++◌, Result, Ok, Err, OnOk, ap, ◌∙◌, append_assoc}
use Rattle.std.specs.Prelude.{is_ok, if◌then◌else◌}

-- what one text appends
pub one_part : {T E : Type 0} (r : Result T E) (old text new : List ℕ) → new ≡ (if is_ok r then old ++ text else old) → OnOk r (new ≡ old ++ text)
one_part (Ok v) old text new is = is
one_part (Err e) old text new is = tt

-- what three texts append
pub three_parts : {T E : Type 0} (r : Result T E) (old first second third x y z : List ℕ) →
    x ≡ old ++ first → y ≡ x ++ second → z ≡ (if is_ok r then y ++ third else y) → OnOk r (z ≡ old ++ (first ++ second ++ third))
three_parts (Ok v) old first second third x y z a b c =
    c ∙ ap (λ t. t ++ third) (b ∙ ap (λ t. t ++ second) a) ∙ ap (λ t. t ++ third) (append_assoc old first second) ∙ append_assoc old (first ++ second) third
three_parts (Err e) old first second third x y z a b c = tt
