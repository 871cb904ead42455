-- The one spelling of a step
use Rattle.std.proofs.Common.{◌≡◌, ◌≢◌, ℕ, suc, ◌<◌, ◌^◌, false, List, [], ◌∷◌, ◌++◌, length, get_or, Option, Some}
use Rattle.std.proofs.Common.{None, Result, Ok, arith, refl, ap, sym, subst, ◌∙◌, decimal}
use Rattle.std.specs.Prelude.{IfNone}
use Rattle.std.specs.Str.{bytes_eq}
use Rattle.std.specs.Str.Parse.{ParsesUnsigned}
use Rattle.std.proofs.lemmas.Fmt.{parse-decimal, decimal_is_IsNumeral, decimal_injective}
use Rattle.std.proofs.lemmas.Bool.Decides.{not_from_Decides}
use Rattle.std.proofs.lemmas.Slice.Eq.{bytes_eq-Decides}
use Rattle.std.proofs.lemmas.Str.Parse.{digit_at}
use Rattle.serde_json.specs.Data.{Data}
use Rattle.serde_json.specs.Read.{read}
use Rattle.mesh_grid.specs.declared.snap.steps.GridStep.{GridStep}
use Rattle.mesh_grid.specs.Snap.Steps.{IsStep}
use Rattle.mesh_grid.specs.declared.grid.grid.Grid.{Grid}
use Rattle.mesh_scene.specs.SceneFile.Scenes.{IsGridIn}
use Rattle.mesh_scene.specs.SceneFile.Fractions.{IsPart, IsStepText}

pub if_none : {X P : Type 0} (r : Option X) → P → IfNone r P
if_none (Some x) p = tt
if_none None p = p

-- a text has one value
pub one_value : (text : List ℕ) (a b : Data) → read text ≡ Some a → read text ≡ Some b → a ≡ b
one_value text a b e f = let both : Some a ≡ Some b = sym e ∙ f in cc

-- ---- a part
-- a part is parsed
pub part_is_parsed : {E : Type 0} (text : List ℕ) (n : ℕ) (r : Result ℕ E) → ParsesUnsigned 64 10 text r → IsPart text n → r ≡ Ok n
part_is_parsed text n r parses part =
    let small : n < 2 ^ 64 = omega (arith, part.small) in
    parse-decimal 64 n text r small small part.spells parses

-- a number's own text is no other text of it
pub same_text : (text shown : List ℕ) (m n : ℕ) → n ≡ m → shown ≡ decimal m → text ≡ decimal n → bytes_eq shown text ≡ false → ⊥
same_text text shown m n same is spells differ =
    let e : shown ≡ text = is ∙ sym (ap decimal same) ∙ sym spells in
    not_from_Decides _ (bytes_eq-Decides shown text) differ e

-- ---- both parts
pub numerator_is_part : (text : List ℕ) (s : GridStep) → IsStep s → text ≡ decimal s.numerator → IsPart text s.numerator
numerator_is_part text s is e = record { positive = is.numerator_positive; small = is.numerator_small; spells = e }

pub denominator_is_part : (text : List ℕ) (s : GridStep) → IsStep s → text ≡ decimal s.denominator → IsPart text s.denominator
denominator_is_part text s is e = record { positive = is.denominator_positive; small = is.denominator_small; spells = e }

-- no digit is a slash (47)
pub no_slash : (n : ℕ) → n < 2 ^ 40 → (i : ℕ) → i < length (decimal n) → get_or (decimal n) i 0 ≢ 47
no_slash n small i l is =
    let digit = digit_at (decimal n) i (decimal_is_IsNumeral n (omega (arith, small))).0.1 l in
    omega (arith, digit.0, is)

-- texts without slashes before slashes are the same
split_once : (xs ys us vs : List ℕ) → ((i : ℕ) → i < length xs → get_or xs i 0 ≢ 47) → ((i : ℕ) → i < length ys → get_or ys i 0 ≢ 47)
    → xs ++ 47 ∷ us ≡ ys ++ 47 ∷ vs → (xs ≡ ys) × (us ≡ vs)
split_once [] [] us vs h k e = (refl, cc)
split_once [] (y ∷ ys) us vs h k e = absurd (k 0 (omega arith) (sym (cc)))
split_once (x ∷ xs) [] us vs h k e = absurd (h 0 (omega arith) (cc))
split_once (x ∷ xs) (y ∷ ys) us vs h k e =
    let first : x ≡ y = cc in
    let rest = split_once xs ys us vs (λ i l. h (suc i) (omega arith)) (λ i l. k (suc i) (omega arith)) (cc) in
    (cc, rest.1)

pub one_step : (text : List ℕ) (s t : GridStep) → IsStepText text s → IsStepText text t → s ≡ t
one_step text s t is it =
    let parts = split_once (decimal s.numerator) (decimal t.numerator) (decimal s.denominator) (decimal t.denominator)
    (no_slash s.numerator is.step.numerator_small) (no_slash t.numerator it.step.numerator_small) (sym is.spells ∙ it.spells) in
    let numerator = decimal_injective s.numerator t.numerator (omega (arith, is.step.numerator_small)) (omega (arith, it.step.numerator_small)) parts.0 in
    let denominator = decimal_injective s.denominator t.denominator (omega (arith, is.step.denominator_small))
    (omega (arith, it.step.denominator_small)) parts.1 in
    λ i. record { numerator = numerator i; denominator = denominator i }

-- ---- the grid
pub one_grid : (value : Data) (g h : Grid) → IsGridIn value g → IsGridIn value h → g ≡ h
one_grid value g h is it =
    let texts : Some is.step.text ≡ Some it.step.text = sym is.step.is_member ∙ it.step.is_member in
    let text : it.step.text ≡ is.step.text = cc in
    let step : g.step ≡ h.step = one_step is.step.text g.step h.step is.step.is_text (subst (λ (t : List ℕ). IsStepText t h.step) text it.step.is_text) in
    let offsets : Some g.offset ≡ Some h.offset = sym is.offset ∙ it.offset in
    let offset : g.offset ≡ h.offset = cc in
    λ i. record { step = step i; offset = offset i }
