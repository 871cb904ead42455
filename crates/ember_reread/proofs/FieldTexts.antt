-- Fields: what is read of them, and that nothing else could be.
use Rattle.std.proofs.Common.{◌≡◌, sym, subst, ◌∙◌, ℕ, ◌^◌, ◌<◌, List, ◌∷◌, ℤ}
use Rattle.ember_reread.specs.declared.fields.Four.{Four}
use Rattle.ember_reread.specs.Numbers.{IsNumberAt}
use Rattle.ember_reread.specs.Lines.{IsField, AreFields}
use Rattle.ember_reread.proofs.NumberTexts.{tail_injective, number_rest, number_once}

-- ---- one field
-- behind the space is the field's number
field_number : {most : ℕ} {z : ℤ} {bytes s rest : List ℕ} → bytes ≡ 32 ∷ s → IsField most z bytes rest → IsNumberAt most z s rest
field_number e h = record { small = h.small; ends = h.ends; is = tail_injective (sym e ∙ h.is) }

-- a text has one field at its front: the rest is the same
pub same_rest : {m n : ℕ} {y z : ℤ} {bytes r s : List ℕ} → IsField m y bytes r → IsField n z bytes s → r ≡ s
same_rest {y = y} {z = z} h k = number_rest y z (field_number h.is h) (field_number h.is k)

-- a text has one number as a field at its front
pub same_field : {m : ℕ} {y z : ℤ} {bytes r s : List ℕ} → m < 10 ^ 64 → IsField m y bytes r → IsField m z bytes s → y ≡ z
same_field {y = y} {z = z} l h k = number_once y z l (field_number h.is h) (field_number h.is k)

-- ---- four fields
abbrev NoField : ℕ → List ℕ → Type 0
NoField most bytes = (z : ℤ) (rest : List ℕ) → IsField most z bytes rest → ⊥

module _ {most last : ℕ} {bytes b : List ℕ} {x : ℤ} (hx : IsField most x bytes b) where
  second : (v : Four) (rest : List ℕ) (h : AreFields most last v bytes rest) → IsField most v.y b h.after_y
  second v rest h = subst (λ l. IsField most v.y l h.after_y) (same_rest h.x hx) h.y

  pub no_second : NoField most b → (v : Four) (rest : List ℕ) → AreFields most last v bytes rest → ⊥
  no_second f v rest h = f _ _ (second v rest h)

  module _ {y : ℤ} {c : List ℕ} (hy : IsField most y b c) where
    third : (v : Four) (rest : List ℕ) (h : AreFields most last v bytes rest) → IsField most v.z c h.after_z
    third v rest h = subst (λ l. IsField most v.z l h.after_z) (same_rest (second v rest h) hy) h.z

    pub no_third : NoField most c → (v : Four) (rest : List ℕ) → AreFields most last v bytes rest → ⊥
    no_third f v rest h = f _ _ (third v rest h)

    pub no_last : {z : ℤ} {d : List ℕ} → IsField most z c d → NoField last d → (v : Four) (rest : List ℕ) → AreFields most last v bytes rest → ⊥
    no_last hz f v rest h = f _ _ (subst (λ l. IsField last v.w l rest) (same_rest (third v rest h) hz) h.w)

-- a line has one reading as four fields
pub same_fields : {m n : ℕ} {u v : Four} {bytes r s : List ℕ} → m < 10 ^ 64 → n < 10 ^ 64 → AreFields m n u bytes r →
    AreFields m n v bytes s → (u ≡ v) × (r ≡ s)
same_fields {m} {n} {u} {v} {bytes} {r} {s} l k h i =
    let ex = same_field l h.x i.x in
    let hy = subst (λ b. IsField m u.y b h.after_y) (same_rest h.x i.x) h.y in
    let ey = same_field l hy i.y in
    let hz = subst (λ b. IsField m u.z b h.after_z) (same_rest hy i.y) h.z in
    let ez = same_field l hz i.z in
    let hw = subst (λ b. IsField n u.w b r) (same_rest hz i.z) h.w in
    let ew = same_field k hw i.w in
    (λ j. record { x = ex j; y = ey j; z = ez j; w = ew j }, same_rest hw i.w)
