use mir.Syntax.{w128}
use lib.Signed.{lt_z}
use Rattle.std.proofs.Common.{◌≡◌, refl, sym, ap, ◌∙◌, Bool, true, false, ◌&&◌, ℤ, pos}
use Rattle.ember_algebra.specs.Sign.{is_negative}
use Rattle.ember_algebra.proofs.Exact.{input, stored, ◌&◌, done, exact}
use Rattle.ember_model.proofs.SignTests.{negative_in, negative_not, less_out, not_less_out}
use Rattle.ember_model.proofs.rays.all_below.Goals as goal

tested : (z : ℤ) → lt_z z (pos 0) ≡ is_negative z
tested z = by (lt_z z (pos 0)) refl
  where
    by : (b : Bool) → lt_z z (pos 0) ≡ b → lt_z z (pos 0) ≡ is_negative z
    by true e = e ∙ sym (negative_in (less_out z (pos 0) e))
    by false e = e ∙ sym (negative_not z (not_less_out z (pos 0) e))

-- what a test of a stored number says of the number
of_stored : {z a : ℤ} {b : Bool} → z ≡ a → lt_z z (pos 0) ≡ b → is_negative a ≡ b
of_stored {z} {a} k e = sym (ap (λ (z : ℤ). lt_z z (pos 0)) k ∙ tested a) ∙ e

pub returns-then-f-lt0 : goal.returns-then-f-lt0
returns-then-f-lt0 c =
    let s : is_negative c.args.s ≡ true = of_stored (exact (c.requires.s & done) (stored w128 (input 0)) tt) c.if-s-lt0.true in
    let e : is_negative c.args.e ≡ true = of_stored (exact (c.requires.e & done) (stored w128 (input 0)) tt) c.if-e-lt0.true in
    let f : is_negative c.args.f ≡ true = of_stored (exact (c.requires.f & done) (stored w128 (input 0)) tt) c.if-f-lt0.true in
    ap (λ (z : ℤ). lt_z z (pos 0)) (exact (c.requires.g & done) (stored w128 (input 0)) tt) ∙ tested c.args.g
    ∙ sym (λ i. s i && (e i && (f i && is_negative c.args.g)))

pub returns-else-f-lt0 : goal.returns-else-f-lt0
returns-else-f-lt0 c =
    let s : is_negative c.args.s ≡ true = of_stored (exact (c.requires.s & done) (stored w128 (input 0)) tt) c.if-s-lt0.true in
    let e : is_negative c.args.e ≡ true = of_stored (exact (c.requires.e & done) (stored w128 (input 0)) tt) c.if-e-lt0.true in
    let f : is_negative c.args.f ≡ false = of_stored (exact (c.requires.f & done) (stored w128 (input 0)) tt) c.if-f-lt0.false in
    c.if-f-lt0.false ∙ sym (λ i. s i && (e i && (f i && is_negative c.args.g)))

pub returns-else-e-lt0 : goal.returns-else-e-lt0
returns-else-e-lt0 c =
    let s : is_negative c.args.s ≡ true = of_stored (exact (c.requires.s & done) (stored w128 (input 0)) tt) c.if-s-lt0.true in
    let e : is_negative c.args.e ≡ false = of_stored (exact (c.requires.e & done) (stored w128 (input 0)) tt) c.if-e-lt0.false in
    c.if-e-lt0.false ∙ sym (λ i. s i && (e i && (is_negative c.args.f && is_negative c.args.g)))

pub returns-else-s-lt0 : goal.returns-else-s-lt0
returns-else-s-lt0 c =
    let s : is_negative c.args.s ≡ false = of_stored (exact (c.requires.s & done) (stored w128 (input 0)) tt) c.if-s-lt0.false in
    c.if-s-lt0.false ∙ sym (λ i. s i && (is_negative c.args.e && (is_negative c.args.f && is_negative c.args.g)))
