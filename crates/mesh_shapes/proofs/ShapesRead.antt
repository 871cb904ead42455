-- What readers find in the text of a shape
use Rattle.std.proofs.Common.{◌≡◌, ◌≢◌, ℕ, ◌^◌, ◌<◌, List, [], ◌∷◌, sym, ap, ◌∙◌, arith, ℤ, pos, ◌*ℤ◌, Ok}
use Rattle.std.specs.List.{AllZip}
use Rattle.std.proofs.lemmas.Int.{ints}
use Rattle.std.proofs.Math.IntN.{*ℤ_comm}
use Rattle.ember_algebra.proofs.Laws.{*ℤ_assoc}
use Rattle.ember_algebra.proofs.Order.{cancel_eq}
use Rattle.mesh_number.specs.Number.Fractions.{Fraction}
use Rattle.mesh_number.proofs.DigitNumbers.{pow_ten_pos}
use Rattle.mesh_read.specs.Off.ReadOff.{read_off_of}
use Rattle.mesh_read.specs.Surface.Surfaces.{Point, Content}
use Rattle.mesh_placing.specs.declared.shapes.Shape.{Shape}
use Rattle.mesh_write.specs.declared.vertices.point.DecimalPoint.{DecimalPoint}
use Rattle.mesh_write.specs.Reading.Readings.{IsInUnits, IsSamePoint}
use Rattle.mesh_write.proofs.OffTexts.{off_is_read}
use Rattle.mesh_shapes.specs.Shapes.{IsSameNumber, IsSamePlace, IsShapeText, IsShape}

regroup : (p a d : ℤ) → p *ℤ (a *ℤ d) ≡ (a *ℤ p) *ℤ d
regroup p a d = sym (*ℤ_assoc p a d) ∙ ap (λ (i : ℤ). i *ℤ d) (*ℤ_comm p a)

exchanged : (u d e : ℤ) → (u *ℤ d) *ℤ e ≡ (u *ℤ e) *ℤ d
exchanged u d e = *ℤ_assoc u d e ∙ ap (λ (i : ℤ). u *ℤ i) (*ℤ_comm d e) ∙ sym (*ℤ_assoc u e d)

not_nought : (n : ℕ) → 0 < n → pos n ≢ pos 0
not_nought n some e = omega (arith, ints, e)

same_number : (places : ℕ) (units : ℤ) (v w : Fraction) → IsInUnits places units v → IsInUnits places units w → IsSameNumber v w
same_number places units v w a b =
    let p = pos (10 ^ places) in
    let d = pos v.denominator in
    let e = pos w.denominator in
    cancel_eq (not_nought (10 ^ places) (pow_ten_pos places))
    (regroup p v.numerator e ∙ ap (λ (i : ℤ). i *ℤ e) a.same ∙ exchanged units d e
    ∙ ap (λ (i : ℤ). i *ℤ d) (sym b.same) ∙ sym (regroup p w.numerator d))

same_places : (places : ℕ) (ps : List DecimalPoint) (qs rs : List Point) → AllZip (IsSamePoint places) ps qs →
    AllZip (IsSamePoint places) ps rs → AllZip IsSamePlace qs rs
same_places places [] [] [] a b = tt
same_places places [] [] (r ∷ rs) a b = absurd b
same_places places [] (q ∷ qs) rs a b = absurd a
same_places places (p ∷ ps) [] rs a b = absurd a
same_places places (p ∷ ps) (q ∷ qs) [] a b = absurd b
same_places places (p ∷ ps) (q ∷ qs) (r ∷ rs) a b = (
  record {
    x = same_number places p.x q.x r.x a.0.x b.0.x;
    y = same_number places p.y q.y r.y a.0.y b.0.y;
    z = same_number places p.z q.z r.z a.0.z b.0.z;
  },
  same_places places ps qs rs a.1 b.1,
)

pub shape_is_read : (shape : Shape) (text : List ℕ) → IsShapeText shape text → (read : Content) × (read_off_of text ≡ Ok read) × IsShape shape read
shape_is_read shape text h =
    let w = h.written in
    let found = off_is_read w.places w.points w.triangles w.readable in (
      found.0,
      ap read_off_of w.bytes ∙ found.1,
      record {
        drawn = h.drawn;
        right = h.right;
        points = same_places w.places w.points h.drawn.points found.0.points w.same.points found.2.points;
        triangles = found.2.triangles ∙ sym w.same.triangles;
      },
    )
