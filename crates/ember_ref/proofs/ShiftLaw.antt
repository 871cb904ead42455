-- The vector at the reference point of a box's right half, by the triangles near the box: in each
-- scene that fits them.
use Rattle.std.proofs.Common.{◌≡◌, sym, ap, ◌∙◌, ◌^◌, ◌<◌, ℕ, List, ℤ, lit<, arith}
use Rattle.ember_model.specs.declared.point.Axis.{Axis}
use Rattle.ember_model.specs.declared.point.Axis.TheVariants.{X}
use Rattle.ember_model.specs.declared.tri.Tri.{Tri}
use Rattle.ember_model.specs.Limits.{narrow_limit}
use Rattle.ember_model.specs.Within.{normal_limit}
use Rattle.ember_model.proofs.SignTests.{ap2}
use Rattle.ember_law.specs.Counts.{added, leg_vector}
use Rattle.ember_law.proofs.Vectors.{balanced_legs}
use Rattle.ember_box.specs.Boxes.{Cell, right_half}
use Rattle.ember_box.specs.Reference.{reference_beside, vector_beside, FitsWithin, vector_at, Fits}
use Rattle.ember_ref.specs.References.{counts_beside, counts_at_right_half}
use Rattle.ember_ref.proofs.ReferenceLegs.{weight_beside, halves_differ}
use Rattle.ember_ref.proofs.ClearReferences.{clear_beside}
use Rattle.ember_ref.proofs.BoxPoints.{has_beside, has_half_beside}
use Rattle.ember_ref.proofs.FarTriangles.{legs_near}

-- the winding numbers at the right half's reference point, by those at the box's and the near triangles
pub shift_law_within : (m f : ℕ) (ts ns : List Tri) (c : Cell) (k : Axis) (counts : List ℤ) → normal_limit m < f → 0 < c.log k →
    FitsWithin m f ts ns c counts → vector_beside f ts (right_half c k) ≡ counts_beside f ns c k counts
shift_law_within m f ts ns c k counts tells l fit =
    let above : 0 < f = omega (arith, tells) in let h = right_half c k in
    let p = reference_beside f h.lo in let q = reference_beside f c.lo in
    let law = balanced_legs ts fit.scene.balanced k X p q (weight_beside f h.lo above) (weight_beside f c.lo above)
    (halves_differ f c k) (clear_beside m f h.lo tells ts fit.scene.within) (clear_beside m f c.lo tells ts fit.scene.within) in
    let legs = sym (legs_near ts c p q (has_half_beside f c k above l) (has_beside f c above))
    ∙ ap (λ (us : List Tri). leg_vector us p q) fit.near in
    law ∙ ap2 added fit.at legs

-- ---- on the narrow grid
-- what fits there is within its limit
pub fits_within : {ts ns : List Tri} {c : Cell} {counts : List ℤ} → Fits ts ns c counts → FitsWithin narrow_limit (2 ^ 27) ts ns c counts
fits_within f =
    record {
      scene = record {
        within = f.scene.valid;
        few = f.scene.few;
        few_meshes = f.scene.few_meshes;
        numbered = f.scene.numbered;
        balanced = f.scene.balanced;
      };
      near = f.near;
      at = f.at;
    }

-- the winding numbers at the right half's reference point, by those at the box's and the near triangles
pub shift_law : (ts ns : List Tri) (c : Cell) (k : Axis) (counts : List ℤ) → 0 < c.log k → Fits ts ns c counts →
    vector_at ts (right_half c k) ≡ counts_at_right_half ns c k counts
shift_law ts ns c k counts l f = shift_law_within narrow_limit (2 ^ 27) ts ns c k counts (lit< tt) l (fits_within f)
