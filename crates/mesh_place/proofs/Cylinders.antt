-- The corners of cylinders, one after another
use Rattle.std.proofs.Common.{◌≡◌, ◌<◌, ℕ, ◌+◌, ◌*◌, ◌/◌, ◌%◌, ◌^◌, List, [], ◌∷◌, ◌++◌, map, refl, ap, ◌∙◌, ℤ, pos, ◌*ℤ◌}
use Rattle.std.specs.List.{AllZip, range_with_len}
use Rattle.std.proofs.lemmas.List.{map-append}
use Rattle.ember_algebra.proofs.Lists.{AllZip-push, range_more}
use Rattle.ember_algebra.proofs.Ring.{◌⊗◌, num, ◌≈◌, solve, cancels}
use Rattle.mesh_read.specs.Surface.Surfaces.{Point}
use Rattle.mesh_place.specs.declared.exact.points.ExactPoint.{ExactPoint}
use Rattle.mesh_place.specs.declared.surface.transformed.TransformedPoint.{TransformedPoint}
use Rattle.mesh_place.specs.Integers.{integer_of}
use Rattle.mesh_place.specs.Decimals.{over_units}
use Rattle.mesh_place.specs.Points.{IsExactPoint}
use Rattle.mesh_place.specs.AffineMaps.{Affine}
use Rattle.mesh_place.specs.Directions.{Direction, IsDirection}
use Rattle.mesh_place.specs.Images.{IsImage, transformed_point}
use Rattle.mesh_place.specs.Shapes.{HasRoundCorner, IsImageOfCorner}

-- a number over one is the same number over a power of ten
over_one : (n m t : ℤ) → n ≡ m *ℤ t → n *ℤ pos 1 ≡ m *ℤ t
over_one n m t e = rw e (solve 2 (λ m t. m ⊗ t ⊗ num (pos 1) ≈ m ⊗ t) cancels m t)

-- a corner by its direction and its height
pub corner_is_round : (sides index : ℕ) (d : Direction) (e : ExactPoint) (before : ℤ) → IsDirection (index / 2) sides d →
    integer_of e.x ≡ d.cosine → integer_of e.y ≡ d.sine → integer_of e.z ≡ before *ℤ pos (10 ^ 20) → before ≡ pos (index % 2) →
    integer_of e.w ≡ pos (10 ^ 20) → HasRoundCorner sides index e
corner_is_round sides index d e before right x y z low w = record {
  corner = record { x = over_units d.cosine 20; y = over_units d.sine 20; z = over_units (pos (index % 2)) 0 };
  round = record { direction = d; right = right; x = refl; y = refl; z = refl };
  exact = record {
    x = record { same = ap (λ (n : ℤ). n *ℤ pos (10 ^ 20)) x };
    y = record { same = ap (λ (n : ℤ). n *ℤ pos (10 ^ 20)) y };
    z = record { same = over_one (integer_of e.z) (pos (index % 2)) (pos (10 ^ 20)) (z ∙ ap (λ (n : ℤ). n *ℤ pos (10 ^ 20)) low) };
    w = w;
  };
}

-- the image of a corner more
pub corners_more : (a : Affine) (sides index : ℕ) (e : ExactPoint) (now new : List TransformedPoint) (q : TransformedPoint) →
    AllZip (IsImageOfCorner a sides) (range_with_len 0 index) (map transformed_point now) → HasRoundCorner sides index e →
    ((p : Point) → IsExactPoint p 20 e → IsImage a p (transformed_point q)) → new ≡ now ++ q ∷ [] →
    AllZip (IsImageOfCorner a sides) (range_with_len 0 (index + 1)) (map transformed_point new)
corners_more a sides index e now new q before round image add =
    let points : map transformed_point new ≡ map transformed_point now ++ transformed_point q ∷ [] =
    ap (map transformed_point) add ∙ map-append transformed_point now (q ∷ []) in
    rw (range_more index, points)
    (AllZip-push (IsImageOfCorner a sides) (range_with_len 0 index) (map transformed_point now) index (transformed_point q) before
    (record { corner = round.corner; round = round.round; image = image round.corner round.exact }))
