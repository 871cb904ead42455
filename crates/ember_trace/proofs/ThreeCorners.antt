-- On which side of a plane a path ends: the first of three corners that isn't on the plane tells it.
use Rattle.std.proofs.Common.{◌≡◌, sym, ap, ◌∙◌}
use Rattle.ember_algebra.specs.declared.Sign.{Sign}
use Rattle.ember_algebra.specs.declared.Sign.TheVariants.{Zero}
use Rattle.ember_model.specs.declared.plane.Plane.{Plane}
use Rattle.ember_ref.specs.References.{or_sign}
use Rattle.ember_trace.specs.Edges.{side_at}
use Rattle.ember_trace.specs.Paths.{Path, side_at_end}
use Rattle.ember_trace.proofs.VertexSides.{or_next, or_first}

-- which of the three corners tells the side
pub by_first : (w : Path) (h : Plane) (r : Sign) → r ≡ side_at h w.first_corner → (r ≡ Zero → ⊥) → r ≡ side_at_end w h
by_first w h r e n =
    let rest = or_sign (side_at h w.second_corner) (side_at h w.third_corner) in or_first r rest n ∙ ap (λ (s : Sign). or_sign s rest) e

pub by_next : (w : Path) (h : Plane) (r s : Sign) → r ≡ side_at h w.first_corner → r ≡ Zero →
    s ≡ side_at h w.second_corner → (s ≡ Zero → ⊥) → s ≡ side_at_end w h
by_next w h r s e z f n =
    or_first s (side_at h w.third_corner) n ∙ ap (λ (s : Sign). or_sign s (side_at h w.third_corner)) f
    ∙ or_next (side_at h w.first_corner) (or_sign (side_at h w.second_corner) (side_at h w.third_corner)) (sym e ∙ z)

pub by_last : (w : Path) (h : Plane) (r s t : Sign) → r ≡ side_at h w.first_corner → r ≡ Zero →
    s ≡ side_at h w.second_corner → s ≡ Zero → t ≡ side_at h w.third_corner → t ≡ side_at_end w h
by_last w h r s t e z f y g =
    g ∙ or_next (side_at h w.second_corner) (side_at h w.third_corner) (sym f ∙ y)
    ∙ or_next (side_at h w.first_corner) (or_sign (side_at h w.second_corner) (side_at h w.third_corner)) (sym e ∙ z)
