-- Triangles that aren't near a box: no segment in the box meets their faces.
use Rattle.std.proofs.Common.{◌≡◌, ◌⊎◌, inl, inr, refl, ap, ◌∙◌, Bool, true, false, not, cond, ◌&&◌, List, [], ◌∷◌, All, map, filter, pos, ◌*ℤ◌}
use Rattle.std.specs.List.{AllByRecursion}
use Rattle.std.proofs.lemmas.List.Elements.{All-head, All-tail}
use Rattle.ember_algebra.specs.Sign.{sign, is_negative}
use Rattle.ember_model.specs.declared.point.Spot.{Spot}
use Rattle.ember_model.specs.declared.point.Axis.{Axis}
use Rattle.ember_model.specs.declared.face.Face.{Face}
use Rattle.ember_model.specs.declared.tri.Tri.{Tri}
use Rattle.ember_model.specs.Planes.{value_at}
use Rattle.ember_model.specs.Faces.{is_flat, face_of, is_inside, is_in_closed, between, leg}
use Rattle.ember_model.specs.Clear.{AreClear}
use Rattle.ember_model.specs.Meshes.{wind, faces_of, IsBalanced}
use Rattle.ember_model.proofs.SignTests.{clash}
use Rattle.ember_model.proofs.Hits.{inside_parts, closed_parts, inside_closed}
use Rattle.ember_law.specs.Counts.{leg_vector}
use Rattle.ember_law.specs.Laws.{MissesFace}
use Rattle.ember_law.proofs.FlatTriangles.{flat_case, flat_out, flat_leg}
use Rattle.ember_law.proofs.Separation.{combination}
use Rattle.ember_law.proofs.Segments.{segment_law}
use Rattle.ember_law.proofs.Tallies.{tally_filter}
use Rattle.ember_box.specs.Boxes.{Cell}
use Rattle.ember_box.specs.Near.{is_near, near}
use Rattle.ember_ref.specs.ClosedBoxes.{HasPoint}
use Rattle.ember_ref.proofs.NearPoints.{near_point}
use Rattle.ember_ref.proofs.BoxPoints.{has_combination, has_between}

-- ---- crossings

leg_outside : (f : Face) (p q : Spot) → is_inside f (between f.support p q) ≡ false → leg f p q ≡ pos 0
unfolding leg
leg_outside f p q e =
    ap (λ (b : Bool). cond (is_negative (value_at f.support p *ℤ value_at f.support q) && b)
    (sign (value_at f.support q)) (pos 0)) e ∙ none (is_negative (value_at f.support p *ℤ value_at f.support q))
  where
    none : (b : Bool) → cond (b && false) (sign (value_at f.support q)) (pos 0) ≡ pos 0
    none true = refl
    none false = refl

-- a segment between two points of a closed box doesn't cross a triangle that isn't near the box
pub leg_far : (c : Cell) (t : Tri) (p q : Spot) → HasPoint c p → HasPoint c q → is_near c t ≡ false → leg (face_of t) p q ≡ pos 0
leg_far c t p q f g far = by (flat_case t)
  where
    outside : is_flat t ≡ false → (b : Bool) → is_inside (face_of t) (between (face_of t).support p q) ≡ b →
        is_inside (face_of t) (between (face_of t).support p q) ≡ false
    outside nf true e =
        let x = between (face_of t).support p q in let w = (inside_parts (face_of t) x e).0 in
        absurd (clash (near_point c t x nf (has_between (face_of t).support c p q f g w) (inside_closed (face_of t) x e)) far)
    outside nf false e = e

    by : (is_flat t ≡ true) ⊎ (is_flat t ≡ false) → leg (face_of t) p q ≡ pos 0
    by (inl e) = flat_leg p q t (flat_out t e)
    by (inr e) = leg_outside (face_of t) p q (outside e (is_inside (face_of t) (between (face_of t).support p q)) refl)

-- so the crossings in the box are those of the triangles near it
pub legs_near : (ts : List Tri) (c : Cell) (p q : Spot) → HasPoint c p → HasPoint c q → leg_vector (near ts c) p q ≡ leg_vector ts p q
legs_near ts c p q f g = tally_filter (λ h. leg h p q) (flat_leg p q) (λ t. is_near c t) (λ t e. leg_far c t p q f g e) ts

-- ---- segments
pub misses_far : (c : Cell) (t : Tri) (p q : Spot) → is_flat t ≡ false → is_near c t ≡ false → HasPoint c p → HasPoint c q → MissesFace p q (face_of t)
misses_far c t p q nf far f g k m a b = by (is_in_closed (face_of t) (combination k m p q)) refl
  where
    by : (r : Bool) → is_in_closed (face_of t) (combination k m p q) ≡ r → is_in_closed (face_of t) (combination k m p q) ≡ false
    by true e =
        let x = combination k m p q in let w = (closed_parts (face_of t) x e).0 in
        absurd (clash (near_point c t x nf (has_combination c k m p q f g a b w) e) far)
    by false e = e

all_missed : (c : Cell) (p q : Spot) (ts : List Tri) → HasPoint c p → HasPoint c q → All (λ t. is_near c t ≡ false) ts →
    AllByRecursion (MissesFace p q) (faces_of ts)
all_missed c p q [] f g h = tt
all_missed c p q (t ∷ ts) f g h =
    by (is_flat t) refl (all_missed c p q ts f g (All-tail (λ t. is_near c t ≡ false) t ts h))
  where
    by : (b : Bool) → is_flat t ≡ b → AllByRecursion (MissesFace p q) (faces_of ts) →
        AllByRecursion (MissesFace p q) (map face_of
        (cond (not b) (t ∷ filter (λ t. not (is_flat t)) ts) (filter (λ t. not (is_flat t)) ts)))
    by true e r = r
    by false e r = (misses_far c t p q e (All-head (λ t. is_near c t ≡ false) t ts h) f g, r)

-- a mesh with no triangle near the box has one winding number at all clear points of the box
pub winds_far : (a b : Axis) (c : Cell) (p q : Spot) (ts : List Tri) → IsBalanced ts →
    All (λ t. is_near c t ≡ false) ts → HasPoint c p → HasPoint c q → AreClear (faces_of ts) p →
    AreClear (faces_of ts) q → wind a (faces_of ts) p ≡ wind b (faces_of ts) q
winds_far a b c p q ts l h f g kp kq = segment_law a b p q ts l f.weight g.weight kp kq (all_missed c p q ts f g h)
