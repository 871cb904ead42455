-- What belongs of a triangle to a box is one list, and so are its regions.
use Rattle.std.proofs.Common.{◌≡◌, ℕ, refl, sym, subst, arith, List, pos, ◌<ℤ◌}
use Rattle.ember_algebra.specs.Relations.{Each, Chain}
use Rattle.ember_algebra.proofs.Laws.{linear}
use Rattle.ember_algebra.proofs.Relations.{each_unique, chain_unique}
use Rattle.ember_model.specs.declared.face.Face.{Face}
use Rattle.ember_model.specs.declared.tri.Tri.{Tri}
use Rattle.ember_model.specs.Planes.{value_at}
use Rattle.ember_model.specs.Faces.{Cuts}
use Rattle.ember_model.proofs.SignTests.{negative_out, positive_out, zero_out}
use Rattle.ember_box.specs.Boxes.{Cell}
use Rattle.ember_box.specs.Near.{tri_at}
use Rattle.ember_box.specs.Regions.{Wall, FaceIsAbove, FaceLiesOn, AreLeftByWall, cut, outside, in_high, stays, IsStart}
use Rattle.ember_box.specs.Regions.{CuttingPlane, AreLeftByCuttingPlane, splits, whole, cutting_planes, IsRegions}

-- a face that a plane cuts doesn't lie above it, nor on it
cut_not_above : (f : Face) (w : Wall) → Cuts f w.plane → FaceIsAbove f w.plane → ⊥
cut_not_above f w c a =
    let v = value_at w.plane c.some_below.at in let n : v <ℤ pos 0 = negative_out v c.some_below.holds in
    let p : pos 0 <ℤ v = positive_out v (a.holds c.some_below.at c.some_below.inside) in absurd (omega (arith, linear, n, p))

cut_not_on : (f : Face) (w : Wall) → Cuts f w.plane → FaceLiesOn f w.plane → ⊥
cut_not_on f w c o =
    let v = value_at w.plane c.some_below.at in let n : v <ℤ pos 0 = negative_out v c.some_below.holds in
    let z : v ≡ pos 0 = zero_out v (o.holds c.some_below.at c.some_below.inside) in absurd (omega (arith, linear, n, z))

wall_unique : (w : Wall) (f : Face) (ys zs : List Face) → AreLeftByWall w f ys → AreLeftByWall w f zs → ys ≡ zs
wall_unique w f ys zs (cut c) (cut d) = refl
wall_unique w f ys zs (cut c) (outside a) = absurd (cut_not_above f w c a)
wall_unique w f ys zs (cut c) (in_high h o) = absurd (cut_not_on f w c o)
wall_unique w f ys zs (cut c) (stays n a o) = absurd (n c)
wall_unique w f ys zs (outside a) (cut c) = absurd (cut_not_above f w c a)
wall_unique w f ys zs (outside a) (outside b) = refl
wall_unique w f ys zs (outside a) (in_high h o) = refl
wall_unique w f ys zs (outside a) (stays n b o) = absurd (b a)
wall_unique w f ys zs (in_high h o) (cut c) = absurd (cut_not_on f w c o)
wall_unique w f ys zs (in_high h o) (outside a) = refl
wall_unique w f ys zs (in_high h o) (in_high k p) = refl
wall_unique w f ys zs (in_high h o) (stays n a p) = absurd (p h o)
wall_unique w f ys zs (stays n a o) (cut c) = absurd (n c)
wall_unique w f ys zs (stays n a o) (outside b) = absurd (a b)
wall_unique w f ys zs (stays n a o) (in_high h p) = absurd (o h p)
wall_unique w f ys zs (stays n a o) (stays m b p) = refl

cutting_plane_unique : (b : CuttingPlane) (f : Face) (ys zs : List Face) → AreLeftByCuttingPlane b f ys → AreLeftByCuttingPlane b f zs → ys ≡ zs
cutting_plane_unique b f ys zs (splits m c) (splits n d) = refl
cutting_plane_unique b f ys zs (splits m c) (whole n) = absurd (n m c)
cutting_plane_unique b f ys zs (whole n) (splits m c) = absurd (n m c)
cutting_plane_unique b f ys zs (whole n) (whole m) = refl

start_unique : (c : Cell) (t : Tri) (fs gs : List Face) → IsStart c t fs → IsStart c t gs → fs ≡ gs
start_unique c t fs gs r q =
    chain_unique (λ w a b d. each_unique (wall_unique w)) r q

-- the regions of a triangle in a box are one list
pub regions_unique : (c : Cell) (ts : List Tri) (i : ℕ) (fs gs : List Face) → IsRegions c ts i fs → IsRegions c ts i gs → fs ≡ gs
regions_unique c ts i fs gs r q =
    chain_unique (λ b x y z. each_unique (cutting_plane_unique b)) r.cuts
    (subst (λ s. Chain (λ b. Each (AreLeftByCuttingPlane b)) (cutting_planes ts i) s gs)
    (sym (start_unique c (tri_at ts i) r.start q.start r.is_start q.is_start)) q.cuts)
