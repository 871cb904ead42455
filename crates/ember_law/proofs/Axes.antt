-- At a clear point of a balanced mesh the crossings along all axes agree.
use Rattle.std.proofs.Common.{◌≡◌, refl, sym, ◌∙◌, arith, List, le_refl, pos, ◌<ℤ◌}
use Rattle.ember_algebra.specs.Sums.{total}
use Rattle.ember_algebra.proofs.Laws.{linear}
use Rattle.ember_algebra.proofs.Large.{eventually_both}
use Rattle.ember_algebra.proofs.Sums.{total_same}
use Rattle.ember_model.specs.declared.tri.Tri.{Tri}
use Rattle.ember_model.specs.declared.point.Spot.{Spot}
use Rattle.ember_model.specs.declared.point.Axis.{Axis}
use Rattle.ember_model.specs.declared.point.Axis.TheVariants.{X, Y, Z}
use Rattle.ember_model.specs.Planes.{unit}
use Rattle.ember_model.specs.Points.{offset_by}
use Rattle.ember_model.specs.Faces.{face_of, crossing}
use Rattle.ember_model.specs.Clear.{AreClear}
use Rattle.ember_model.specs.Meshes.{wind, faces_of, IsBalanced}
use Rattle.ember_model.proofs.SeenCrossings.{seen_crossing, crossing_seen}
use Rattle.ember_law.proofs.Shifted.{weight_shifted}
use Rattle.ember_law.proofs.FlatTriangles.{flat_crossing, total_faces}
use Rattle.ember_law.proofs.Directions.{IsAcross, directions_agree}
use Rattle.ember_law.proofs.Generic.{generic_shifted, wind_shifted}

-- the winding number of triangles, as the sum of their crossings seen from the point
pub wind_seen : (a : Axis) (p : Spot) (ts : List Tri) → pos 0 <ℤ p.w → wind a (faces_of ts) p ≡ total (seen_crossing (unit a) p) ts
wind_seen a p ts w =
    total_faces (λ f. crossing f a p) (flat_crossing a p) ts
    ∙ total_same (λ t. crossing (face_of t) a p) (seen_crossing (unit a) p) (λ t. crossing_seen a p t w) ts

two_axes : (a b : Axis) → IsAcross (unit a) (unit b) → (p : Spot) (ts : List Tri) → IsBalanced ts → pos 0 <ℤ p.w →
    AreClear (faces_of ts) p → wind a (faces_of ts) p ≡ wind b (faces_of ts) p
two_axes a b h p ts l w c =
    let fs = faces_of ts in
    let e = eventually_both (weight_shifted p w)
    (eventually_both (wind_shifted a p fs w c)
    (eventually_both (wind_shifted b p fs w c)
    (eventually_both (generic_shifted (unit a) p ts w) (generic_shifted (unit b) p ts w)))) in
    let k = e.from in let q = offset_by p (pos k) in let r = e.holds k (le_refl k) in
    r.1.0 ∙ wind_seen a q ts r.0 ∙ directions_agree (unit a) (unit b) q ts l h r.1.1.1.0 r.1.1.1.1 ∙ sym (wind_seen b q ts r.0) ∙ sym r.1.1.0

xy : (p : Spot) (ts : List Tri) → IsBalanced ts → pos 0 <ℤ p.w → AreClear (faces_of ts) p → wind X (faces_of ts) p ≡ wind Y (faces_of ts) p
xy p ts l w c = two_axes X Y (λ x y z. absurd (omega (arith, linear, z))) p ts l w c

yz : (p : Spot) (ts : List Tri) → IsBalanced ts → pos 0 <ℤ p.w → AreClear (faces_of ts) p → wind Y (faces_of ts) p ≡ wind Z (faces_of ts) p
yz p ts l w c = two_axes Y Z (λ x y z. absurd (omega (arith, linear, x))) p ts l w c

to_x : (a : Axis) (p : Spot) (ts : List Tri) → IsBalanced ts → pos 0 <ℤ p.w → AreClear (faces_of ts) p → wind X (faces_of ts) p ≡ wind a (faces_of ts) p
to_x X p ts l w c = refl
to_x Y p ts l w c = xy p ts l w c
to_x Z p ts l w c = xy p ts l w c ∙ yz p ts l w c

-- at a clear point, balanced triangles wind the same along any two axes
pub axes_agree : (a b : Axis) (p : Spot) (ts : List Tri) → IsBalanced ts → pos 0 <ℤ p.w → AreClear (faces_of ts) p →
    wind a (faces_of ts) p ≡ wind b (faces_of ts) p
axes_agree a b p ts l w c = sym (to_x a p ts l w c) ∙ to_x b p ts l w c
