-- The path law: of two clear points of a line along an axis, the crossings at the first less those
-- at the second are those of the segment between them.
use Rattle.std.proofs.Common.{◌≡◌, refl, sym, ap, subst, ◌∙◌, arith, List, [], ◌∷◌, ℤ, pos, ◌-ℤ◌, ◌*ℤ◌, neg_ℤ, ◌<ℤ◌}
use Rattle.ember_algebra.proofs.Laws.{linear}
use Rattle.ember_algebra.proofs.Order.{by_sign, pos_mul, square_nonneg}
use Rattle.ember_model.specs.declared.tri.Tri.{Tri}
use Rattle.ember_model.specs.declared.point.Spot.{Spot}
use Rattle.ember_model.specs.declared.point.Axis.{Axis}
use Rattle.ember_model.specs.declared.face.Face.{Face}
use Rattle.ember_model.specs.Planes.{value_at}
use Rattle.ember_model.specs.Points.{scaled, moved, DifferAlong}
use Rattle.ember_model.specs.Clear.{AreClear}
use Rattle.ember_model.specs.Meshes.{wind, faces_of, IsBalanced}
use Rattle.ember_model.proofs.SignTests.{negative_not}
use Rattle.ember_model.proofs.Legs.{leg_off, face_leg}
use Rattle.ember_model.proofs.LegSigns.{moved_zero, moved_back, gap_along, is_moved}
use Rattle.ember_model.proofs.ScaledPoints.{crossing_scaled, clear_scaled, leg_scaled, leg_back}
use Rattle.ember_law.specs.Counts.{leg_wind}
use Rattle.ember_law.proofs.Axes.{axes_agree}

-- ---- lists of faces
wind_scaled : (a : Axis) (k : ℤ) (p : Spot) (fs : List Face) → pos 0 <ℤ k → wind a fs (scaled k p) ≡ wind a fs p
wind_scaled a k p [] l = refl
wind_scaled a k p (f ∷ fs) l = let x = crossing_scaled f a k p l in let y = wind_scaled a k p fs l in omega (arith, linear, x, y)

are_clear_scaled : (k : ℤ) (p : Spot) (fs : List Face) → pos 0 <ℤ k → AreClear fs p → AreClear fs (scaled k p)
are_clear_scaled k p [] l c = tt
are_clear_scaled k p (f ∷ fs) l c = (clear_scaled f k p l c.0, are_clear_scaled k p fs l c.1)

leg_wind_scaled : (k m : ℤ) (p q : Spot) (fs : List Face) → pos 0 <ℤ k → pos 0 <ℤ m → leg_wind fs (scaled k p) (scaled m q) ≡ leg_wind fs p q
leg_wind_scaled k m p q [] lk lm = refl
leg_wind_scaled k m p q (f ∷ fs) lk lm =
    let x = leg_scaled f k m p q lk lm in let y = leg_wind_scaled k m p q fs lk lm in omega (arith, linear, x, y)

leg_wind_back : (p q : Spot) (fs : List Face) → pos 0 <ℤ p.w → pos 0 <ℤ q.w → leg_wind fs q p ≡ neg_ℤ (leg_wind fs p q)
leg_wind_back p q [] wp wq = refl
leg_wind_back p q (f ∷ fs) wp wq =
    let x = leg_back f p q wp wq in let y = leg_wind_back p q fs wp wq in omega (arith, linear, x, y)

-- ---- one weight
forward : (a : Axis) (p : Spot) (c : ℤ) (fs : List Face) → pos 0 <ℤ p.w → pos 0 <ℤ c → AreClear fs (moved p a c) →
    wind a fs p -ℤ wind a fs (moved p a c) ≡ leg_wind fs p (moved p a c)
forward a p c [] w l k = refl
forward a p c (f ∷ fs) w l k =
    let x = face_leg f a p c w l k.0 in let y = forward a p c fs w l k.1 in omega (arith, linear, x, y)

-- a segment of no length
nowhere : (p : Spot) (fs : List Face) → leg_wind fs p p ≡ pos 0
nowhere p [] = refl
nowhere p (f ∷ fs) =
    let v = value_at f.support p in
    let x = leg_off f p p (negative_not (v *ℤ v) (square_nonneg v)) in let y = nowhere p fs in omega (arith, linear, x, y)

-- forward, backward, or nowhere
one_weight : (a : Axis) (p q : Spot) (c : ℤ) (fs : List Face) → pos 0 <ℤ p.w → pos 0 <ℤ q.w → q ≡ moved p a c →
    AreClear fs p → AreClear fs q → wind a fs p -ℤ wind a fs q ≡ leg_wind fs p q
one_weight a p q c fs wp wq e kp kq =
    by_sign c
    (λ l. subst (λ (q : Spot). wind a fs p -ℤ wind a fs q ≡ leg_wind fs p q) (sym e) (forward a p c fs wp l (subst (λ (q : Spot). AreClear fs q) e kq)))
    (λ z. let f : q ≡ p = e ∙ ap (λ (c : ℤ). moved p a c) z ∙ moved_zero p a in
    subst (λ (q : Spot). wind a fs p -ℤ wind a fs q ≡ leg_wind fs p q) (sym f) (let n = nowhere p fs in omega (arith, linear, n)))
    (λ l. let f : p ≡ moved q a (neg_ℤ c) = moved_back p a c ∙ ap (λ (q : Spot). moved q a (neg_ℤ c)) (sym e) in
    let m : pos 0 <ℤ neg_ℤ c = omega (arith, linear) in
    let r : wind a fs q -ℤ wind a fs p ≡ leg_wind fs q p =
    subst (λ (p : Spot). wind a fs q -ℤ wind a fs p ≡ leg_wind fs q p) (sym f)
    (forward a q (neg_ℤ c) fs wq m (subst (λ (p : Spot). AreClear fs p) f kp)) in
    let b = leg_wind_back p q fs wp wq in omega (arith, linear, r, b))

-- ---- any weights
-- of any faces, where the axis is the one along which the points differ
pub along_itself : (a : Axis) (p q : Spot) (fs : List Face) → pos 0 <ℤ p.w → pos 0 <ℤ q.w → DifferAlong a p q →
    AreClear fs p → AreClear fs q → wind a fs p -ℤ wind a fs q ≡ leg_wind fs p q
along_itself a p q fs lp lq d kp kq =
    let r = one_weight a (scaled q.w p) (scaled p.w q) (gap_along a (scaled q.w p) (scaled p.w q)) fs (pos_mul lq lp)
    (pos_mul lp lq) (is_moved a p q d) (are_clear_scaled q.w p fs lq kp) (are_clear_scaled p.w q fs lp kq) in
    let x = wind_scaled a q.w p fs lq in let y = wind_scaled a p.w q fs lp in let z = leg_wind_scaled q.w p.w p q fs lq lp in omega (arith, linear, r, x, y, z)

-- along any axis
pub path_law : (a b : Axis) (p q : Spot) (ts : List Tri) → IsBalanced ts → pos 0 <ℤ p.w → pos 0 <ℤ q.w →
    DifferAlong a p q → AreClear (faces_of ts) p → AreClear (faces_of ts) q →
    wind b (faces_of ts) p -ℤ wind b (faces_of ts) q ≡ leg_wind (faces_of ts) p q
path_law a b p q ts l lp lq d kp kq =
    let r = along_itself a p q (faces_of ts) lp lq d kp kq in let x = axes_agree a b p ts l lp kp in let y =
    axes_agree a b q ts l lq kq in omega (arith, linear, r, x, y)
