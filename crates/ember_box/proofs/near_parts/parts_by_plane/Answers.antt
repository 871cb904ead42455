use mir.Syntax.{w32, w64}
use Rattle.std.proofs.Common.{◌≡◌, sym, ap, ◌∙◌, subst, ◌*◌, Bool, true, false, cond, ◌&&◌, ℤ, int_le, to_z, of_z}
use Rattle.ember_algebra.specs.Size.{Small}
use Rattle.ember_algebra.specs.Sign.{is_negative}
use Rattle.ember_algebra.proofs.Exact.{input, stored, ◌&◌, done, exact}
use Rattle.ember_model.specs.declared.point.Axis.TheVariants.{X, Y, Z}
use Rattle.ember_model.specs.Limits.{broad_limit}
use Rattle.ember_model.specs.Planes.{support_of}
use Rattle.ember_model.specs.Within.{normal_limit}
use Rattle.ember_box.specs.declared.near_parts.NearParts.{NearParts}
use Rattle.ember_box.specs.Boxes.{in_steps}
use Rattle.ember_box.specs.Aabbs.{aabb_of_cell, aabb_of_tri, aabbs_meet, crosses, most_wall}
use Rattle.ember_box.specs.NearParts.{AreMargins, AreNearParts, change_size, margin_of_left, margin_of_right}
use Rattle.ember_box.proofs.NearByAabbs.{near_is}
use Rattle.ember_box.proofs.HalfCrossing.{margins_cross}
use Rattle.ember_box.proofs.InSteps.{above_in_steps}
use Rattle.ember_box.proofs.OneLook.{none_near, whole_by_plane, pair_by_plane}
use Rattle.ember_box.proofs.near_parts.parts_by_plane.Goals as goal

pub returns-then-not-are_both : goal.returns-then-not-are_both
returns-then-not-are_both c = λ n unit_box t a e o q.
    let box = in_steps n unit_box in let m = c.margins_of-margins.result in
    let off : crosses (support_of t) (aabb_of_cell box) ≡ false =
    (λ i. crosses (sym q i) (sym a.whole i)) ∙ sym
    (margins_cross c.args.p.now c.args.middles.now.whole m c.margins_of-margins.ensures) ∙ sym c.are_both.ensures
    ∙ c.if-not-are_both.true in
    let far = near_is box t ∙ (λ i. (aabbs_meet (sym e i) (sym a.whole i)) && off i) ∙ ap (λ b. b && false) o in
    subst (λ (p : NearParts). AreNearParts n unit_box t p) (sym c.no_parts.ensures) (none_near n unit_box t far)

-- the slope as the code hands it over
change_size_is : (n half : ℤ) {r : ℤ} → Small (normal_limit broad_limit) n → Small (2 * most_wall) half →
    r ≡ change_size (to_z w64 (of_z w64 n)) (to_z w32 (of_z w32 half)) → r ≡ change_size n half
change_size_is n half k l e =
    let a = exact (k & done) (stored w64 (input 0)) tt in let b = exact (l & done) (stored w32 (input 0)) tt in
    e ∙ (λ i. change_size (a i) (b i))

falls : (n : ℤ) {f : Bool} → Small (normal_limit broad_limit) n → f ≡ is_negative (to_z w64 (of_z w64 n)) → f ≡ is_negative n
falls n k e = e ∙ ap is_negative (exact (k & done) (stored w64 (input 0)) tt)

pub returns : goal.returns
returns c = λ n unit_box t a e o q.
    let box = in_steps n unit_box in let b = c.args.middles.now in let m = c.margins_of-margins.result in let p = c.args.p.now in
    let o' : aabbs_meet (aabb_of_tri t) (aabb_of_cell box) ≡ true = (λ i. aabbs_meet (sym e i) (sym a.whole i)) ∙ o in
    let on : crosses (support_of t) (aabb_of_cell box) ≡ true =
    (λ i. crosses (sym q i) (sym a.whole i)) ∙ sym (margins_cross p b.whole m c.margins_of-margins.ensures)
    ∙ sym c.are_both.ensures ∙ c.if-not-are_both.false in
    let am : AreMargins (support_of t) (aabb_of_cell box) m =
    subst (λ w. AreMargins (support_of t) w m) a.whole
    (subst (λ p. AreMargins p b.whole m) q c.margins_of-margins.ensures) in
    record {
      whole = whole_by_plane box t o' m am on;
      x = λ may. pair_by_plane box t o' m am on X b.x c.pair_by_plane.result (above_in_steps n unit_box X may) (a.x may)
          (c.pair_by_plane.ensures.left ∙ (λ i. int_le (e i).x.low b.x.at
          && int_le (change_size_is p.a b.x.half c.requires.plane.a c.requires.sized.x c.slope_of.ensures.change_size i)
          (cond (falls p.a c.requires.plane.a c.slope_of.ensures.falls i) m.above m.below))
          ∙ (λ i. int_le (aabb_of_tri t).x.low b.x.at
          && int_le (change_size (q i).a b.x.half) (margin_of_left (q i).a m)))
          (c.pair_by_plane.ensures.right ∙ (λ i. int_le b.x.at (e i).x.high
          && int_le (change_size_is p.a b.x.half c.requires.plane.a c.requires.sized.x c.slope_of.ensures.change_size i)
          (cond (falls p.a c.requires.plane.a c.slope_of.ensures.falls i) m.below m.above))
          ∙ (λ i. int_le b.x.at (aabb_of_tri t).x.high
          && int_le (change_size (q i).a b.x.half) (margin_of_right (q i).a m)));
      y = λ may. pair_by_plane box t o' m am on Y b.y c.pair_by_plane-2.result (above_in_steps n unit_box Y may) (a.y may)
          (c.pair_by_plane-2.ensures.left ∙ (λ i. int_le (e i).y.low b.y.at
          && int_le (change_size_is p.b b.y.half c.requires.plane.b c.requires.sized.y c.slope_of-2.ensures.change_size i)
          (cond (falls p.b c.requires.plane.b c.slope_of-2.ensures.falls i) m.above m.below))
          ∙ (λ i. int_le (aabb_of_tri t).y.low b.y.at
          && int_le (change_size (q i).b b.y.half) (margin_of_left (q i).b m)))
          (c.pair_by_plane-2.ensures.right ∙ (λ i. int_le b.y.at (e i).y.high
          && int_le (change_size_is p.b b.y.half c.requires.plane.b c.requires.sized.y c.slope_of-2.ensures.change_size i)
          (cond (falls p.b c.requires.plane.b c.slope_of-2.ensures.falls i) m.below m.above))
          ∙ (λ i. int_le b.y.at (aabb_of_tri t).y.high
          && int_le (change_size (q i).b b.y.half) (margin_of_right (q i).b m)));
      z = λ may. pair_by_plane box t o' m am on Z b.z c.pair_by_plane-3.result (above_in_steps n unit_box Z may) (a.z may)
          (c.pair_by_plane-3.ensures.left ∙ (λ i. int_le (e i).z.low b.z.at
          && int_le (change_size_is p.c b.z.half c.requires.plane.c c.requires.sized.z c.slope_of-3.ensures.change_size i)
          (cond (falls p.c c.requires.plane.c c.slope_of-3.ensures.falls i) m.above m.below))
          ∙ (λ i. int_le (aabb_of_tri t).z.low b.z.at
          && int_le (change_size (q i).c b.z.half) (margin_of_left (q i).c m)))
          (c.pair_by_plane-3.ensures.right ∙ (λ i. int_le b.z.at (e i).z.high
          && int_le (change_size_is p.c b.z.half c.requires.plane.c c.requires.sized.z c.slope_of-3.ensures.change_size i)
          (cond (falls p.c c.requires.plane.c c.slope_of-3.ensures.falls i) m.below m.above))
          ∙ (λ i. int_le b.z.at (aabb_of_tri t).z.high
          && int_le (change_size (q i).c b.z.half) (margin_of_right (q i).c m)));
    }
