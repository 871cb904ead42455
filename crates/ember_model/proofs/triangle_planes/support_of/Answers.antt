use Rattle.std.proofs.Common.{◌≡◌, ap, sym, subst, ◌∙◌}
use Rattle.ember_algebra.specs.Vector.{Vector, cross}
use Rattle.ember_model.specs.declared.plane.Plane.{Plane}
use Rattle.ember_model.specs.Limits.{broad_limit}
use Rattle.ember_model.specs.Within.{IsSupportWithin}
use Rattle.ember_model.specs.Valid.{IsValidTri}
use Rattle.ember_model.specs.Sizes.{IsSupportSized}
use Rattle.ember_model.specs.Planes.{plane_through, support_of}
use Rattle.ember_model.proofs.PlaneSizes.{support_within, support_sized, support_valid}
use Rattle.ember_model.proofs.triangle_planes.support_of.Goals as goal

is_support : (c : goal.After-plane_with) → c.plane_with.result ≡ support_of c.args.t.now
is_support c =
    let u = c.vector_between-u.ensures.value in let v = c.vector_between-v.ensures.value in
    c.plane_with.ensures ∙ ap (λ (n : Vector). plane_through n c.args.t.now.a) (c.cross_product.ensures.value ∙ (λ i. cross (u i) (v i)))

pub cross_product-requires-clause-u : goal.cross_product-requires-clause-u
cross_product-requires-clause-u c = c.vector_between-u.ensures.within broad_limit c.requires.a c.requires.b

pub cross_product-requires-clause-v : goal.cross_product-requires-clause-v
cross_product-requires-clause-v c = c.vector_between-v.ensures.within broad_limit c.requires.a c.requires.c

is_sized : (c : goal.After-plane_with) → IsValidTri c.args.t.now → IsSupportSized c.plane_with.result
is_sized c v = subst (λ (p : Plane). IsSupportSized p) (sym (is_support c)) (support_sized c.args.t.now v)

pub returns-clause-value : goal.returns-clause-value
returns-clause-value c = is_support c

pub returns-clause-valid : goal.returns-clause-valid
returns-clause-valid c v = support_valid (is_sized c v)

pub returns-clause-small : goal.returns-clause-small
returns-clause-small c v = is_sized c v

pub returns-clause-within : goal.returns-clause-within
returns-clause-within c m v =
    subst (λ (p : Plane). IsSupportWithin m p) (sym (is_support c)) (support_within m c.args.t.now v)
