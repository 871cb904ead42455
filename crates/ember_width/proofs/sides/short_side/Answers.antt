use Rattle.std.proofs.Common.{◌∙◌, ap, List, [], ◌∷◌, ℕ}
use mir.Syntax.{w128}
use Rattle.ember_algebra.specs.Sign.{sgn}
use Rattle.ember_algebra.proofs.Exact.{Code, stored, wide, ◌⊠◌, ◌⊞◌, ◌⊟◌, Inputs, ◌&◌, done, exact, no_overflow}
use Rattle.ember_model.specs.declared.plane.Plane.{Plane}
use Rattle.ember_model.specs.declared.point.Spot.{Spot}
use Rattle.ember_width.specs.Broad.{IsBroadPlane, IsShort, most_normal, most_constant, most_short}
use Rattle.ember_width.proofs.sides.short_side.Goals as goal

abbrev bounds : List ℕ
bounds =
    most_normal ∷ most_short ∷ most_normal ∷ most_short ∷ most_normal ∷ most_short ∷ most_constant ∷ most_short ∷ []

inputs : {p : Plane} {v : Spot} → IsBroadPlane p → IsShort v → Inputs bounds (p.a ∷ v.x ∷ p.b ∷ v.y ∷ p.c ∷ v.z ∷ p.d ∷ v.w ∷ [])
inputs a b = a.a & b.x & a.b & b.y & a.c & b.z & a.d & b.w & done

abbrev x : Code
x = stored w128 (wide 0 ⊠ wide 1)

abbrev y : Code
y = stored w128 (wide 2 ⊠ wide 3)

abbrev z : Code
z = stored w128 (wide 4 ⊠ wide 5)

abbrev w : Code
w = stored w128 (wide 6 ⊠ wide 7)

abbrev xy : Code
xy = stored w128 (x ⊞ y)

abbrev front : Code
front = stored w128 (xy ⊞ z)

pub overflow_add-front : goal.overflow_add-front
overflow_add-front c = no_overflow (inputs c.requires c.args.m.now.valid) w128 (x ⊞ y) tt

pub overflow_add-front-2 : goal.overflow_add-front-2
overflow_add-front-2 c = no_overflow (inputs c.requires c.args.m.now.valid) w128 (xy ⊞ z) tt

pub overflow_sub-front : goal.overflow_sub-front
overflow_sub-front c = no_overflow (inputs c.requires c.args.m.now.valid) w128 (front ⊟ w) tt

pub returns : goal.returns
returns c =
    c.sign_of.ensures ∙ ap sgn (exact (inputs c.requires c.args.m.now.valid) (stored w128 (front ⊟ w)) tt)
