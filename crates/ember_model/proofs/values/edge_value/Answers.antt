use Rattle.std.proofs.Common.{◌≡◌, sym, ap, ◌∙◌, pos, ◌-ℤ◌, ◌*ℤ◌}
use mir.Syntax.{w128}
use Rattle.ember_algebra.proofs.Ring.{◌⊕◌, ◌⊖◌, ◌⊗◌, ◌≈◌, num, solve, cancels}
use Rattle.ember_algebra.proofs.Exact.{input, stored, narrow, ◌⊠◌, ◌⊟◌, ◌&◌, done, exact}
use Rattle.ember_model.specs.declared.point.Corner.{Corner}
use Rattle.ember_model.specs.declared.point.Spot.{Spot}
use Rattle.ember_model.specs.declared.point.Axis.{Axis}
use Rattle.ember_model.specs.declared.point.Axis.TheVariants.{X, Y, Z}
use Rattle.ember_model.specs.Planes.{value_at, edge_through, unit}
use Rattle.ember_model.specs.Limits.{narrow_limit}
use Rattle.ember_model.proofs.PlaneSizes.{corner_broad}
use Rattle.ember_model.proofs.values.edge_value.Goals as goal

-- the plane's value at a point, by the point seen from the edge's start
along_x : (u v : Corner) (s : Spot) → (v.z -ℤ u.z) *ℤ (s.y -ℤ s.w *ℤ u.y) -ℤ (v.y -ℤ u.y) *ℤ (s.z -ℤ s.w *ℤ u.z) ≡ value_at (edge_through u v (unit X)) s
along_x u v s =
    solve 10 (λ u v w l m n x y z h. (n ⊖ w) ⊗ (y ⊖ h ⊗ v) ⊖ (m ⊖ v) ⊗ (z ⊖ h ⊗ w) ≈
    ((m ⊖ v) ⊗ num (pos 0) ⊖ (n ⊖ w) ⊗ num (pos 0)) ⊗ x ⊕ ((n ⊖ w) ⊗ num (pos 1) ⊖ (l ⊖ u) ⊗ num (pos 0)) ⊗ y ⊕
    ((l ⊖ u) ⊗ num (pos 0) ⊖ (m ⊖ v) ⊗ num (pos 1)) ⊗ z ⊖
    (((m ⊖ v) ⊗ num (pos 0) ⊖ (n ⊖ w) ⊗ num (pos 0)) ⊗ u ⊕ ((n ⊖ w) ⊗ num (pos 1) ⊖ (l ⊖ u) ⊗ num (pos 0)) ⊗ v ⊕
    ((l ⊖ u) ⊗ num (pos 0) ⊖ (m ⊖ v) ⊗ num (pos 1)) ⊗ w) ⊗ h) cancels u.x u.y u.z v.x v.y v.z s.x s.y s.z s.w

along_y : (u v : Corner) (s : Spot) → (v.x -ℤ u.x) *ℤ (s.z -ℤ s.w *ℤ u.z) -ℤ (v.z -ℤ u.z) *ℤ (s.x -ℤ s.w *ℤ u.x) ≡ value_at (edge_through u v (unit Y)) s
along_y u v s =
    solve 10 (λ u v w l m n x y z h. (l ⊖ u) ⊗ (z ⊖ h ⊗ w) ⊖ (n ⊖ w) ⊗ (x ⊖ h ⊗ u) ≈
    ((m ⊖ v) ⊗ num (pos 0) ⊖ (n ⊖ w) ⊗ num (pos 1)) ⊗ x ⊕ ((n ⊖ w) ⊗ num (pos 0) ⊖ (l ⊖ u) ⊗ num (pos 0)) ⊗ y ⊕
    ((l ⊖ u) ⊗ num (pos 1) ⊖ (m ⊖ v) ⊗ num (pos 0)) ⊗ z ⊖
    (((m ⊖ v) ⊗ num (pos 0) ⊖ (n ⊖ w) ⊗ num (pos 1)) ⊗ u ⊕ ((n ⊖ w) ⊗ num (pos 0) ⊖ (l ⊖ u) ⊗ num (pos 0)) ⊗ v ⊕
    ((l ⊖ u) ⊗ num (pos 1) ⊖ (m ⊖ v) ⊗ num (pos 0)) ⊗ w) ⊗ h) cancels u.x u.y u.z v.x v.y v.z s.x s.y s.z s.w

along_z : (u v : Corner) (s : Spot) → (v.y -ℤ u.y) *ℤ (s.x -ℤ s.w *ℤ u.x) -ℤ (v.x -ℤ u.x) *ℤ (s.y -ℤ s.w *ℤ u.y) ≡ value_at (edge_through u v (unit Z)) s
along_z u v s =
    solve 10 (λ u v w l m n x y z h. (m ⊖ v) ⊗ (x ⊖ h ⊗ u) ⊖ (l ⊖ u) ⊗ (y ⊖ h ⊗ v) ≈
    ((m ⊖ v) ⊗ num (pos 1) ⊖ (n ⊖ w) ⊗ num (pos 0)) ⊗ x ⊕ ((n ⊖ w) ⊗ num (pos 0) ⊖ (l ⊖ u) ⊗ num (pos 1)) ⊗ y ⊕
    ((l ⊖ u) ⊗ num (pos 0) ⊖ (m ⊖ v) ⊗ num (pos 0)) ⊗ z ⊖
    (((m ⊖ v) ⊗ num (pos 1) ⊖ (n ⊖ w) ⊗ num (pos 0)) ⊗ u ⊕ ((n ⊖ w) ⊗ num (pos 0) ⊖ (l ⊖ u) ⊗ num (pos 1)) ⊗ v ⊕
    ((l ⊖ u) ⊗ num (pos 0) ⊖ (m ⊖ v) ⊗ num (pos 0)) ⊗ w) ⊗ h) cancels u.x u.y u.z v.x v.y v.z s.x s.y s.z s.w

pub returns-in-X-clause-value : goal.returns-in-X-clause-value
returns-in-X-clause-value c =
    let u = c.args.u.now in let v = c.args.v.now in let s = c.args.p.now in
    let step = c.vector_between-step.ensures in let near = step.within narrow_limit c.requires.from c.requires.to in
    let at = c.vector_from_corner-at.ensures in let e = step.value in let f = at.y in let g = at.z in
    exact (c.product_difference.ensures.small & done) (stored w128 (input 0)) tt ∙ c.product_difference.ensures.value
    ∙ exact (near.z & at.small.y & near.y & at.small.z & done) (narrow 0 ⊠ narrow 1 ⊟ narrow 2 ⊠ narrow 3)
    tt ∙ (λ i. (e i).z *ℤ f i -ℤ (e i).y *ℤ g i) ∙ along_x u v s
    ∙ ap (λ (k : Axis). value_at (edge_through u v (unit k)) s) (sym c.in-X.is)

pub returns-in-Y-clause-value : goal.returns-in-Y-clause-value
returns-in-Y-clause-value c =
    let u = c.args.u.now in let v = c.args.v.now in let s = c.args.p.now in
    let step = c.vector_between-step.ensures in let near = step.within narrow_limit c.requires.from c.requires.to in
    let at = c.vector_from_corner-at.ensures in let e = step.value in let f = at.z in let g = at.x in
    exact (c.product_difference-in-Y.ensures.small & done) (stored w128 (input 0)) tt
    ∙ c.product_difference-in-Y.ensures.value ∙ exact (near.x & at.small.z & near.z & at.small.x & done)
    (narrow 0 ⊠ narrow 1 ⊟ narrow 2 ⊠ narrow 3) tt ∙ (λ i. (e i).x *ℤ f i -ℤ (e i).z *ℤ g i) ∙ along_y u v s
    ∙ ap (λ (k : Axis). value_at (edge_through u v (unit k)) s) (sym c.in-Y.is)

pub returns-in-Z-clause-value : goal.returns-in-Z-clause-value
returns-in-Z-clause-value c =
    let u = c.args.u.now in let v = c.args.v.now in let s = c.args.p.now in
    let step = c.vector_between-step.ensures in let near = step.within narrow_limit c.requires.from c.requires.to in
    let at = c.vector_from_corner-at.ensures in let e = step.value in let f = at.x in let g = at.y in
    exact (c.product_difference-in-Z.ensures.small & done) (stored w128 (input 0)) tt
    ∙ c.product_difference-in-Z.ensures.value ∙ exact (near.y & at.small.x & near.x & at.small.y & done)
    (narrow 0 ⊠ narrow 1 ⊟ narrow 2 ⊠ narrow 3) tt ∙ (λ i. (e i).y *ℤ f i -ℤ (e i).x *ℤ g i) ∙ along_z u v s
    ∙ ap (λ (k : Axis). value_at (edge_through u v (unit k)) s) (sym c.in-Z.is)

pub vector_between-step-requires-clause-from : goal.vector_between-step-requires-clause-from
vector_between-step-requires-clause-from c = corner_broad c.requires.from

pub vector_between-step-requires-clause-to : goal.vector_between-step-requires-clause-to
vector_between-step-requires-clause-to c = corner_broad c.requires.to
