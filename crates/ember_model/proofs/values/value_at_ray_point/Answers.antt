use mir.Syntax.{w64, w128}
use Rattle.ember_algebra.proofs.Exact.{input, stored, ◌⊠◌, ◌⊞◌, ◌&◌, done, exact, bounded, no_overflow}
use Rattle.std.proofs.Common.{◌^◌, sym, ◌∙◌, ◌+ℤ◌, ◌*ℤ◌}
use Rattle.ember_model.proofs.Hits.{value_ray}
use Rattle.ember_model.proofs.values.value_at_ray_point.Goals as goal

pub overflow_cast-result : goal.overflow_cast-result
overflow_cast-result c = no_overflow (c.requires.sized.factor & done) w128 (stored w64 (input 0)) tt

pub plane_value-requires-clause-plane : goal.plane_value-requires-clause-plane
plane_value-requires-clause-plane c = c.requires.plane

pub plane_value-requires-clause-spot : goal.plane_value-requires-clause-spot
plane_value-requires-clause-spot c = c.requires.spot

pub overflow_mul-result : goal.overflow_mul-result
overflow_mul-result c = no_overflow (c.requires.sized.factor & c.plane_value.ensures.small & done) w128
    (stored w128 (stored w64 (input 0)) ⊠ stored w128 (input 1)) tt

pub component-requires : goal.component-requires
component-requires c = c.requires.plane

pub overflow_cast-result-2 : goal.overflow_cast-result-2
overflow_cast-result-2 c = no_overflow (c.component.ensures.small & done) w128 (stored w64 (input 0)) tt

pub overflow_mul-result-2 : goal.overflow_mul-result-2
overflow_mul-result-2 c = no_overflow (c.requires.sized.offset & c.component.ensures.small & done) w128
    (stored w128 (input 0) ⊠ stored w128 (stored w64 (input 1))) tt

pub overflow_add-result : goal.overflow_add-result
overflow_add-result c = no_overflow (c.requires.sized.factor & c.plane_value.ensures.small & c.requires.sized.offset &
    c.component.ensures.small & done) w128 (stored w128 (stored w128 (stored w64 (input 0)) ⊠ stored w128 (input 1)) ⊞
    stored w128 (stored w128 (input 2) ⊠ stored w128 (stored w64 (input 3)))) tt

pub returns-clause-value : goal.returns-clause-value
returns-clause-value c = let v = c.plane_value.ensures.value in let e = c.component.ensures.value in let r = c.args.ray_point.now in
    exact (c.requires.sized.factor & c.plane_value.ensures.small & c.requires.sized.offset & c.component.ensures.small &
    done) (stored w128 (stored w128 (stored w128 (stored w64 (input 0)) ⊠ stored w128 (input 1)) ⊞ stored w128
    (stored w128 (input 2) ⊠ stored w128 (stored w64 (input 3))))) tt ∙ (λ i. r.factor *ℤ v i +ℤ r.offset *ℤ e i)
    ∙ sym (value_ray c.args.edge.now r.axis c.args.p.now r.factor r.offset)

pub returns-clause-small : goal.returns-clause-small
returns-clause-small c = bounded (c.requires.sized.factor & c.plane_value.ensures.small & c.requires.sized.offset &
    c.component.ensures.small & done) (2 ^ 107) (stored w128
    (stored w128 (stored w128 (stored w64 (input 0)) ⊠ stored w128 (input 1)) ⊞ stored w128
    (stored w128 (input 2) ⊠ stored w128 (stored w64 (input 3))))) tt
