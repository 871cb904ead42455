use Rattle.std.proofs.Common.{◌∙◌, sym, ap}
use mir.Syntax.{w32}
use Rattle.ember_algebra.proofs.Exact.{input, stored, ◌&◌, done, exact}
use Rattle.ember_width.specs.BroadPoints.{floor_spot}
use Rattle.ember_width.specs.RootFloors.{floor_along}
use Rattle.ember_width.proofs.FloorValues.{kept_place}
use Rattle.ember_width.proofs.root_floors.kept_floor.Goals as goal

pub returns-in-X-clause-value : goal.returns-in-X-clause-value
returns-in-X-clause-value c =
    let m = c.args.m.now in let v = m.valid in
    exact (v.floors.x & done) (stored w32 (input 0)) tt ∙ sym (kept_place m.floor.x m.x m.w v.weight v.x)
    ∙ ap (λ k. floor_along k (floor_spot m)) (sym c.in-X.is)

pub returns-in-Y-clause-value : goal.returns-in-Y-clause-value
returns-in-Y-clause-value c =
    let m = c.args.m.now in let v = m.valid in
    exact (v.floors.y & done) (stored w32 (input 0)) tt ∙ sym (kept_place m.floor.y m.y m.w v.weight v.y)
    ∙ ap (λ k. floor_along k (floor_spot m)) (sym c.in-Y.is)

pub returns-in-Z-clause-value : goal.returns-in-Z-clause-value
returns-in-Z-clause-value c =
    let m = c.args.m.now in let v = m.valid in
    exact (v.floors.z & done) (stored w32 (input 0)) tt ∙ sym (kept_place m.floor.z m.z m.w v.weight v.z)
    ∙ ap (λ k. floor_along k (floor_spot m)) (sym c.in-Z.is)
