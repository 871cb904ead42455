use Rattle.std.proofs.Common.{SFits, ℕ, rules}
use mir.Syntax.{w32, w128}
use Rattle.ember_algebra.proofs.Exact.{Code, input, stored, wide, ◌⊠◌, ◌⊞◌, ◌⊟◌, ◌&◌, done, exact, bounded, no_overflow}
use Rattle.ember_algebra.specs.Size.{Small}
use Rattle.mesh_point.specs.FloorTurns.{most_floor}
use Rattle.mesh_point.specs.Sides.{most_floor_value}
use Rattle.mesh_point.proofs.SideValues.{floor_small, floor_read}
use Rattle.mesh_point.proofs.sides.floor_value.Goals as goal

-- a floor as it is cast: that it fits 32 bits is a fact of its type
abbrev x : Code
x = stored w128 (wide 0 ⊠ input 1)

abbrev two : Code
two = x ⊞ stored w128 (wide 2 ⊠ input 3)

abbrev three : Code
three = stored w128 two ⊞ stored w128 (wide 4 ⊠ input 5)

abbrev all : Code
all = stored w128 three ⊟ wide 6

pub overflow_add-result : goal.overflow_add-result
overflow_add-result c =
    let h = c.requires in let p = c.args.p.now in
    let fx : SFits w32 p.floor_x = search rules in let fy : SFits w32 p.floor_y = search rules in
    rw (floor_read fx, floor_read fy) (no_overflow (h.a & floor_small fx & h.b & floor_small fy & done) w128 two tt)

pub overflow_add-result-2 : goal.overflow_add-result-2
overflow_add-result-2 c =
    let h = c.requires in let p = c.args.p.now in
    let fx : SFits w32 p.floor_x = search rules in let fy : SFits w32 p.floor_y = search rules in let fz : SFits w32 p.floor_z = search rules in
    rw (floor_read fx, floor_read fy, floor_read fz) (no_overflow (h.a & floor_small fx & h.b & floor_small fy & h.c & floor_small fz & done) w128 three tt)

pub overflow_sub-result : goal.overflow_sub-result
overflow_sub-result c =
    let h = c.requires in let p = c.args.p.now in
    let fx : SFits w32 p.floor_x = search rules in let fy : SFits w32 p.floor_y = search rules in let fz : SFits w32 p.floor_z = search rules in
    rw (floor_read fx, floor_read fy, floor_read fz) (no_overflow (h.a & floor_small fx & h.b & floor_small fy & h.c & floor_small fz & h.d & done) w128 all tt)

pub returns-clause-value : goal.returns-clause-value
returns-clause-value c =
    let h = c.requires in let p = c.args.p.now in
    let fx : SFits w32 p.floor_x = search rules in let fy : SFits w32 p.floor_y = search rules in let fz : SFits w32 p.floor_z = search rules in
    rw (floor_read fx, floor_read fy, floor_read fz) (exact (h.a & floor_small fx & h.b & floor_small fy & h.c & floor_small fz & h.d & done) (stored w128 all) tt)

pub returns-clause-small : goal.returns-clause-small
returns-clause-small c =
    let h = c.requires in let p = c.args.p.now in
    let fx : SFits w32 p.floor_x = search rules in let fy : SFits w32 p.floor_y = search rules in let fz : SFits w32 p.floor_z = search rules in
    rw (floor_read fx, floor_read fy, floor_read fz) (bounded (h.a & floor_small fx & h.b & floor_small fy & h.c & floor_small fz & h.d & done) most_floor_value (stored w128 all) tt)
