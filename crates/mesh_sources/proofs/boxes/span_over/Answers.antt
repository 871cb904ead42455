use Rattle.std.proofs.Common.{SFits, to_z-of_z}
use mir.Syntax.{w64}
use Rattle.mesh_sources.specs.Places.{spots_of}
use Rattle.mesh_sources.proofs.BoxesApart.{span_is_over}
use Rattle.mesh_sources.proofs.boxes.span_over.Goals as goal

pub returns : goal.returns
returns c =
    let cu = c.ceil_along.result in let cv = c.ceil_along-2.result in let cw = c.ceil_along-3.result in
    let fu = c.floor_along.result in let fv = c.floor_along-2.result in let fw = c.floor_along-3.result in
    let scu : SFits w64 cu = record { sfits = c.ceil_along.type_inv } in
    let scv : SFits w64 cv = record { sfits = c.ceil_along-2.type_inv } in
    let scw : SFits w64 cw = record { sfits = c.ceil_along-3.type_inv } in
    let sfu : SFits w64 fu = record { sfits = c.floor_along.type_inv } in
    let sfv : SFits w64 fv = record { sfits = c.floor_along-2.type_inv } in
    let sfw : SFits w64 fw = record { sfits = c.floor_along-3.type_inv } in
    let low : SFits w64 c.least.result = record { sfits = c.least.type_inv } in
    let high : SFits w64 c.greatest.result = record { sfits = c.greatest.type_inv } in
    let l = c.least.ensures in let g = c.greatest.ensures in
    rw (to_z-of_z low, to_z-of_z high) (span_is_over c.args.k (spots_of c.args.corners.now) c.least.result c.greatest.result
    cu cv cw fu fv fw c.ceil_along.ensures c.ceil_along-2.ensures c.ceil_along-3.ensures c.floor_along.ensures
    c.floor_along-2.ensures c.floor_along-3.ensures (rw (to_z-of_z scu) at l.below_a) (rw (to_z-of_z scv) at l.below_b)
    (rw (to_z-of_z scw) at l.below_c) (rw (to_z-of_z scu, to_z-of_z scv, to_z-of_z scw) at l.reached)
    (rw (to_z-of_z sfu) at g.above_a) (rw (to_z-of_z sfv) at g.above_b) (rw (to_z-of_z sfw) at g.above_c)
    (rw (to_z-of_z sfu, to_z-of_z sfv, to_z-of_z sfw) at g.reached))
