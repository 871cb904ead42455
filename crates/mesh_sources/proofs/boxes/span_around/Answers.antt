use Rattle.std.proofs.Common.{SFits, to_z-of_z}
use mir.Syntax.{w64}
use Rattle.mesh_sources.proofs.boxes.span_around.Goals as goal

pub returns : goal.returns
returns c =
    let a : SFits w64 c.coordinate-a.result = record { sfits = c.coordinate-a.type_inv } in
    let b : SFits w64 c.coordinate-b.result = record { sfits = c.coordinate-b.type_inv } in
    let d : SFits w64 c.coordinate-c.result = record { sfits = c.coordinate-c.type_inv } in
    let low : SFits w64 c.least.result = record { sfits = c.least.type_inv } in
    let high : SFits w64 c.greatest.result = record { sfits = c.greatest.type_inv } in
    let ea = c.coordinate-a.ensures in let eb = c.coordinate-b.ensures in let ec = c.coordinate-c.ensures in
    rw (to_z-of_z low, to_z-of_z high) (record {
      from = (
        rw (to_z-of_z a, ea) at c.least.ensures.below_a,
        rw (to_z-of_z b, eb) at c.least.ensures.below_b,
        rw (to_z-of_z d, ec) at c.least.ensures.below_c,
      );
      to = (
        rw (to_z-of_z a, ea) at c.greatest.ensures.above_a,
        rw (to_z-of_z b, eb) at c.greatest.ensures.above_b,
        rw (to_z-of_z d, ec) at c.greatest.ensures.above_c,
      );
      start = rw (to_z-of_z a, to_z-of_z b, to_z-of_z d, ea, eb, ec) at c.least.ensures.reached;
      end = rw (to_z-of_z a, to_z-of_z b, to_z-of_z d, ea, eb, ec) at c.greatest.ensures.reached;
    })
