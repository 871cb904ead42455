use Rattle.std.proofs.Common.{get_or}
use Rattle.mesh_triangulate.proofs.NamedTriangles.{extended_twice, of_the_value, three_corners, three_edges_are_named}
use Rattle.mesh_triangulate.proofs.lines.Lines.triangle.Goals as goal

pub returns-in_default-clause-extended : goal.returns-in_default-clause-extended
returns-in_default-clause-extended c =
    extended_twice c.in_ok-first.ensures.extended (extended_twice c.in_ok-second.ensures.extended c.in_ok-third.ensures.extended)

pub returns-in_default-2-clause-extended : goal.returns-in_default-2-clause-extended
returns-in_default-2-clause-extended c =
    extended_twice c.in_ok-first.ensures.extended (extended_twice c.in_ok-second.ensures.extended c.in_ok-third.ensures.extended)

pub returns-in_default-3-clause-extended : goal.returns-in_default-3-clause-extended
returns-in_default-3-clause-extended c =
    extended_twice c.in_ok-first.ensures.extended (extended_twice c.in_ok-second.ensures.extended c.in_ok-third.ensures.extended)

pub returns-clause-named : goal.returns-clause-named
returns-clause-named c =
    let cs = c.args.corners.now in
    three_edges_are_named c.args.plane (get_or cs 0 0) (get_or cs 1 0) (get_or cs 2 0) c.in-Some-Some-Some.ab
    c.in-Some-Some-Some.bc c.in-Some-Some-Some.ca
    (record { first = c.segment.result; second = c.segment-2.result; third = c.segment-3.result })
    (record {
      plane = c.segment.ensures.plane;
      line = c.segment.ensures.line;
      start = c.segment.ensures.start;
      end =
          c.segment.ensures.end;
    }) (record {
      plane = c.segment-2.ensures.plane;
      line = c.segment-2.ensures.line;
      start =
          c.segment-2.ensures.start;
      end = c.segment-2.ensures.end;
    })
    (record {
      plane = c.segment-3.ensures.plane;
      line = c.segment-3.ensures.line;
      start =
          c.segment-3.ensures.start;
      end = c.segment-3.ensures.end;
    }) cs (three_corners cs c.told-corners)
    c.line_of.new.self c.line_of-2.new.self c.line_of-3.new.self c.in_ok-second.ensures.extended
    c.in_ok-third.ensures.extended (of_the_value _ _ c.in-Some-Some-Some.ab c.in-Some-Some-Some.is-0
    c.in_ok-first.ensures.line) (of_the_value _ _ c.in-Some-Some-Some.bc c.in-Some-Some-Some.is-1
    c.in_ok-second.ensures.line) (of_the_value _ _ c.in-Some-Some-Some.ca c.in-Some-Some-Some.is-2
    c.in_ok-third.ensures.line)

pub returns-clause-extended : goal.returns-clause-extended
returns-clause-extended c =
    extended_twice c.in_ok-first.ensures.extended (extended_twice c.in_ok-second.ensures.extended c.in_ok-third.ensures.extended)
