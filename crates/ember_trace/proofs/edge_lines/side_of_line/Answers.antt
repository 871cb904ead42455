use Rattle.std.proofs.Common.{ap, ◌∙◌}
use Rattle.ember_algebra.specs.Sign.{sgn}
use Rattle.ember_algebra.proofs.Exact.{Code, input, narrow, ◌⊠◌, ◌⊟◌, ◌&◌, done, exact}
use Rattle.ember_trace.proofs.edge_lines.side_of_line.Goals as goal

-- the numbers are those of the line, each before the one of the point
abbrev code : Code
code = input 0 ⊠ narrow 1 ⊟ input 2 ⊠ narrow 3 ⊟ input 4 ⊠ narrow 5

pub returns-in-X : goal.returns-in-X
returns-in-X c =
    let l = c.args.line.now in let n = c.args.m.now.valid in
    rw c.in-X.is (c.line_side.ensures ∙ ap sgn (exact (l.small_dq & n.y & l.small_dp & n.z & l.small_d & n.w & done) code tt))

pub returns-in-Y : goal.returns-in-Y
returns-in-Y c =
    let l = c.args.line.now in let n = c.args.m.now.valid in
    rw c.in-Y.is (c.line_side-in-Y.ensures ∙ ap sgn (exact (l.small_dq & n.z & l.small_dp & n.x & l.small_d & n.w & done) code tt))

pub returns-in-Z : goal.returns-in-Z
returns-in-Z c =
    let l = c.args.line.now in let n = c.args.m.now.valid in
    rw c.in-Z.is (c.line_side-in-Z.ensures ∙ ap sgn (exact (l.small_dq & n.x & l.small_dp & n.y & l.small_d & n.w & done) code tt))
