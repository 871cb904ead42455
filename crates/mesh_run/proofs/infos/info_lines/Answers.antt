use Rattle.std.proofs.Common.{◌≡◌, ◌+◌, ℕ, List, [], length, take, sym, subst, arith}
use Rattle.ember_algebra.specs.Relations.{Each, none}
use Rattle.mesh_run.specs.Infos.{IsFileLine}
use Rattle.mesh_run.proofs.InfoOutcomes.{line_more, lines_of_all}
use Rattle.mesh_run.proofs.infos.info_lines.Goals as goal

pub loop-index-init : goal.loop-index-init
loop-index-init c = subst (Each IsFileLine []) (sym c.new-lines.ensures.items) none

pub loop-index-preserved : goal.loop-index-preserved
loop-index-preserved c =
    let e = c.in_ok-put_info.ensures in
    subst (λ (lines : List ℕ). Each IsFileLine (take (c.loop-index.index + 1) c.args.files.now) lines) (sym e.2)
    (line_more c.args.files.now c.args.surfaces.now c.loop-index.index _ c.index-surfaces-index.result
    c.loop-index.lines.items e.0 c.requires c.loop-index-test.true c.index-surfaces-index.is e.1
    c.loop-index.invariant)

pub returns : goal.returns
returns c =
    let all : c.loop-index.index ≡ length c.args.surfaces.now = omega arith in
    lines_of_all c.args.files.now c.args.surfaces.now c.loop-index.lines.items c.requires
    (subst (λ (n : ℕ). Each IsFileLine (take n c.args.files.now) c.loop-index.lines.items) all c.loop-index.invariant)
