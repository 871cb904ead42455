use mir.Syntax.{w64}
use Rattle.ember_algebra.proofs.Exact.{Code, stored, narrow, ◌⊟◌, ◌&◌, done, exact}
use Rattle.ember_algebra.proofs.Vectors.{same_v}
use Rattle.mesh_effect.proofs.facing.short_area.difference.Goals as goal

abbrev code : Code
code = stored w64 (narrow 0 ⊟ narrow 1)

pub returns : goal.returns
returns c =
    let p = c.args.from.now.sized in let q = c.args.to.now.sized in
    same_v (exact (q.x & p.x & done) code tt) (exact (q.y & p.y & done) code tt) (exact (q.z & p.z & done) code tt)
