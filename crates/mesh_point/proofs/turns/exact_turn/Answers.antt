use Rattle.std.proofs.Common.{◌∙◌, SFits, to_z-of_z, rules}
use mir.Syntax.{w32}
use Rattle.mesh_point.specs.Numbers.{local_triple}
use Rattle.mesh_point.specs.Turns.{numbers_of}
use Rattle.mesh_point.proofs.LocalTurns.{local_turns}
use Rattle.mesh_point.proofs.turns.exact_turn.Goals as goal

pub local_point-c-requires-clause-below_x : goal.local_point-c-requires-clause-below_x
local_point-c-requires-clause-below_x c =
    let f : SFits w32 c.args.r.now.floor_x = search rules in
    let k : SFits w32 c.least-i.result = record { sfits = c.least-i.type_inv } in
    rw (to_z-of_z k) (rw (to_z-of_z f) at c.least-i.ensures.below_c)

pub returns : goal.returns
returns c =
    c.local_turn.ensures ∙ local_turns _ _ (numbers_of c.args.p.now) (numbers_of c.args.q.now) (numbers_of c.args.r.now)
    (local_triple c.local_point-a.result) (local_triple c.local_point-b.result) (local_triple c.local_point-c.result)
    c.local_point-a.ensures c.local_point-b.ensures c.local_point-c.ensures
