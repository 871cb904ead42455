use Rattle.std.proofs.Common.{rules, ◌≡◌, sym, Ok}
use Rattle.ember_expr.specs.Formula.{IsMeshNumber}
use Rattle.ember_expr.specs.Grammar.{mesh_number}
use Rattle.ember_expr.proofs.grammar.mesh_number.Goals as goal

pub returns-then-mesh-scope-clause-number : goal.returns-then-mesh-scope-clause-number
returns-then-mesh-scope-clause-number c =
    let read : mesh_number c.args.scope c.args.place c.args.number ≡ Ok c.in_ok-mesh.mesh = search rules in
    sym read

pub returns-then-mesh-scope-clause-exists : goal.returns-then-mesh-scope-clause-exists
returns-then-mesh-scope-clause-exists c =
    let exists : IsMeshNumber c.args.scope.meshes c.in_ok-mesh.mesh = search rules in
    exists
