use Rattle.std.proofs.Common.{rules, ◌≡◌, ◌⊎◌, Err, true}
use Rattle.ember_expr.specs.declared.fault.ExprFault.TheVariants.{OutOfMemory}
use Rattle.ember_expr.specs.Formula.{formula_of}
use Rattle.ember_expr.specs.Grammar.{chain_of, part_of, begins_with, not}
use Rattle.ember_expr.proofs.Rules.{fault_of_part}
use Rattle.ember_expr.proofs.grammar.+grammar.Goals as goal

pub part-returns-in-And-clause-ok : goal.part-returns-in-And-clause-ok
part-returns-in-And-clause-ok t c = rw c.in-And.is c.not.ensures.ok

pub part-returns-in-And-clause-fault : goal.part-returns-in-And-clause-fault
part-returns-in-And-clause-fault t c = rw c.in-And.is c.not.ensures.fault

pub chain-returns-in_err-next-clause-fault : goal.chain-returns-in_err-next-clause-fault
chain-returns-in_err-next-clause-fault t c =
    let operator : begins_with c.args.kind c.parts.rest.now ≡ true = search rules in
    let fault : (c.in_err-next.field-0.0 ≡ OutOfMemory) ⊎
    (chain_of c.args.kind (part_of c.args.kind (not c.args.scope c.args.depth_left)) c.args.tokens.now ≡ Err
    c.in_err-next.field-0.0) = fault_of_part c.args.kind (part_of c.args.kind (not c.args.scope c.args.depth_left))
    (chain_of c.args.kind (part_of c.args.kind (not c.args.scope c.args.depth_left)) c.args.tokens.now)
    (formula_of c.parts.tree) c.parts.rest.now c.in_err-next.field-0.0 c.parts.invariant.read operator
    (rw c.after_first.ensures.tokens at c.in_err-next.ensures.fault) in
    search rules
