use Rattle.std.proofs.Common.{ℕ, ◌+◌, ◌*◌, ◌<◌, length}
use Rattle.ember_expr.specs.declared.grammar.Operator.{Operator}
use Rattle.ember_expr.specs.declared.grammar.Operator.TheVariants as operator
use Rattle.ember_expr.specs.Formula.{formula_of, IsFit}
use Rattle.ember_expr.specs.Grammar.{chain_of, part_of, not}
use Rattle.ember_expr.proofs.Rules.{IsChainSoFar}
use Rattle.ember_expr.proofs.grammar.+grammar.Given as goal

-- how many rules lie between a chain's and the one of `not`
abbrev pub height : Operator → ℕ
height operator.Or = 6
height operator.Xor = 4
height operator.And = 2

abbrev pub decreases-chain : goal.decreases-chain
decreases-chain l = l.depth_left * 8 + height l.kind + 1

abbrev pub decreases-part : goal.decreases-part
decreases-part l = l.depth_left * 8 + height l.kind

abbrev pub decreases-not : goal.decreases-not
decreases-not l = l.depth_left * 8 + 1

abbrev pub invariant-chain-parts : goal.invariant-chain-parts
invariant-chain-parts l = record {
  read : IsChainSoFar l.kind (part_of l.kind (not l.scope l.depth_left))
      (chain_of l.kind (part_of l.kind (not l.scope l.depth_left)) l.fn.tokens) (formula_of l.tree) l.rest;
  fit : IsFit l.scope.meshes (formula_of l.tree);
  shorter : length l.rest < length l.fn.tokens;
}

abbrev pub decreases-chain-parts : goal.decreases-chain-parts
decreases-chain-parts l = length l.rest
