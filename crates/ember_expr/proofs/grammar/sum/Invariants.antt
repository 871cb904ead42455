use Rattle.std.proofs.Common.{◌+◌, ◌≤◌, ◌<◌, length, All}
use Rattle.ember_expr.specs.Formula.{IsFitTerm}
use Rattle.ember_expr.specs.Grammar.{sum}
use Rattle.ember_expr.proofs.Rules.{IsSumSoFar}
use Rattle.ember_expr.proofs.grammar.sum.Given as goal

abbrev pub invariant-terms : goal.invariant-terms
invariant-terms l = record {
  read : IsSumSoFar l.scope (sum l.scope l.fn.tokens) l.terms.items l.rest;
  fit : All (IsFitTerm l.scope.meshes) l.terms.items;
  short : length l.terms.items + length l.rest ≤ length l.fn.tokens;
  shorter : length l.rest < length l.fn.tokens;
}

abbrev pub decreases-terms : goal.decreases-terms
decreases-terms l = length l.rest
