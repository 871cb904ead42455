use Rattle.std.proofs.Common.{◌≡◌, ◌+◌, ◌≤◌, ◌++◌, length}
use Rattle.ember_expr.specs.Tokens.{tokens_of, tokens_from}
use Rattle.ember_expr.proofs.token.tokens.Given as goal

abbrev pub invariant-tokens : goal.invariant-tokens
invariant-tokens l = record {
  same : tokens_of l.text ≡ l.tokens.items ++ tokens_from 0 l.place l.rest;
  few : length l.tokens.items + length l.rest ≤ length l.text;
  placed : l.place + length l.rest ≡ length l.text;
}

abbrev pub decreases-tokens : goal.decreases-tokens
decreases-tokens l = length l.rest
