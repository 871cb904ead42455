use Rattle.std.proofs.Common.{rules, arith, ◌≡◌, ◌∷◌, ◌+◌, length, length-append}
use Rattle.ember_expr.specs.declared.token.Token.{Token}
use Rattle.ember_expr.specs.Tokens.{tokens_of}
use Rattle.ember_expr.proofs.Scanning.{one_token}
use Rattle.ember_expr.proofs.token.tokens.Goals as goal

pub tokens-preserved : goal.tokens-preserved
tokens-preserved c =
    let split : c.tokens.rest.now ≡ c.in-Some.first.now ∷ c.in-Some.after.now = search rules in
    let shorter : length c.in-Some.after.now + 1 ≡ length c.tokens.rest.now = search rules in
    let one : length c.add.new.tokens.items ≡ length c.tokens.tokens.items + 1 = rw c.in_ok-add.ensures (omega (arith, length-append {A = Token})) in
    record {
      same = rw (c.in_ok-add.ensures, c.split_at.ensures.back, c.longest-lexeme.ensures.lexeme)
          (one_token c.tokens.place c.in-Some.first.now c.in-Some.after.now c.tokens.tokens.items
          (tokens_of c.args.text.now) (rw split at c.tokens.invariant.same) (search rules));
      few = omega (arith, c.split_at.ensures.back_len);
      placed = omega (arith, c.split_at.ensures.back_len);
    }
