use Rattle.std.proofs.Common.{rules, arith, ◌≡◌, ◌+◌, Some, None, length, length-append}
use Rattle.std.proofs.lemmas.List.Elements.{All-push}
use Rattle.ember_expr.specs.declared.trees.Term.{Term}
use Rattle.ember_expr.specs.Formula.{IsFitTerm}
use Rattle.ember_expr.specs.Grammar.{read, term, sum, sign_before, after_first}
use Rattle.ember_expr.proofs.Rules.{one_term, no_term}
use Rattle.ember_expr.proofs.grammar.sum.Goals as goal

pub terms-preserved : goal.terms-preserved
terms-preserved c =
    let sign : sign_before c.terms.rest.now ≡ Some c.in-Some.minus = search rules in
    let next : term c.args.scope c.in-Some.minus (after_first c.terms.rest.now) ≡ read c.in_ok-next.next c.in_ok-next.after.now = search rules in
    let one : length c.add-in-Some.new.terms.items ≡ length c.terms.terms.items + 1 =
    rw c.in_ok-add-2.ensures.terms (omega (arith, length-append {A = Term})) in
    record {
      read = rw c.in_ok-add-2.ensures.terms (one_term c.args.scope (sum c.args.scope c.args.tokens.now)
          c.terms.terms.items c.terms.rest.now c.in-Some.minus c.in_ok-next.next c.in_ok-next.after.now
          c.terms.invariant.read sign next (search rules));
      fit = rw c.in_ok-add-2.ensures.terms (All-push (IsFitTerm c.args.scope.meshes) c.terms.terms.items
          c.in_ok-next.next c.terms.invariant.fit c.in_ok-next.ensures.fit);
      short = search rules;
      shorter = search rules;
    }

pub returns-clause-ok : goal.returns-clause-ok
returns-clause-ok c =
    let last : sign_before c.terms.rest.now ≡ None = search rules in
    rw c.of.ensures (no_term c.args.scope (sum c.args.scope c.args.tokens.now) c.terms.terms.items c.terms.rest.now c.terms.invariant.read last)
