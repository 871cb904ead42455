-- A text that is refused as an expression.
use Rattle.std.proofs.Common.{◌≡◌, ◌≢◌, ◌⊎◌, inl, inr, ℕ, List, Result, Err, ap}
use Rattle.ember_expr.specs.declared.fault.ExprFault.{ExprFault}
use Rattle.ember_expr.specs.declared.fault.ExprFault.TheVariants as expr
use Rattle.ember_expr.specs.Formula.{Formula}
use Rattle.ember_expr.specs.Grammar.{expr_of}
use Rattle.ember_verdict.specs.NoReplies.{IsNoReplyToExpression}
use Rattle.ember_verdict.specs.Verdict.{Verdict, after_expr, after_parse}
use Rattle.ember_verdict.specs.declared.status.Status.TheVariants.{ExprRefused}
use Rattle.ember_verdict.proofs.NoReplies.{expr_tells}

-- an expression with a fault is refused
pub fault_is_no_reply : (text : List ℕ) (meshes : ℕ) (fault : ExprFault) (next : Formula → Verdict) →
    fault ≢ expr.OutOfMemory → (fault ≡ expr.OutOfMemory) ⊎ (expr_of text meshes ≡ Err fault) →
    IsNoReplyToExpression (after_expr text meshes next) (ExprRefused fault)
fault_is_no_reply text meshes fault next n (inl e) = absurd (n e)
fault_is_no_reply text meshes fault next n (inr e) =
    record {
      refused = λ r. ap (λ (parsed : Result Formula ExprFault). after_parse parsed next) e;
      of_expression =
          expr_tells fault n;
    }
