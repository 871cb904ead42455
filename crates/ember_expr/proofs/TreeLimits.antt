-- Trees within the limits.
use Rattle.std.proofs.Common.{ℕ, ◌≤◌, List, arith}
use Rattle.ember_expr.specs.declared.trees.Term.{Term}
use Rattle.ember_expr.specs.Formula.{Formula, Or, Xor, And, Not, Mesh, Odd, Compare, IsFit, IsFitSum}

more_terms_fit : (m n : ℕ) → m ≤ n → (sum : List Term) → IsFitSum m sum → IsFitSum n sum
more_terms_fit m n le sum fit = record {
  short = fit.short;
  terms = λ k d h. let at = fit.terms k d h in record { factor = at.factor; mesh = omega arith };
}

-- more meshes allow more
pub fit_more : (m n : ℕ) → m ≤ n → (f : Formula) → IsFit m f → IsFit n f
fit_more m n le (Or a b) fit = (fit_more m n le a fit.0, fit_more m n le b fit.1)
fit_more m n le (Xor a b) fit = (fit_more m n le a fit.0, fit_more m n le b fit.1)
fit_more m n le (And a b) fit = (fit_more m n le a fit.0, fit_more m n le b fit.1)
fit_more m n le (Not a) fit = fit_more m n le a fit
fit_more m n le (Mesh k) fit = record { first = fit.first; last = omega arith }
fit_more m n le (Odd sum) fit = more_terms_fit m n le sum fit
fit_more m n le (Compare left rel right) fit = (more_terms_fit m n le left fit.0, more_terms_fit m n le right fit.1)
