-- A truth that is decided doesn't rest on the undecided meshes
use Rattle.std.specs.Prelude.{◌≡◌, ℕ, Bool, false, ℤ, List}
use Rattle.ember_expr.specs.Formula.{IsMeshNumber}
use Rattle.ember_expr.specs.Truth.{count_of}

-- two vectors agree at every mesh that isn't undecided
pub record AgreeOutside (undecided : ℕ → Bool) (counts others : List ℤ) : Type 0 where
  pub same : (n : ℕ) → IsMeshNumber 64 n → undecided n ≡ false → count_of counts n ≡ count_of others n
