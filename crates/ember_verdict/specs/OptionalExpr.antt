-- An expression that may be given
use Rattle.std.specs.Prelude.{ℕ, None, Some}
use Rattle.std.specs.declared.option.Option.{Option}
use Rattle.ember_expr.specs.declared.trees.Tree.{Tree}
use Rattle.ember_expr.specs.Formula.{Formula, formula_of}
use Rattle.ember_model.specs.declared.point.Spot.{Spot}
use Rattle.ember_model.specs.declared.scene.Scene.{Scene}
use Rattle.ember_verdict.specs.Verdict.{Verdict, counts_verdict}

-- the formula of an expression, if one is given
abbrev pub given_formula : Option Tree → Option Formula
given_formula None = None
given_formula (Some tree) = Some (formula_of tree)

-- the verdict on a point of a scene with this number of meshes: the point isn't clear, or what `at` writes there
abbrev pub point_verdict : Spot → ℕ → Option Tree → Scene → Verdict
point_verdict point meshes expr scene = counts_verdict point meshes (given_formula expr) scene.tris
