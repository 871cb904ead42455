-- The tree of an expression without its places in memory, and the limits of its numbers
use Rattle.std.specs.Prelude.{ℕ, ◌≤◌, List, length, All}
use Rattle.ember_expr.specs.declared.trees.Rel.{Rel}
use Rattle.ember_expr.specs.declared.trees.Term.{Term}
use Rattle.ember_expr.specs.declared.trees.Tree.{Tree}
use Rattle.ember_expr.specs.declared.trees.Tree.TheVariants as tree

-- an expression as definitions see it
pub data Formula : Type 0 where
  Or : (a b : Formula) → Formula
  Xor : (a b : Formula) → Formula
  And : (a b : Formula) → Formula
  Not : (a : Formula) → Formula
  Mesh : (n : ℕ) → Formula
  Odd : (sum : List Term) → Formula
  Compare : (left : List Term) (rel : Rel) (right : List Term) → Formula

-- the formula of a tree. `Or'` and the like are the tree's operators as definitions see them; p and q are the pointers
-- to the two operands
abbrev pub formula_of : Tree → Formula
formula_of (tree.Or' p a q b) = Or (formula_of a) (formula_of b)
formula_of (tree.Xor' p a q b) = Xor (formula_of a) (formula_of b)
formula_of (tree.And' p a q b) = And (formula_of a) (formula_of b)
formula_of (tree.Not' p a) = Not (formula_of a)
formula_of (tree.Mesh n) = Mesh n
formula_of (tree.Odd sum) = Odd sum
formula_of (tree.Compare left rel right) = Compare left rel right

-- a factor of at most 1,000,000, and no mesh past the last
pub record IsFitTerm (meshes : ℕ) (t : Term) : Type 0 where
  pub factor : t.factor ≤ 1000000
  pub mesh : t.mesh ≤ meshes

-- at most 4096 terms
pub record IsFitSum (meshes : ℕ) (sum : List Term) : Type 0 where
  pub short : length sum ≤ 4096
  pub terms : All (IsFitTerm meshes) sum

-- n is from 1 to the number of meshes
pub record IsMeshNumber (meshes : ℕ) (n : ℕ) : Type 0 where
  pub first : 1 ≤ n
  pub last : n ≤ meshes

-- each mesh number is from 1 to `meshes`, but for the 0 of a plain number, and factors and sums keep their limits
abbrev pub IsFit : ℕ → Formula → Type 0
IsFit meshes (Or a b) = IsFit meshes a × IsFit meshes b
IsFit meshes (Xor a b) = IsFit meshes a × IsFit meshes b
IsFit meshes (And a b) = IsFit meshes a × IsFit meshes b
IsFit meshes (Not a) = IsFit meshes a
IsFit meshes (Mesh n) = IsMeshNumber meshes n
IsFit meshes (Odd sum) = IsFitSum meshes sum
IsFit meshes (Compare left rel right) = IsFitSum meshes left × IsFitSum meshes right
