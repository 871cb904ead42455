-- The truth of an expression at the winding numbers of all meshes
use Rattle.std.specs.Prelude.{ℕ, ◌-◌, ◌%◌, ◌==◌, ℤ, pos, neg_ℤ, ◌+ℤ◌, ◌*ℤ◌, Bool, not, ◌&&◌, ◌||◌}
use Rattle.std.specs.Prelude.{if◌then◌else◌, List, [], ◌∷◌, All, slice_index_or, unsigned_abs, int_lt}
use Rattle.std.specs.Prelude.{int_le}
use Rattle.ember_algebra.specs.Size.{Small}
use Rattle.ember_expr.specs.declared.trees.Rel.{Rel}
use Rattle.ember_expr.specs.declared.trees.Rel.TheVariants.{Less, LessEqual, Equal, NotEqual, GreaterEqual, Greater}
use Rattle.ember_expr.specs.declared.trees.Term.{Term}
use Rattle.ember_expr.specs.Formula.{Formula, Or, Xor, And, Not, Mesh, Odd, Compare}

-- the winding number of mesh n
abbrev pub count_of : List ℤ → ℕ → ℤ
count_of counts n = slice_index_or counts (n - 1) (pos 0)

-- each winding number is at most 2 ^ 24 in size
abbrev pub AreCounts : List ℤ → Type 0
AreCounts counts = All (Small 16777216) counts

-- what a factor multiplies: the winding number of its mesh, or 1 for a plain number (mesh 0)
abbrev pub mesh_factor : List ℤ → ℕ → ℤ
mesh_factor counts n = if n == 0 then pos 1 else count_of counts n

-- the factor times the winding number, or the factor alone for a plain number; it may be negative
abbrev pub unsigned_value_of : List ℤ → Term → ℤ
unsigned_value_of counts t = pos t.factor *ℤ mesh_factor counts t.mesh

abbrev pub signed : Bool → ℤ → ℤ
signed minus z = if minus then neg_ℤ z else z

-- the value of a term
abbrev pub term_value : List ℤ → Term → ℤ
term_value counts t = signed t.minus (unsigned_value_of counts t)

-- a number and the terms that follow it
abbrev pub sum_from : ℤ → List ℤ → List Term → ℤ
sum_from start counts [] = start
sum_from start counts (t ∷ ts) = sum_from (start +ℤ term_value counts t) counts ts

-- the value of a sum
abbrev pub sum_of : List ℤ → List Term → ℤ
sum_of counts sum = sum_from (pos 0) counts sum

abbrev pub is_odd : ℤ → Bool
is_odd z = unsigned_abs z % 2 == 1

-- the relation holds between the two integers
abbrev pub holds_between : Rel → ℤ → ℤ → Bool
holds_between Less x y = int_lt x y
holds_between LessEqual x y = int_le x y
holds_between Equal x y = int_le x y && int_le y x
holds_between NotEqual x y = not (int_le x y && int_le y x)
holds_between GreaterEqual x y = int_le y x
holds_between Greater x y = int_lt y x

-- exclusive or
abbrev pub differ : Bool → Bool → Bool
differ a b = if a then not b else b

-- the value of an expression at these winding numbers
abbrev pub truth : List ℤ → Formula → Bool
truth counts (Or a b) = truth counts a || truth counts b
truth counts (Xor a b) = differ (truth counts a) (truth counts b)
truth counts (And a b) = truth counts a && truth counts b
truth counts (Not a) = not (truth counts a)
truth counts (Mesh n) = int_le (pos 1) (count_of counts n)
truth counts (Odd sum) = is_odd (sum_of counts sum)
truth counts (Compare left rel right) = holds_between rel (sum_of counts left) (sum_of counts right)
