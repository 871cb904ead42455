-- The three-valued truth: some meshes are undecided, and an expression may be undecided with them
use Rattle.std.specs.Prelude.{ℕ, ◌==◌, ℤ, Bool, true, false, not, ◌&&◌, ◌||◌, if◌then◌else◌, List, []}
use Rattle.std.specs.Prelude.{◌∷◌, Option, Some, None}
use Rattle.ember_expr.specs.declared.trees.Term.{Term}
use Rattle.ember_expr.specs.Formula.{Formula, Or, Xor, And, Not, Mesh, Odd, Compare}
use Rattle.ember_expr.specs.Truth.{differ, truth}

-- whether a sum mentions an undecided mesh, whatever its factor; mesh 0 means a plain number
abbrev pub mentions : (ℕ → Bool) → List Term → Bool
mentions undecided [] = false
mentions undecided (t ∷ ts) = not (t.mesh == 0) && undecided t.mesh || mentions undecided ts

-- the truth, unless it is undecided
abbrev pub truth_unless : Bool → Bool → Option Bool
truth_unless undecided value = if undecided then None else Some value

-- false if one part is false, true if both are true
abbrev pub known_and : Option Bool → Option Bool → Option Bool
known_and (Some true) b = b
known_and (Some false) b = Some false
known_and None (Some false) = Some false
known_and None (Some true) = None
known_and None None = None

-- true if one part is true, false if both are false
abbrev pub known_or : Option Bool → Option Bool → Option Bool
known_or (Some false) b = b
known_or (Some true) b = Some true
known_or None (Some true) = Some true
known_or None (Some false) = None
known_or None None = None

-- the three-valued exclusive or
abbrev pub known_xor : Option Bool → Option Bool → Option Bool
known_xor None b = None
known_xor (Some a) None = None
known_xor (Some a) (Some b) = Some (differ a b)

-- the three-valued negation
abbrev pub known_not : Option Bool → Option Bool
known_not None = None
known_not (Some a) = Some (not a)

-- the value of an expression at these counts, if it is decided
abbrev pub known : (ℕ → Bool) → List ℤ → Formula → Option Bool
known undecided counts (Or a b) = known_or (known undecided counts a) (known undecided counts b)
known undecided counts (Xor a b) = known_xor (known undecided counts a) (known undecided counts b)
known undecided counts (And a b) = known_and (known undecided counts a) (known undecided counts b)
known undecided counts (Not a) = known_not (known undecided counts a)
known undecided counts (Mesh n) = truth_unless (undecided n) (truth counts (Mesh n))
known undecided counts (Odd sum) = truth_unless (mentions undecided sum) (truth counts (Odd sum))
known undecided counts (Compare left rel right) =
    truth_unless (mentions undecided left || mentions undecided right) (truth counts (Compare left rel right))
