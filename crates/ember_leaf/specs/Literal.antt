-- What is written of a scene without the special cases of a covered triangle and of a box with one value:
-- by the regions of each triangle of each leaf
use Rattle.std.specs.Prelude.{◌≡◌, ℕ, List, [], length}
use Rattle.std.specs.List.{range_with_len}
use Rattle.ember_algebra.specs.Relations.{Each}
use Rattle.ember_model.specs.declared.tri.Tri.{Tri}
use Rattle.ember_model.specs.Meshes.{IsScene}
use Rattle.ember_expr.specs.Formula.{Formula}
use Rattle.ember_box.specs.Boxes.{Cell, root}
use Rattle.ember_box.specs.Near.{near}
use Rattle.ember_box.specs.Halving.{leaves}
use Rattle.ember_leaf.specs.KeptRegions.{NarrowKept as Kept}
use Rattle.ember_leaf.specs.Written.{AreRegionsWritten, IsCovered}
use Rattle.ember_leaf.specs.Scenes.{IsWritten}

-- what is written of the regions of triangle i of a leaf
abbrev pub IsLiterallyWrittenOf : List Tri → Formula → Cell → ℕ → List Kept → Type 0
IsLiterallyWrittenOf scene e c i ks = AreRegionsWritten scene e c (near scene c) i ks

-- what is written of a leaf: that of all its triangles, in order
abbrev pub IsLiterallyWrittenIn : List Tri → Formula → Cell → List Kept → Type 0
IsLiterallyWrittenIn scene e c ks = Each (IsLiterallyWrittenOf scene e c) (range_with_len 0 (length (near scene c))) ks

-- what is written of a scene: that of all leaves of the full tree, in tree order
abbrev pub IsLiterallyWritten : List Tri → Formula → List Kept → Type 0
IsLiterallyWritten scene e ks = Each (IsLiterallyWrittenIn scene e) (leaves scene root) ks

-- ---- what the law says
-- P holds for each scene of closed meshes and each formula
abbrev pub InScenes : (List Tri → Formula → Type 0) → Type 0
InScenes P = (scene : List Tri) (meshes : ℕ) (e : Formula) → IsScene scene meshes → P scene e

-- P can't be false
abbrev pub CannotFail : Type 0 → Type 0
CannotFail P = (P → ⊥) → ⊥

-- it is impossible that no list has the property; which list has it isn't said
abbrev pub CannotLackList : (List Kept → Type 0) → Type 0
CannotLackList P = ((ks : List Kept) → P ks → ⊥) → ⊥

-- only the empty list can have the property
abbrev pub IsNothing : (List Kept → Type 0) → Type 0
IsNothing P = (ks : List Kept) → P ks → ks ≡ []

-- a triangle that an earlier coplanar one covers writes nothing
abbrev pub CoveredWriteNothing : List Tri → Formula → Type 0
CoveredWriteNothing scene e =
    (c : Cell) (i : ℕ) → IsCovered (near scene c) i → IsNothing (IsLiterallyWrittenOf scene e c i)

-- a list that is written can't fail to be literally written
abbrev pub WrittenAreLiteral : List Tri → Formula → Type 0
WrittenAreLiteral scene e = (ks : List Kept) → IsWritten scene e ks → CannotFail (IsLiterallyWritten scene e ks)
