-- Without the special cases the written regions are the same: the literal lists can't fail to exist,
-- and each of them is the list that is written.
use Rattle.std.proofs.Common.{◌≡◌, ◌≢◌, ◌⊎◌, inl, inr, sym, subst, ℕ, List, [], length, All, pos}
use Rattle.std.specs.List.{range_with_len}
use Rattle.ember_algebra.proofs.Relations.{each_map}
use Rattle.ember_model.specs.declared.plane.Plane.{Plane}
use Rattle.ember_model.specs.declared.face.Face.{Face}
use Rattle.ember_model.specs.declared.tri.Tri.{Tri}
use Rattle.ember_model.specs.Planes.{along, main_axis}
use Rattle.ember_model.specs.Owners.{IsOwner}
use Rattle.ember_model.specs.Meshes.{IsScene}
use Rattle.ember_model.specs.Valid.{IsValidTri}
use Rattle.ember_expr.specs.Formula.{Formula}
use Rattle.ember_expr.specs.Truth.{truth}
use Rattle.ember_law.proofs.CornerSides.{main_entry}
use Rattle.ember_box.specs.Boxes.{Cell, root}
use Rattle.ember_box.specs.Near.{near, tri_at}
use Rattle.ember_box.specs.Halving.{leaves}
use Rattle.ember_trace.proofs.SomeSides.{HasSides, face_has_sides}
use Rattle.ember_leaf.specs.KeptRegions.{NarrowKept as Kept}
use Rattle.ember_leaf.specs.Walls.{IsPartOf}
use Rattle.ember_leaf.specs.Written.{IsWrittenOfRegion, unowned, same_value, written, IsCovered, regional, IsWrittenIn}
use Rattle.ember_leaf.specs.Scenes.{HasOneValue, regions, IsWritten}
use Rattle.ember_leaf.specs.Literal.{IsLiterallyWrittenOf, IsLiterallyWrittenIn, IsLiterallyWritten}
use Rattle.ember_leaf.proofs.WrittenRegionsUnique.{covered_writes_nothing, nothing_written, written_unique}
use Rattle.ember_leaf.proofs.RegionCuts.{cuts_keep}
use Rattle.ember_leaf.proofs.WallClips.{left_parts}
use Rattle.ember_leaf.proofs.SomeRegions.{either, some_each, some_each_where, some_regions}

-- ---- lists can't fail to exist
part_has_sides : (scene : List Tri) → All IsValidTri scene → (t : Tri) (g : Face) → IsPartOf t g → HasSides scene g
part_has_sides scene valid t g p =
    face_has_sides scene valid g p.somewhere.at p.somewhere.inside
    (subst (λ (n : Plane). along n (main_axis n) ≢ pos 0) (sym p.plane.support) (main_entry t p.plane.normal))

module _ (scene : List Tri) (f : Formula) (valid : All IsValidTri scene) where
  at_region : (near : List Tri) (i : ℕ) (t : Tri) (g : Face) → IsPartOf t g → ((ks : List Kept) → IsWrittenOfRegion scene f near i g ks → ⊥) → ⊥
  at_region near i t g p n = either (IsOwner near i g) by
    where
      by_value : IsOwner near i g → (s : HasSides scene g) → ((truth s.before f ≡ truth s.after f) ⊎ (truth s.before f ≡ truth s.after f → ⊥)) → ⊥
      by_value o s (inl e) = n _ (same_value s.are_sides e)
      by_value o s (inr d) = n _ (written o s.are_sides d)

      by : (IsOwner near i g ⊎ (IsOwner near i g → ⊥)) → ⊥
      by (inl o) =
          let s = part_has_sides scene valid t g p in either (truth s.before f ≡ truth s.after f) (by_value o s)
      by (inr m) = n _ (unowned m)

  -- of a triangle of a leaf
  pub some_of_triangle : (c : Cell) (i : ℕ) → ((ks : List Kept) → IsLiterallyWrittenOf scene f c i ks → ⊥) → ⊥
  some_of_triangle c i n =
      let t = tri_at (near scene c) i in
      some_regions c (near scene c) i (λ fs r. some_each_where (IsPartOf t) (at_region (near scene c) i t) fs
      (cuts_keep t r.cuts (left_parts t r.is_start))
      (λ ks e. n ks (record { faces = fs; are_regions = r; are_written = e })))

  -- of a leaf
  pub some_of_leaf : (c : Cell) → ((ks : List Kept) → IsLiterallyWrittenIn scene f c ks → ⊥) → ⊥
  some_of_leaf c n = some_each (some_of_triangle c) (range_with_len 0 (length (near scene c))) n

  -- of a scene
  pub some_of_scene : ((ks : List Kept) → IsLiterallyWritten scene f ks → ⊥) → ⊥
  some_of_scene n = some_each some_of_leaf (leaves scene root) n

-- ---- they are the written ones
in_leaf : (scene : List Tri) (f : Formula) (c : Cell) {ks : List Kept} → IsLiterallyWrittenIn scene f c ks → IsWrittenIn scene f c (near scene c) ks
in_leaf scene f c w = each_map (λ i us r. regional r) w

-- a list that is literally written is written
pub literal_written : (scene : List Tri) (f : Formula) (ks : List Kept) → IsLiterallyWritten scene f ks → IsWritten scene f ks
literal_written scene f ks w = each_map (λ c us r. regions (in_leaf scene f c r)) w

-- a covered triangle writes nothing
pub covered_nothing : (scene : List Tri) (f : Formula) (c : Cell) (i : ℕ) → IsCovered (near scene c) i →
    (ks : List Kept) → IsLiterallyWrittenOf scene f c i ks → ks ≡ []
covered_nothing scene f c i h ks w = covered_writes_nothing scene f c (near scene c) i ks h w

module _ (scene : List Tri) (f : Formula) (meshes : ℕ) (is : IsScene scene meshes) where
  -- nor does a leaf in which the expression has one value
  pub one_value_nothing : (c : Cell) → HasOneValue scene f c → (ks : List Kept) → IsLiterallyWrittenIn scene f c ks → ks ≡ []
  one_value_nothing c h ks w = nothing_written scene f meshes is c h ks (in_leaf scene f c w)

  -- a list that is written can't fail to be a literal one
  pub written_literal : (ks : List Kept) → IsWritten scene f ks → (IsLiterallyWritten scene f ks → ⊥) → ⊥
  written_literal ks w n =
      some_of_scene scene f is.valid (λ us l. n (subst (IsLiterallyWritten scene f)
      (written_unique scene f meshes is us ks (literal_written scene f us l) w) l))
