-- Expressions that agree over a scene have the same written regions.
use Rattle.std.proofs.Common.{◌≡◌, ℕ, ◌+◌, ◌*◌, ◌≤◌, le_refl, sym, subst, ◌∙◌, arith, Bool, true, false, List, [], ◌∷◌, if◌then◌else◌, ℤ, pos, neg_ℤ, ◌<ℤ◌}
use borrow.Author.Differences.{ints}
use Rattle.ember_algebra.specs.Large.{Eventually}
use Rattle.ember_algebra.specs.Sign.{is_positive}
use Rattle.ember_algebra.proofs.Large.{eventually_both, eventually_map}
use Rattle.ember_algebra.proofs.Order.{pos_mul}
use Rattle.ember_algebra.proofs.Relations.{each_map}
use Rattle.ember_model.specs.declared.tri.Tri.{Tri}
use Rattle.ember_model.specs.declared.face.Face.{Face}
use Rattle.ember_model.specs.declared.point.Spot.{Spot}
use Rattle.ember_model.specs.declared.point.Axis.{Axis}
use Rattle.ember_model.specs.Planes.{along, main_axis}
use Rattle.ember_model.specs.Points.{scaled, moved}
use Rattle.ember_model.specs.Sides.{HasWindings, IsSides}
use Rattle.ember_model.proofs.Hits.{moved_weight, inside_parts}
use Rattle.ember_expr.specs.Formula.{Formula}
use Rattle.ember_expr.specs.Truth.{truth}
use Rattle.ember_box.specs.Boxes.{Cell}
use Rattle.ember_box.specs.Near.{near}
use Rattle.ember_leaf.specs.KeptRegions.{NarrowKept as Kept}
use Rattle.ember_leaf.specs.Written.{front, IsWrittenOfRegion, unowned, same_value, written, IsWrittenOf, regional, hidden}
use Rattle.ember_leaf.specs.Scenes.{IsBeside, LeafGives, regions, nothing, IsWritten}
use Rattle.ember_meaning.specs.Regions.Nearby.{AgreeOver}

module _ (scene : List Tri) (x y : Formula) (agree : AgreeOver scene x y) where
  -- a point at a small step from another has a weight
  step_weight : (k : Axis) (v : Spot) (m : ℕ) (by : ℤ) → 1 ≤ m → pos 0 <ℤ v.w → pos 0 <ℤ (moved (scaled (pos m) v) k by).w
  step_weight k v m by l w =
      let p : pos 0 <ℤ pos m = omega (arith, ints) in subst (λ (z : ℤ). pos 0 <ℤ z) (sym (moved_weight (scaled (pos m) v) k by)) (pos_mul p w)

  -- ---- beside a region
  agree_seen : (k : Axis) (v : Spot) (counts : List ℤ) → pos 0 <ℤ v.w → HasWindings scene k v counts → truth counts x ≡ truth counts y
  agree_seen k v counts w s =
      subst (λ (c : List ℤ). truth c x ≡ truth c y) s.counts_are (agree k v w s.clear)

  -- at the winding numbers before and after a region
  agree_beside : (f : Face) (before after : List ℤ) → IsSides scene f before after → (truth before x ≡ truth before y) × (truth after x ≡ truth after y)
  agree_beside f before after s =
      let k = main_axis f.support in let m = s.bound * 1 + 1 in let w = (inside_parts f s.at s.inside).0 in (
        agree_seen k (moved (scaled (pos m) s.at) k (neg_ℤ (pos 1))) before
            (step_weight k s.at m (neg_ℤ (pos 1)) (omega arith) w) (s.sees_before 1 m (le_refl 1) (omega arith)),
        agree_seen k (moved (scaled (pos m) s.at) k (pos 1)) after (step_weight k s.at m (pos 1) (omega arith) w) (s.sees_after 1 m (le_refl 1) (omega arith)),
      )

  agree_front : (f : Face) (before after : List ℤ) →
      (truth before x ≡ truth before y) × (truth after x ≡ truth after y) →
      truth (front f before after) x ≡ truth (front f before after) y
  agree_front f before after s = by (is_positive (along f.support (main_axis f.support)))
    where
      by : (b : Bool) → truth (if b then after else before) x ≡ truth (if b then after else before) y
      by true = s.1
      by false = s.0

  -- ---- what is written
  same_region : (near : List Tri) (i : ℕ) (f : Face) (ks : List Kept) → IsWrittenOfRegion scene x near i f ks → IsWrittenOfRegion scene y near i f ks
  same_region near i f ks (unowned n) = unowned n
  same_region near i f ks (same_value {before = b} {after = a} s e) =
      let g = agree_beside f b a s in same_value s (sym g.0 ∙ e ∙ g.1)
  same_region near i f ks (written {before = b} {after = a} o s n) =
      let g = agree_beside f b a s in
      subst (λ (flipped : Bool). let k : Kept = record { tri = i; flipped = flipped; ring = f } in
      IsWrittenOfRegion scene y near i f (k ∷ [])) (sym (agree_front f b a g))
      (written o s (λ e. n (g.0 ∙ e ∙ sym g.1)))

  same_place : (c : Cell) (near : List Tri) (i : ℕ) (ks : List Kept) → IsWrittenOf scene x c near i ks → IsWrittenOf scene y c near i ks
  same_place c near i ks (regional r) =
      regional (record { faces = r.faces; are_regions = r.are_regions; are_written = each_map (λ f us w. same_region near i f us w) r.are_written })
  same_place c near i ks (hidden h) = hidden h

  same_beside : (v : Spot) (value : Bool) → pos 0 <ℤ v.w → IsBeside scene x v value → IsBeside scene y v value
  same_beside v value w b =
      record {
        steps = λ k by. eventually_map (λ m h. λ clear a. sym
            (agree a (moved (scaled (pos m) v) k by) (h.0 k by) clear) ∙ h.1 clear a) (eventually_both heavy (b.steps k by));
      }
    where
      heavy : Eventually (λ m. (k : Axis) (by : ℤ) → pos 0 <ℤ (moved (scaled (pos m) v) k by).w)
      heavy = record { from = 1; holds = λ m l k by. step_weight k v m by l w }

  same_leaf : (c : Cell) (ks : List Kept) → LeafGives scene x c ks → LeafGives scene y c ks
  same_leaf c ks (regions w) = regions (each_map (λ i us r. same_place c (near scene c) i us r) w)
  same_leaf c ks (nothing v) =
      nothing (record { value = v.value; beside = λ p has. same_beside p v.value has.weight (v.beside p has) })

  -- the written regions of one are those of the other
  pub same_written : (ks : List Kept) → IsWritten scene x ks → IsWritten scene y ks
  same_written ks w = each_map same_leaf w
