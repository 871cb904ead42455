-- The meaning of the written regions at clear points: that on a general line beside them.
use Rattle.std.proofs.Common.{◌≡◌, ℕ, ◌^◌, le_refl, refl, ap, ◌∙◌, sym, subst, List, [], ◌∷◌, map, ℤ, pos, ◌*ℤ◌, ◌<ℤ◌}
use Rattle.std.proofs.lemmas.List.{map-append}
use Rattle.ember_algebra.specs.Relations.{Each, none, more}
use Rattle.ember_algebra.specs.Large.{Eventually}
use Rattle.ember_algebra.proofs.Large.{eventually_both, eventually_map}
use Rattle.ember_model.specs.declared.tri.Tri.{Tri}
use Rattle.ember_model.specs.declared.point.Spot.{Spot}
use Rattle.ember_model.specs.declared.point.Axis.{Axis}
use Rattle.ember_model.specs.Points.{offset_by}
use Rattle.ember_model.specs.Clear.{IsClear, AreClear}
use Rattle.ember_model.specs.Limits.{narrow_limit, most_meshes}
use Rattle.ember_model.specs.Within.{IsTriWithin}
use Rattle.ember_model.specs.declared.face.Face.{Face}
use Rattle.ember_model.specs.Meshes.{IsScene, IsBalanced, wind, vector, faces_of, of_mesh, meshes}
use Rattle.ember_law.proofs.Generic.{wind_shifted}
use Rattle.ember_law.proofs.GenericClear.{clear_shifted, clear_faces}
use Rattle.ember_law.proofs.Shifted.{weight_shifted}
use Rattle.ember_law.proofs.Vectors.{of_mesh_all}
use Rattle.ember_expr.specs.Formula.{Formula}
use Rattle.ember_expr.specs.Truth.{truth}
use Rattle.ember_width.specs.Laws.{narrow_root}
use Rattle.ember_width.specs.Scenes.{IsSceneWithin}
use Rattle.ember_box.specs.Boxes.{Cell, root, in_steps}
use Rattle.ember_box.specs.Near.{near}
use Rattle.ember_leaf.specs.declared.kept.Kept.{Kept as OnGrid}
use Rattle.ember_leaf.specs.KeptRegions.{NarrowKept as Kept}
use Rattle.ember_leaf.specs.Written.{IsWrittenOfRegion, unowned, same_value, written, IsWrittenOf, regional, hidden}
use Rattle.ember_leaf.specs.Scenes.{LeafGivesOn, regions, nothing, IsWrittenOn, LeafGives, IsWritten}
use Rattle.ember_visit.proofs.IndexLists.{scene_within}
use Rattle.ember_text.specs.Documents.{written_face}
use Rattle.ember_meaning.specs.Regions.Meaning.{one_if}
use Rattle.ember_meaning.specs.Regions.Meaning.{IsFalseOutside, HaveMeaning}
use Rattle.ember_meaning.proofs.Lines.{In}
use Rattle.ember_meaning.proofs.Tree.{IsParted, leaf_boxes, root_is_parted}
use Rattle.ember_meaning.proofs.LeafOfHit.{in_root, all_in}
use Rattle.ember_meaning.proofs.Entries.{each_map}
use Rattle.ember_meaning.proofs.General.{LiesInBox, meaning_on_lines}
use Rattle.ember_meaning.proofs.GeneralLines.{general_line}

-- points directly beside a clear point have its vector
pub vector_shifted : (a : Axis) (scene : List Tri) (p : Spot) → pos 0 <ℤ p.w → AreClear (faces_of scene) p →
    Eventually (λ k. vector a scene p ≡ vector a scene (offset_by p (pos k)))
vector_shifted a scene p w c = each meshes
  where
    each : (ms : List ℕ) → Eventually (λ k. map (λ m. wind a (faces_of (of_mesh m scene)) p) ms ≡ map
        (λ m. wind a (faces_of (of_mesh m scene)) (offset_by p (pos k))) ms)
    each [] = record { from = 0; holds = λ k l. refl }
    each (m ∷ ms) =
        eventually_map (λ k h. λ i. h.0 i ∷ h.1 i)
        (eventually_both (wind_shifted a p (faces_of (of_mesh m scene)) w (of_mesh_all (λ f. IsClear f p) m scene c))
        (each ms))

-- the written regions of leaves that part a box with all triangles wind as the expression says
meaning_of_parts : (scene : List Tri) (x : Formula) (whole : Cell) (all : List Cell) (ks : List Kept) → IsParted whole all →
    ((u : Tri) → In u scene → LiesInBox whole u) → ((mesh : ℕ) → IsBalanced (of_mesh mesh scene)) →
    Each (LeafGives scene x) all ks → IsFalseOutside x → HaveMeaning scene x (map written_face ks)
meaning_of_parts scene x whole all ks parted lies balanced r o a b p w clear clear_written =
    let s = eventually_both (weight_shifted p w)
    (eventually_both (clear_shifted p scene w)
    (eventually_both (general_line scene all a p w)
    (eventually_both (wind_shifted a p (map written_face ks) w clear_written) (vector_shifted b scene p w clear)))) in
    let q = offset_by p (pos s.from) in let h = s.holds s.from (le_refl s.from) in
    h.1.1.1.0 ∙ meaning_on_lines scene x whole all ks parted lies balanced r o a b q h.0 (clear_faces q scene h.1.0) h.1.1.0
    ∙ ap (λ (c : List ℤ). one_if (truth c x)) (sym h.1.1.1.1)

-- ---- on each grid
-- a written region on any grid, as one on the narrow grid: its face is all that is asked for
abbrev pub narrowed : {W M : Type 0} → OnGrid W M → Kept
narrowed k = record { tri = k.tri; flipped = k.flipped; ring = k.ring }

narrowed_faces : {W M : Type 0} (ks : List (OnGrid W M)) → map written_face (map narrowed ks) ≡ map written_face ks
narrowed_faces [] = refl
narrowed_faces (k ∷ ks) = λ i. written_face k ∷ narrowed_faces ks i

narrowed_each : {X W M : Type 0} {R : X → List (OnGrid W M) → Type 0} {S : X → List Kept → Type 0} →
    ((x : X) (ks : List (OnGrid W M)) → R x ks → S x (map narrowed ks)) → {xs : List X} {ks : List (OnGrid W M)} →
    Each R xs ks → Each S xs (map narrowed ks)
narrowed_each f none = none
narrowed_each {S = S} f (more {x = x} {xs = xs} {ys = ys} {zs = zs} r e) =
    subst (λ ls. Each S (x ∷ xs) ls) (sym (map-append narrowed ys zs)) (more (f x ys r) (narrowed_each f e))

narrowed_region : {W M : Type 0} (scene : List Tri) (x : Formula) (near : List Tri) (i : ℕ) (f : Face) (ks : List (OnGrid W M)) →
    IsWrittenOfRegion scene x near i f ks → IsWrittenOfRegion scene x near i f (map narrowed ks)
narrowed_region scene x near i f ks (unowned n) = unowned n
narrowed_region scene x near i f ks (same_value s e) = same_value s e
narrowed_region scene x near i f ks (written o s n) = written o s n

narrowed_place : {W M : Type 0} (scene : List Tri) (x : Formula) (c : Cell) (near : List Tri) (i : ℕ) (ks : List (OnGrid W M)) →
    IsWrittenOf scene x c near i ks → IsWrittenOf scene x c near i (map narrowed ks)
narrowed_place scene x c near i ks (regional r) =
    regional (record {
      faces = r.faces;
      are_regions = r.are_regions;
      are_written = narrowed_each (λ f us w. narrowed_region scene x near i f us w) r.are_written;
    })
narrowed_place scene x c near i ks (hidden h) = hidden h

narrowed_leaf : {W M : Type 0} (scene : List Tri) (x : Formula) (c : Cell) (ks : List (OnGrid W M)) →
    LeafGivesOn scene x c ks → LeafGives scene x c (map narrowed ks)
narrowed_leaf scene x c ks (regions w) = regions (narrowed_each (λ i us r. narrowed_place scene x c (near scene c) i us r) w)
narrowed_leaf scene x c ks (nothing v) = nothing v

-- what is written of a scene, leaf box by leaf box
pub written_of_boxes : {W M : Type 0} (s : ℕ) (scene : List Tri) (x : Formula) (ks : List (OnGrid W M)) →
    IsWrittenOn s scene x ks → Each (LeafGives scene x) (leaf_boxes s scene) (map narrowed ks)
written_of_boxes s scene x ks w =
    each_map (in_steps s) (narrowed_each (λ c us r. narrowed_leaf scene x (in_steps s c) us r) w)

-- the written regions of a scene wind as the expression says
pub meaning_within : {W M : Type 0} (s m : ℕ) → pos m <ℤ (pos 2048 *ℤ pos (2 ^ s)) → (scene : List Tri) (x : Formula)
    (ks : List (OnGrid W M)) → IsSceneWithin m scene most_meshes → IsWrittenOn s scene x ks → IsFalseOutside x →
    HaveMeaning scene x (map written_face ks)
meaning_within s m holds scene x ks v r o =
    subst (HaveMeaning scene x) (narrowed_faces ks)
    (meaning_of_parts scene x (in_steps s root) (leaf_boxes s scene) (map narrowed ks) (root_is_parted s scene)
    (λ t i. record { holds = λ at nf h w. in_root s m holds t at (all_in (IsTriWithin m) scene t v.within i) nf h w }) v.balanced
    (written_of_boxes s scene x ks r) o)

-- on the narrow grid
pub meaning_of_written : (scene : List Tri) (count : ℕ) (x : Formula) (ks : List Kept) → IsScene scene count →
    IsWritten scene x ks → IsFalseOutside x → HaveMeaning scene x (map written_face ks)
meaning_of_written scene count x ks v r o =
    meaning_within 0 narrow_limit narrow_root scene x ks (scene_within scene count v) r o
