-- The faces that are read back from the document of the written regions have their meaning.
use Rattle.std.proofs.Common.{◌≡◌, ℕ, suc, ◌^◌, ap, ◌∙◌, refl, sym, subst, Bool, true, false, List, [], ◌∷◌, ◌++◌, length, map, flat_map, pos, ◌*ℤ◌, ◌<ℤ◌}
use Rattle.std.specs.List.{All, AllByRecursion, range_with_len}
use Rattle.std.proofs.lemmas.List.Concat.{flat_map-cons}
use Rattle.std.proofs.lemmas.List.Elements.{All-cons, All-nil}
use Rattle.ember_algebra.specs.Relations.{Each, none, more, Every}
use Rattle.ember_algebra.proofs.Relations.{every_unit}
use Rattle.ember_model.specs.declared.tri.Tri.{Tri}
use Rattle.ember_model.specs.declared.face.Face.{Face}
use Rattle.ember_model.specs.FaceFiles.{WrittenFace, IsWrittenFace, header, ending, written_lines}
use Rattle.ember_model.specs.Limits.{most_meshes}
use Rattle.ember_model.specs.Meshes.{IsScene}
use Rattle.ember_model.proofs.FlippedFaces.{inside-flipped}
use Rattle.ember_width.specs.declared.width.Width.{Ghosts}
use Rattle.ember_width.specs.Scenes.{IsSceneWithin}
use Rattle.ember_poly.specs.Cuts.{HasInside}
use Rattle.ember_poly.proofs.OutlinePoints.{outline_has_its_points}
use Rattle.ember_poly.proofs.OwnOutline.{outline_is_its_own}
use Rattle.ember_meaning.specs.Closed.Chains.{face_from, AxesAgreeOffScene, IsOutlined}
use Rattle.ember_meaning.proofs.ClosedSurfaces.{closed_faces}
use Rattle.ember_expr.specs.Formula.{Formula}
use Rattle.ember_expr.specs.Truth.{truth}
use Rattle.ember_box.specs.Boxes.{Cell, root}
use Rattle.ember_box.specs.Near.{near}
use Rattle.ember_box.specs.Halving.{leaves}
use Rattle.ember_leaf.specs.declared.kept.Kept.{Kept as OnGrid}
use Rattle.ember_leaf.specs.KeptRegions.{NarrowKept as Kept}
use Rattle.ember_leaf.specs.Written.{IsWrittenOfRegion, unowned, same_value, written, IsWrittenOf, regional, hidden, front}
use Rattle.ember_leaf.specs.Scenes.{LeafGives, regions, nothing, IsWrittenOn, IsWritten}
use Rattle.ember_leaf.proofs.WallClips.{each_every}
use Rattle.ember_text.specs.Texts.{IsTextInRange, oriented_face}
use Rattle.ember_text.specs.Documents.{IsDocumentText, written_face}
use Rattle.ember_text.specs.OutlineFaces.{AreOutlineFaces}
use Rattle.ember_meaning.specs.Regions.Meaning.{IsFalseOutside, HaveMeaning, AreSurfaceWithMeaning, ReadsWithMeaning}
use Rattle.ember_meaning.proofs.Tree.{leaf_boxes}
use Rattle.ember_meaning.proofs.ClearMeaning.{narrowed, written_of_boxes, meaning_within, meaning_of_written}
use Rattle.ember_meaning.proofs.SameFaces.{HaveSamePoints, same_meaning}

-- ---- each written region has an inside point
abbrev pub IsFilled : Kept → Type 0
IsFilled k = HasInside (written_face k)

of_region : (scene : List Tri) (x : Formula) (near : List Tri) (i : ℕ) (face : Face) (ks : List Kept) →
    IsWrittenOfRegion scene x near i face ks → Every IsFilled ks
of_region scene x near i face ks (unowned n) = tt
of_region scene x near i face ks (same_value s e) = tt
of_region scene x near i face ks (written {before = a} {after = b} o s n) =
    (filled (truth (front face a b) x), tt)
  where
    filled : (b : Bool) → HasInside (oriented_face face b)
    filled true = record { at = s.at; inside = inside-flipped face s.at ∙ s.inside; holds = tt }
    filled false = record { at = s.at; inside = s.inside; holds = tt }

of_place : (scene : List Tri) (x : Formula) (c : Cell) (near : List Tri) (i : ℕ) (ks : List Kept) → IsWrittenOf scene x c near i ks → Every IsFilled ks
of_place scene x c near i ks (regional r) =
    each_every (λ f. Unit {0}) IsFilled (λ f us t w. of_region scene x near i f us w) r.are_written (every_unit r.faces)
of_place scene x c near i ks (hidden h) = tt

of_leaf : (scene : List Tri) (x : Formula) (c : Cell) (ks : List Kept) → LeafGives scene x c ks → Every IsFilled ks
of_leaf scene x c ks (regions w) =
    each_every (λ i. Unit {0}) IsFilled (λ i us t w. of_place scene x c (near scene c) i us w) w (every_unit (range_with_len 0 (length (near scene c))))
of_leaf scene x c ks (nothing v) = tt

leaves_are_filled : (scene : List Tri) (x : Formula) (all : List Cell) (ks : List Kept) → Each (LeafGives scene x) all ks → Every IsFilled ks
leaves_are_filled scene x all ks w =
    each_every (λ c. Unit {0}) IsFilled (λ c us t g. of_leaf scene x c us g) w (every_unit all)

written_regions_are_filled : (scene : List Tri) (x : Formula) (ks : List Kept) → IsWritten scene x ks → Every IsFilled ks
written_regions_are_filled scene x ks w = leaves_are_filled scene x (leaves scene root) ks w

-- ---- the faces of texts

-- the texts are the lines of written faces, whose points are those of these faces
record ReadAs (fs : List Face) (texts : List ℕ) : Type 0 where
  written : List WrittenFace
  well_formed : All IsWrittenFace written
  is : texts ≡ flat_map written_lines written
  count : length fs ≡ length written
  same : HaveSamePoints fs (map face_from written)
  outlined : AllByRecursion IsOutlined written

texts_read : (ks : List Kept) {texts : List ℕ} → Every IsFilled ks → Each IsTextInRange (map written_face ks) texts → ReadAs (map written_face ks) texts
texts_read [] h none = record { written = []; well_formed = All-nil IsWrittenFace; is = refl; count = refl; same = tt; outlined = tt }
texts_read (k ∷ ks) h (more {ys = ys} {zs = zs} t ts) =
    let f = written_face k in let s = texts_read ks h.1 ts in
    let w : WrittenFace = record { support = f.support; edges = t.text_is.outline } in
    record {
      written = w ∷ s.written;
      well_formed = All-cons IsWrittenFace w s.written t.written s.well_formed;
      is = (λ i. t.text_is.is i ++ s.is i) ∙ sym (flat_map-cons written_lines w s.written);
      count = ap (λ n. suc n) s.count;
      same = (outline_has_its_points f t.text_is.outline h.0 t.text_is.is_outline, s.same);
      outlined = (outline_is_its_own f t.text_is.outline h.0 t.text_is.is_outline, s.outlined);
    }

-- faces with a meaning wind alike along all axes
axes_agree : (scene : List Tri) (x : Formula) (fs : List Face) → HaveMeaning scene x fs → AxesAgreeOffScene scene fs
axes_agree scene x fs m a b p w s c = m a a p w s c ∙ sym (m b a p w s c)

-- the faces of the document that is written have the meaning, and are a closed surface
pub document_reads : (scene : List Tri) (count : ℕ) (x : Formula) (ks : List Kept) (bytes : List ℕ) →
    IsScene scene count → IsWritten scene x ks → IsFalseOutside x → IsDocumentText (map written_face ks) bytes →
    ReadsWithMeaning scene x bytes
document_reads scene count x ks bytes v w o d =
    let s = texts_read ks (written_regions_are_filled scene x ks w) d.are_texts in
    let m = same_meaning scene x (map written_face ks) (map face_from s.written) s.same (meaning_of_written scene count x ks v w o) in
    record {
      faces = map face_from s.written;
      read = record { written = s.written; well_formed = s.well_formed; is = d.is ∙ (λ i. header ++ (s.is i ++ ending (s.count i))); faces = refl };
      outlined = s.outlined;
      meaning = m;
      closed = closed_faces scene s.written s.outlined (axes_agree scene x (map face_from s.written) m);
    }

-- ---- the faces of outlines, on each grid
record OutlinedAs (fs gs : List Face) : Type 0 where
  written : List WrittenFace
  is : gs ≡ map face_from written
  same : HaveSamePoints fs (map face_from written)
  outlined : AllByRecursion IsOutlined written

filled_faces : {W M : Type 0} (ks : List (OnGrid W M)) → Every IsFilled (map narrowed ks) → Every HasInside (map written_face ks)
filled_faces [] h = tt
filled_faces (k ∷ ks) h = (h.0, filled_faces ks h.1)

outlined_as : {W M : Type 0} (G : Ghosts W M) (fs gs : List Face) → Every HasInside fs → AreOutlineFaces G fs gs → OutlinedAs fs gs
outlined_as G [] [] h a = record { written = []; is = refl; same = tt; outlined = tt }
outlined_as G [] (g ∷ gs) h a = absurd a
outlined_as G (f ∷ fs) [] h a = absurd a
outlined_as G (f ∷ fs) (g ∷ gs) h a =
    let one = a.0 in let s = outlined_as G fs gs h.1 a.1 in
    let w : WrittenFace = record { support = f.support; edges = one.outline } in
    record {
      written = w ∷ s.written;
      is = λ i. one.is i ∷ s.is i;
      same = (outline_has_its_points f one.outline h.0 one.is_outline, s.same);
      outlined = (outline_is_its_own f one.outline h.0 one.is_outline, s.outlined);
    }

-- the faces of the outlines of the written regions have the meaning, and are a closed surface
pub outlines_are_a_surface : {W M : Type 0} (G : Ghosts W M) (s m : ℕ) → pos m <ℤ (pos 2048 *ℤ pos (2 ^ s)) →
    (scene : List Tri) (x : Formula) (ks : List (OnGrid W M)) (faces : List Face) → IsSceneWithin m scene most_meshes →
    IsWrittenOn s scene x ks → IsFalseOutside x → AreOutlineFaces G (map written_face ks) faces → AreSurfaceWithMeaning scene x faces
outlines_are_a_surface G s m holds scene x ks faces v w o a =
    let filled = filled_faces ks (leaves_are_filled scene x (leaf_boxes s scene) (map narrowed ks) (written_of_boxes s scene x ks w)) in
    let r = outlined_as G (map written_face ks) faces filled a in
    let m = same_meaning scene x (map written_face ks) (map face_from r.written) r.same (meaning_within s m holds scene x ks v w o) in
    record {
      written = r.written;
      faces_are = r.is;
      outlined = r.outlined;
      meaning = subst (HaveMeaning scene x) (sym r.is) m;
      closed = closed_faces scene r.written r.outlined (axes_agree scene x (map face_from r.written) m);
    }
