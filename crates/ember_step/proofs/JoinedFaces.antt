-- The faces of leaves, one list after another, are the faces of all their written regions.
use Rattle.std.proofs.Common.{ℕ, List, [], ◌∷◌, ◌++◌, map, flat_map, sym, subst}
use Rattle.std.specs.List.{AllZip}
use Rattle.std.proofs.lemmas.List.{map-append}
use Rattle.std.proofs.lemmas.List.Concat.{flat_map-cons}
use Rattle.ember_algebra.specs.Relations.{Each, none, more}
use Rattle.ember_expr.specs.Formula.{Formula, IsFit}
use Rattle.ember_job.specs.declared.job.Job.{Job}
use Rattle.ember_job.specs.Items.{EachAnswers}
use Rattle.ember_leaf.specs.KeptRegions.{NarrowKept as Kept}
use Rattle.ember_model.specs.declared.face.Face.{Face}
use Rattle.ember_model.specs.declared.tri.Tri.{Tri}
use Rattle.ember_model.specs.Meshes.{IsScene}
use Rattle.ember_text.specs.Documents.{written_face}
use Rattle.ember_text.specs.FacesInTexts.{AreFacesInTexts, IsFaceInText}
use Rattle.ember_step.specs.Faces.{AreRegionsFaces, LeafFacesJoin}
use Rattle.ember_step.proofs.FullTree.{visited_written}

-- lists of pairs, one after the other
pub AllZip-append : {X Y : Type 0} (R : X → Y → Type 0) (xs us : List X) (ys vs : List Y) → AllZip R xs ys → AllZip R us vs → AllZip R (xs ++ us) (ys ++ vs)
AllZip-append R [] us [] vs a b = b
AllZip-append R [] us (y ∷ ys) vs a b = absurd a
AllZip-append R (x ∷ xs) us [] vs a b = absurd a
AllZip-append R (x ∷ xs) us (y ∷ ys) vs a b = (a.0, AllZip-append R xs us ys vs a.1 b)

both_faces : (ks ls : List Kept) (fs gs : List Face) → AreFacesInTexts (map written_face ks) fs →
    AreFacesInTexts (map written_face ls) gs → AreFacesInTexts (map written_face (ks ++ ls)) (fs ++ gs)
both_faces ks ls fs gs a b =
    subst (λ (hs : List Face). AreFacesInTexts hs (fs ++ gs)) (sym (map-append written_face ks ls))
    (AllZip-append IsFaceInText (map written_face ks) (map written_face ls) fs gs a b)

-- the faces of all lists
abbrev pub all_of : List (List Face) → List Face
all_of lists = flat_map (λ (faces : List Face). faces) lists

faces_of : (Has : Job → List Kept → Type 0) (jobs : List Job) (lists : List (List Face)) →
    EachAnswers (λ job faces. AreRegionsFaces (Has job) faces) jobs lists → AreRegionsFaces (Each Has jobs) (all_of lists)
faces_of Has [] [] h = record { kept = []; has = none; faces_of = tt }
faces_of Has [] (fs ∷ lists) h = absurd h
faces_of Has (job ∷ jobs) [] h = absurd h
faces_of Has (job ∷ jobs) (fs ∷ lists) h =
    let a = h.0 in let b = faces_of Has jobs lists h.1 in
    record {
      kept = a.kept ++ b.kept;
      has = more a.has b.has;
      faces_of = subst (AreFacesInTexts (map written_face (a.kept ++ b.kept)))
          (sym (flat_map-cons (λ (faces : List Face). faces) fs lists))
          (both_faces a.kept b.kept fs (all_of lists) a.faces_of b.faces_of);
    }

-- the faces of the visited leaves, one list after another, are those of the scene's written regions
pub faces_join : (ts : List Tri) (meshes : ℕ) → IsScene ts meshes → (f : Formula) → IsFit 64 f → LeafFacesJoin ts f
faces_join ts meshes scene f fit lists h =
    let all = faces_of _ _ lists h in
    record { kept = all.kept; has = visited_written ts meshes scene f fit all.kept all.has; faces_of = all.faces_of }
