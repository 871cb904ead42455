-- The faces of the outlines of leaves, one list after another, are those of all their written regions.
use Rattle.std.proofs.Common.{◌<◌, List, [], ◌∷◌, ◌++◌, map, sym, subst}
use Rattle.std.proofs.lemmas.List.{map-append}
use Rattle.std.proofs.lemmas.List.Concat.{flat_map-cons}
use Rattle.ember_algebra.specs.Relations.{Each, none, more}
use Rattle.ember_expr.specs.Formula.{Formula, IsFit}
use Rattle.ember_job.specs.declared.job.Job.{Job}
use Rattle.ember_job.specs.Items.{EachAnswers}
use Rattle.ember_leaf.specs.declared.kept.Kept.{Kept}
use Rattle.ember_model.specs.declared.face.Face.{Face}
use Rattle.ember_model.specs.declared.tri.Tri.{Tri}
use Rattle.ember_model.specs.Limits.{most_meshes}
use Rattle.ember_model.specs.Within.{normal_limit}
use Rattle.ember_width.specs.declared.width.Width.{Ghosts}
use Rattle.ember_width.specs.Scenes.{IsSceneWithin}
use Rattle.ember_text.specs.Documents.{written_face}
use Rattle.ember_text.specs.OutlineFaces.{AreOutlineFaces, IsOutlineFace}
use Rattle.ember_visit.specs.Jobs.{IsJobOn, root_job_on}
use Rattle.ember_step.specs.Outlines.{AreRegionsOutlines, LeafOutlinesJoin}
use Rattle.ember_step.proofs.FullTree.{visited_written_on}
use Rattle.ember_step.proofs.JoinedFaces.{AllZip-append, all_of}

module _ {W M : Type 0} (G : Ghosts W M) where
  both_outlines : (ks ls : List (Kept W M)) (fs gs : List Face) → AreOutlineFaces G (map written_face ks) fs →
      AreOutlineFaces G (map written_face ls) gs → AreOutlineFaces G (map written_face (ks ++ ls)) (fs ++ gs)
  both_outlines ks ls fs gs a b =
      subst (λ (hs : List Face). AreOutlineFaces G hs (fs ++ gs)) (sym (map-append written_face ks ls))
      (AllZip-append (IsOutlineFace G) (map written_face ks) (map written_face ls) fs gs a b)

  outlines_of : (Has : Job → List (Kept W M) → Type 0) (jobs : List Job) (lists : List (List Face)) →
      EachAnswers (λ job faces. AreRegionsOutlines G (Has job) faces) jobs lists → AreRegionsOutlines G (Each Has jobs) (all_of lists)
  outlines_of Has [] [] h = record { kept = []; has = none; faces_of = tt }
  outlines_of Has [] (fs ∷ lists) h = absurd h
  outlines_of Has (job ∷ jobs) [] h = absurd h
  outlines_of Has (job ∷ jobs) (fs ∷ lists) h =
      let a = h.0 in let b = outlines_of Has jobs lists h.1 in
      record {
        kept = a.kept ++ b.kept;
        has = more a.has b.has;
        faces_of = subst (AreOutlineFaces G (map written_face (a.kept ++ b.kept)))
            (sym (flat_map-cons (λ (faces : List Face). faces) fs lists))
            (both_outlines a.kept b.kept fs (all_of lists) a.faces_of b.faces_of);
      }

  -- the faces of the visited leaves, one list after another, are those of the scene's written regions
  pub outlines_join : (ts : List Tri) → normal_limit G.corner < G.fine → IsSceneWithin G.corner ts most_meshes → (f : Formula) →
      IsFit 64 f → IsJobOn G.scale G.fine ts (root_job_on G.scale ts) → LeafOutlinesJoin G ts f
  outlines_join ts tells scene f fit is lists h =
      let all = outlines_of _ _ lists h in
      record {
        kept = all.kept;
        has = visited_written_on W M G.scale G.corner G.fine tells ts scene f fit is all.kept all.has;
        faces_of = all.faces_of;
      }
