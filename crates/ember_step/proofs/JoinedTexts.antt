-- The texts of leaves, one after another, are the text of all their written regions.
use Rattle.std.proofs.Common.{◌≡◌, ◌∙◌, ℕ, ◌+◌, List, [], ◌∷◌, ◌++◌, map, refl, sym, subst}
use Rattle.std.proofs.lemmas.List.{length-append, map-append}
use Rattle.std.proofs.lemmas.List.Concat.{flat_map-cons}
use Rattle.std.proofs.lemmas.List.Sums.{sum_by-cons}
use Rattle.ember_algebra.specs.Relations.{Each, none, more}
use Rattle.ember_algebra.proofs.Relations.{each_append}
use Rattle.ember_expr.specs.Formula.{Formula, IsFit}
use Rattle.ember_job.specs.declared.job.Job.{Job}
use Rattle.ember_job.specs.Items.{EachAnswers}
use Rattle.ember_leaf.specs.KeptRegions.{NarrowKept as Kept}
use Rattle.ember_model.specs.declared.tri.Tri.{Tri}
use Rattle.ember_model.specs.Meshes.{IsScene}
use Rattle.ember_text.specs.FacesTexts.{FacesText}
use Rattle.ember_text.specs.Documents.{IsTextOf, joined, written_face}
use Rattle.ember_step.specs.Texts.{IsRegionsText, LeafTextsJoin}
use Rattle.ember_step.proofs.FullTree.{visited_written}

one_more : (t : FacesText) (ts : List FacesText) → joined (t ∷ ts) ≡ record { bytes = t.bytes ++ (joined ts).bytes; count = t.count + (joined ts).count }
one_more t ts =
    λ i. record { bytes = flat_map-cons (λ (u : FacesText). u.bytes) t ts i; count = sum_by-cons (λ (u : FacesText). u.count) t ts i }

both_texts : (ks ls : List Kept) (s t : FacesText) → IsTextOf (map written_face ks) s →
    IsTextOf (map written_face ls) t → IsTextOf (map written_face (ks ++ ls))
    (record { bytes = s.bytes ++ t.bytes; count = s.count + t.count })
both_texts ks ls s t a b =
    let e : map written_face (ks ++ ls) ≡ map written_face ks ++ map written_face ls = map-append written_face ks ls in
    rw e (record {
      are_texts = each_append a.are_texts b.are_texts;
      count = (λ i. a.count i + b.count i) ∙ sym (length-append (map written_face ks) (map written_face ls));
    })

texts_of : (Has : Job → List Kept → Type 0) (jobs : List Job) (texts : List FacesText) →
    EachAnswers (λ job text. IsRegionsText (Has job) text) jobs texts → IsRegionsText (Each Has jobs) (joined texts)
texts_of Has [] [] h = record { kept = []; has = none; text_of = record { are_texts = none; count = refl } }
texts_of Has [] (t ∷ ts) h = absurd h
texts_of Has (job ∷ jobs) [] h = absurd h
texts_of Has (job ∷ jobs) (t ∷ ts) h =
    let a = h.0 in let b = texts_of Has jobs ts h.1 in
    record {
      kept = a.kept ++ b.kept;
      has = more a.has b.has;
      text_of = subst (IsTextOf (map written_face (a.kept ++ b.kept))) (sym (one_more t ts)) (both_texts a.kept b.kept t (joined ts) a.text_of b.text_of);
    }

-- the texts of the visited leaves, one after another, are the text of the scene's written regions
pub texts_join : (ts : List Tri) (meshes : ℕ) → IsScene ts meshes → (f : Formula) → IsFit 64 f → LeafTextsJoin ts f
texts_join ts meshes scene f fit texts h =
    let all = texts_of _ _ texts h in
    record { kept = all.kept; has = visited_written ts meshes scene f fit all.kept all.has; text_of = all.text_of }
