-- What follows on an expression, and on the scene of the files.
use Rattle.std.proofs.Common.{◌≡◌, ℕ, List, length, sym, subst}
use Rattle.ember_expr.specs.Formula.{Formula}
use Rattle.ember_model.specs.declared.tri.Tri.{Tri}
use Rattle.ember_verdict.specs.Lattices.{IsLatticeText}
use Rattle.ember_verdict.specs.Outputs.{Lattice, MeetingPairs}
use Rattle.ember_verdict.specs.PairLists.{IsPairsText}
use Rattle.ember_verdict.specs.Statuses.{IsText}
use Rattle.ember_verdict.specs.Verdict.{Contents, Verdict, Writes, after_expr, after_scene, pairs_verdict, voxels_verdict}

-- these triangles were read
abbrev pub SceneRead : ℕ → Contents → List Tri → Type 0
SceneRead places contents tris = (next : List Tri → Verdict) → after_scene places contents next ≡ next tris

-- this expression was given, over m meshes; `after` reads and checks it
abbrev pub ExprRead : (ℕ → (Formula → Verdict) → Verdict) → ℕ → Formula → Type 0
ExprRead after m formula = (next : Formula → Verdict) → after m next ≡ next formula

-- ---- pairs
-- the pairs of the scene are the output of `pairs`
pub pairs_listed : (places : ℕ) (contents : Contents) (tris : List Tri) (bytes : List ℕ) →
    SceneRead places contents tris → IsPairsText tris bytes → IsText (pairs_verdict places contents) bytes
pairs_listed places contents tris bytes scene is =
    subst (λ (v : Verdict). IsText v bytes) (sym (scene (λ tris. Writes (MeetingPairs tris)))) is

-- ---- an expression and a scene
module _ (after : ℕ → (Formula → Verdict) → Verdict) (places m : ℕ) (contents : Contents) (count : length contents ≡ m) where
  -- the verdict after an expression that was read
  pub after_read : (formula : Formula) (next : Formula → Verdict) → ExprRead after m formula → after (length contents) next ≡ next formula
  after_read formula next given = subst (λ (n : ℕ). after n next ≡ next formula) (sym count) (given next)

  -- the output for a scene and an expression is that for the files and the text that were read as these
  pub scene_text : (formula : Formula) (tris : List Tri) (bytes : List ℕ) (next : Formula → List Tri → Verdict) →
      ExprRead after m formula → SceneRead places contents tris → IsText (next formula tris) bytes →
      IsText (after (length contents) (λ formula. after_scene places contents (next formula))) bytes
  scene_text formula tris bytes next given scene is =
      subst (λ (v : Verdict). IsText v bytes) (sym (after_read formula (λ formula. after_scene places contents (next formula)) given))
      (subst (λ (v : Verdict). IsText v bytes) (sym (scene (next formula))) is)

-- ---- a lattice
-- the text of the lattice is the output of `voxels`
pub lattice_sampled : (expr : List ℕ) (size places m : ℕ) (contents : Contents) (formula : Formula) (tris : List Tri)
    (bytes : List ℕ) → length contents ≡ m → ExprRead (after_expr expr) m formula → SceneRead places contents tris →
    IsLatticeText tris formula size bytes → IsText (voxels_verdict expr size places contents) bytes
lattice_sampled expr size places m contents formula tris bytes count given scene is =
    scene_text (after_expr expr) places m contents count formula tris bytes (λ formula tris. Writes (Lattice tris formula size)) given scene is
