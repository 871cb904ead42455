-- Files that are made one after another
use Rattle.std.proofs.Common.{◌≡◌, ℕ, suc, ◌+◌, List, [], ◌∷◌, ◌++◌, refl, sym, ap, subst, ◌∙◌, arith, append_assoc}
use Rattle.ember_model.specs.declared.tri.Tri.{Tri}
use Rattle.mesh_outside.specs.Target.Several.{NamedBytes}
use Rattle.mesh_run.specs.Writes.{AreAppended, mesh_file, mesh_files}

-- the file of one mesh more
mesh_files_more : (folder : List ℕ) (tris : List Tri) (n : ℕ) → mesh_files folder tris (n + 1) ≡ mesh_files folder tris n ++ mesh_file folder tris (n + 1) ∷ []
mesh_files_more folder tris n =
    let next : suc n ≡ n + 1 = omega arith in
    subst (λ (k : ℕ). mesh_files folder tris k ≡ mesh_files folder tris n ++ mesh_file folder tris k ∷ []) next refl

-- the same, behind others
pub one_mesh_more : (folder : List ℕ) (tris : List Tri) (n : ℕ) (others before after : List NamedBytes) →
    before ≡ others ++ mesh_files folder tris n → after ≡ before ++ mesh_file folder tris (n + 1) ∷ [] →
    after ≡ others ++ mesh_files folder tris (n + 1)
one_mesh_more folder tris n others before after e f =
    let file = mesh_file folder tris (n + 1) in
    f ∙ ap (λ (files : List NamedBytes). files ++ file ∷ []) e
    ∙ append_assoc others (mesh_files folder tris n) (file ∷ [])
    ∙ ap (λ (files : List NamedBytes). others ++ files) (sym (mesh_files_more folder tris n))

-- what is appended to no file is all there is
pub all_are_appended : (Are : List NamedBytes → Type 0) (old new : List NamedBytes) → old ≡ [] → AreAppended Are old new → Are new
all_are_appended Are old new e h = subst Are (sym (h.all ∙ ap (λ (files : List NamedBytes). files ++ h.made) e)) h.are

-- files that are appended, and then others
pub others_are_appended : (old between new made others : List NamedBytes) → between ≡ old ++ made →
    new ≡ between ++ others → new ≡ old ++ (made ++ others)
others_are_appended old between new made others e f =
    f ∙ ap (λ (files : List NamedBytes). files ++ others) e ∙ append_assoc old made others
