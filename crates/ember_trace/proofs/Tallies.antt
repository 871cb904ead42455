-- Counts that one triangle after another is taken from, or added to.
use Rattle.std.proofs.Common.{◌≡◌, ℕ, ◌+◌, ◌<◌, refl, sym, ap, ◌∙◌, ℤ, neg_ℤ, List, [], ◌∷◌, ◌++◌, length, take, get_or}
use Rattle.std.proofs.lemmas.List.{take_more}
use Rattle.ember_model.specs.declared.tri.Tri.{Tri}
use Rattle.ember_law.specs.Counts.{with_more}
use Rattle.ember_width.specs.declared.width.Width.{Ghosts}
use Rattle.ember_trace.specs.declared.near_triangle.NearTriangle.{NearTriangle}
use Rattle.ember_trace.specs.Crossings.{taken, ray_counts}

taken_push : {W M : Type 0} {G : Ghosts W M} (less : NearTriangle W M G → ℤ) (fs : List (NearTriangle W M G)) (f : NearTriangle W M G) (counts : List ℤ) →
    taken less (fs ++ f ∷ []) counts ≡ with_more (taken less fs counts) f.tri.mesh (neg_ℤ (less f))
taken_push less [] f counts = refl
taken_push less (g ∷ fs) f counts = taken_push less fs f (with_more counts g.tri.mesh (neg_ℤ (less g)))

-- one more near triangle's crossings are subtracted
pub taken_more : {W M : Type 0} {G : Ghosts W M} (less : NearTriangle W M G → ℤ) (fs : List (NearTriangle W M G)) (i : ℕ)
    (f : NearTriangle W M G) (counts old new : List ℤ) (by : ℤ) → i < length fs → f ≡ get_or fs i f → old ≡ taken less (take i fs) counts → by ≡ less f →
    new ≡ with_more old f.tri.mesh (neg_ℤ by) → new ≡ taken less (take (i + 1) fs) counts
taken_more {W} {M} {G} less fs i f counts old new by l h e b n =
    let all : take (i + 1) fs ≡ take i fs ++ f ∷ [] = take_more fs i f l ∙ ap (λ (g : NearTriangle W M G). take i fs ++ g ∷ []) (sym h) in
    n ∙ ap (λ (vs : List ℤ). with_more vs f.tri.mesh (neg_ℤ by)) e
    ∙ ap (λ (z : ℤ). with_more (taken less (take i fs) counts) f.tri.mesh (neg_ℤ z)) b
    ∙ sym (taken_push less (take i fs) f counts) ∙ ap (λ (gs : List (NearTriangle W M G)). taken less gs counts) (sym all)

ray_counts_push : (more : Tri → ℤ) (ts : List Tri) (t : Tri) (counts : List ℤ) →
    ray_counts more (ts ++ t ∷ []) counts ≡ with_more (ray_counts more ts counts) t.mesh (more t)
ray_counts_push more [] t counts = refl
ray_counts_push more (u ∷ ts) t counts = ray_counts_push more ts t (with_more counts u.mesh (more u))

-- one more triangle's crossings are added
pub ray_counts_more : (more : Tri → ℤ) (ts : List Tri) (i : ℕ) (d : Tri) (counts old new : List ℤ) (by : ℤ) →
    i < length ts → old ≡ ray_counts more (take i ts) counts → by ≡ more (get_or ts i d) →
    new ≡ with_more old (get_or ts i d).mesh by → new ≡ ray_counts more (take (i + 1) ts) counts
ray_counts_more more ts i d counts old new by l e b n =
    let t = get_or ts i d in
    n ∙ ap (λ (vs : List ℤ). with_more vs t.mesh by) e
    ∙ ap (λ (z : ℤ). with_more (ray_counts more (take i ts) counts) t.mesh z) b
    ∙ sym (ray_counts_push more (take i ts) t counts)
    ∙ ap (λ (us : List Tri). ray_counts more us counts) (sym (take_more ts i d l))
