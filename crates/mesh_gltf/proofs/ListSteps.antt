-- A list of triangles, by each three corners
use Rattle.std.proofs.Common.{◌≡◌, ℕ, ◌+◌, List, [], ◌∷◌, ◌++◌, append_assoc, sym, ap, ◌∙◌}
use Rattle.mesh_read.specs.declared.surface.surface.Facet.{Facet}
use Rattle.mesh_gltf.specs.Triangles.{triangle, of_list}

three_corners : (place a b c : ℕ) (rest others last after : List ℕ) → rest ≡ a ∷ others → others ≡ b ∷ last → last ≡ c ∷ after →
    of_list place rest ≡ triangle place a b c ∷ of_list (place + 1) after
three_corners place a b c rest others last after is_a is_b is_c =
    ap (of_list place) (is_a ∙ ap (λ cs. a ∷ cs) (is_b ∙ ap (λ cs. b ∷ cs) is_c))

-- one triangle more
pub triangle_added : (all old new : List Facet) (place a b c : ℕ) (rest others last after : List ℕ) →
    all ≡ old ++ of_list place rest → new ≡ old ++ triangle place a b c ∷ [] →
    rest ≡ a ∷ others → others ≡ b ∷ last → last ≡ c ∷ after → all ≡ new ++ of_list (place + 1) after
triangle_added all old new place a b c rest others last after is added is_a is_b is_c =
    is ∙ ap (λ ts. old ++ ts) (three_corners place a b c rest others last after is_a is_b is_c)
    ∙ sym (append_assoc old (triangle place a b c ∷ []) (of_list (place + 1) after))
    ∙ ap (λ ts. ts ++ of_list (place + 1) after) (sym added)
