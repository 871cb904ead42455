-- Nodes that are still, by one member after another
use Rattle.std.proofs.Common.{◌≡◌, Bool, true, false, [], ◌∷◌, codes, ap, ◌∙◌}
use Rattle.std.specs.Prelude.{◌&&◌}
use Rattle.serde_json.specs.Data.{Data}
use Rattle.serde_json.specs.Find.{get}
use Rattle.mesh_gltf.specs.Nodes.{is_missing_or, identity, nought, unit, is_still}

abbrev pub matrix : Data → Bool
matrix node = is_missing_or identity (get (codes "matrix") node)

abbrev pub translation : Data → Bool
translation node = is_missing_or (nought ∷ nought ∷ nought ∷ []) (get (codes "translation") node)

abbrev pub rotation : Data → Bool
rotation node = is_missing_or (nought ∷ nought ∷ nought ∷ unit ∷ []) (get (codes "rotation") node)

abbrev pub scale : Data → Bool
scale node = is_missing_or (unit ∷ unit ∷ unit ∷ []) (get (codes "scale") node)

-- a matrix moves the node
pub matrix_moves : (node : Data) → false ≡ matrix node → false ≡ is_still node
unfolding is_still
matrix_moves node m = ap (λ (b : Bool). b && translation node && rotation node && scale node) m

-- without a matrix the other members decide
without_matrix : (node : Data) → true ≡ matrix node → (translation node && rotation node && scale node) ≡ is_still node
unfolding is_still
without_matrix node m = ap (λ (b : Bool). b && translation node && rotation node && scale node) m

-- a translation moves the node
pub translation_moves : (node : Data) → true ≡ matrix node → false ≡ translation node → false ≡ is_still node
translation_moves node m t = ap (λ (b : Bool). b && rotation node && scale node) t ∙ without_matrix node m

without_translation : (node : Data) → true ≡ matrix node → true ≡ translation node → (rotation node && scale node) ≡ is_still node
without_translation node m t = ap (λ (b : Bool). b && rotation node && scale node) t ∙ without_matrix node m

-- a rotation turns it
pub rotation_moves : (node : Data) → true ≡ matrix node → true ≡ translation node → false ≡ rotation node → false ≡ is_still node
rotation_moves node m t r = ap (λ (b : Bool). b && scale node) r ∙ without_translation node m t

-- else its scale decides
pub scale_decides : (node : Data) → true ≡ matrix node → true ≡ translation node → true ≡ rotation node → scale node ≡ is_still node
scale_decides node m t r = ap (λ (b : Bool). b && scale node) r ∙ without_translation node m t
