-- Rounded triangles, and more of them.
use Rattle.std.proofs.Common.{◌≡◌, ℕ, ◌+◌, ◌<◌, List, [], ◌∷◌, ◌++◌, length, take, get_or, sym, ap, subst, ◌∙◌, append_assoc}
use Rattle.std.proofs.lemmas.List.{take_more}
use Rattle.ember_algebra.proofs.Lists.{AllZip-push}
use Rattle.mesh_write.specs.declared.vertices.point.DecimalTriangle.{DecimalTriangle}
use Rattle.mesh_write.specs.declared.stl.triangle.FloatTriangle.{FloatTriangle}
use Rattle.mesh_info.specs.View.Views.{AreShown, IsShown}

-- one triangle more
pub one_more : (others ts : List DecimalTriangle) (i : ℕ) (t : DecimalTriangle) (ws vs : List FloatTriangle)
    (w : FloatTriangle) → i < length ts → IsShown (get_or ts i t) w → vs ≡ ws ++ w ∷ []
    → AreShown (others ++ take i ts) ws → AreShown (others ++ take (i + 1) ts) vs
one_more others ts i t ws vs w l is e before =
    let same : (others ++ take i ts) ++ get_or ts i t ∷ [] ≡ others ++ take (i + 1) ts =
    append_assoc others (take i ts) (get_or ts i t ∷ [])
    ∙ ap (λ (us : List DecimalTriangle). others ++ us) (sym (take_more ts i t l)) in
    subst (λ (us : List FloatTriangle). AreShown (others ++ take (i + 1) ts) us) (sym e)
    (subst (λ (us : List DecimalTriangle). AreShown us (ws ++ w ∷ [])) same
    (AllZip-push IsShown (others ++ take i ts) ws (get_or ts i t) w before is))
