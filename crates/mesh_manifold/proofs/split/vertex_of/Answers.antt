use Rattle.std.proofs.Common.{◌++◌, ◌∷◌, [], ◌≡◌, ℕ, List, Some, slice_get, sym, subst, ◌∙◌}
use Rattle.mesh_manifold.proofs.Splits.{goes_on_same, last_found}
use Rattle.mesh_manifold.proofs.split.vertex_of.Goals as goal

pub returns-in-Some-clause-continues : goal.returns-in-Some-clause-continues
returns-in-Some-clause-continues c = goes_on_same c.args.origins.now.items

pub returns-clause-continues : goal.returns-clause-continues
returns-clause-continues c = record { more = c.args.origin ∷ []; is = c.in_ok-push.ensures.items }

pub returns-clause-at : goal.returns-clause-at
returns-clause-at c =
    let more : List ℕ = c.args.origins.now.items ++ c.args.origin ∷ [] in
    subst (λ (xs : List ℕ). slice_get xs c.len-vertex.result ≡ Some c.args.origin) (sym c.in_ok-push.ensures.items)
    (subst (λ (n : ℕ). slice_get more n ≡ Some c.args.origin) (sym (c.len-vertex.ensures ∙ c.args.origins.now.ok.0))
    (last_found c.args.origins.now.items c.args.origin))
