-- Lists of balanced triangles, one after another, and those of one mesh among them
use Rattle.std.proofs.Common.{◌≡◌, ◌⊎◌, inl, inr, ℕ, ◌+◌, List, [], ◌∷◌, ◌++◌, refl, sym, ap, subst, ◌∙◌}
use Rattle.std.specs.List.{All}
use Rattle.std.proofs.lemmas.Bool.{cases_eq, eq-eqb, ne_eqb}
use Rattle.std.proofs.lemmas.List.Elements.{All-head, All-tail}
use Rattle.ember_algebra.proofs.Sums.{occurrences-append}
use Rattle.ember_model.specs.declared.tri.Tri.{Tri}
use Rattle.ember_model.specs.Meshes.{reversed, edges_in, same_edge, edge_count, of_mesh, IsBalanced}
use Rattle.ember_balance.proofs.Edges.{edges_in-append}

-- no triangles are balanced
pub balanced-nil : IsBalanced []
balanced-nil e = refl

-- balanced triangles together with balanced triangles are balanced
pub balanced-append : (ts us : List Tri) → IsBalanced ts → IsBalanced us → IsBalanced (ts ++ us)
balanced-append ts us p q e =
    ap (edge_count e) (edges_in-append ts us) ∙ occurrences-append same_edge e (edges_in ts) (edges_in us)
    ∙ (λ i. p e i + q e i) ∙ sym (occurrences-append same_edge (reversed e) (edges_in ts) (edges_in us))
    ∙ sym (ap (edge_count (reversed e)) (edges_in-append ts us))

-- ---- triangles of one mesh
all_of_mesh : (m : ℕ) (ts : List Tri) → All (λ t. t.mesh ≡ m) ts → of_mesh m ts ≡ ts
all_of_mesh m [] h = refl
all_of_mesh m (t ∷ ts) h =
    rw (eq-eqb t.mesh m (All-head (λ t. t.mesh ≡ m) t ts h)) (ap (λ (us : List Tri). t ∷ us) (all_of_mesh m ts (All-tail (λ t. t.mesh ≡ m) t ts h)))

none_of_mesh : (m k : ℕ) (ts : List Tri) → (k ≡ m → ⊥) → All (λ t. t.mesh ≡ k) ts → of_mesh m ts ≡ []
none_of_mesh m k [] d h = refl
none_of_mesh m k (t ∷ ts) d h =
    let e = All-head (λ t. t.mesh ≡ k) t ts h in
    rw (ne_eqb t.mesh m (λ p. d (sym e ∙ p))) (none_of_mesh m k ts d (All-tail (λ t. t.mesh ≡ k) t ts h))

-- the triangles of one mesh, of balanced triangles of one mesh, are balanced
pub balanced_of_mesh : (m k : ℕ) (ts : List Tri) → All (λ t. t.mesh ≡ k) ts → IsBalanced ts → IsBalanced (of_mesh m ts)
balanced_of_mesh m k ts h b = by (cases_eq k m)
  where
    by : (k ≡ m) ⊎ (k ≡ m → ⊥) → IsBalanced (of_mesh m ts)
    by (inl e) =
        subst IsBalanced (sym (all_of_mesh m ts (subst (λ (n : ℕ). All (λ t. t.mesh ≡ n) ts) e h))) b
    by (inr d) = subst IsBalanced (sym (none_of_mesh m k ts d h)) balanced-nil
