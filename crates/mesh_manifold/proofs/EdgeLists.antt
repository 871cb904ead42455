-- Edges of triangles, those of one triangle more.
use Rattle.std.proofs.Common.{◌≡◌, ℕ, ◌+◌, ◌*◌, ◌<◌, List, [], ◌∷◌, ◌++◌, length, drop, get_or, append_assoc, sym, ap, ◌∙◌, arith}
use Rattle.std.proofs.lemmas.List.{drop_more}
use Rattle.mesh_write.specs.declared.vertices.point.IndexedTriangle.{IndexedTriangle}
use Rattle.mesh_manifold.specs.declared.edges.HalfEdge.{HalfEdge}
use Rattle.mesh_manifold.specs.Edges.{edges_of, edges_from}

-- three edges, one after another
pub three_pushed : {X : Type 0} (xs ys zs us : List X) (x y z : X) → ys ≡ xs ++ x ∷ [] → zs ≡ ys ++ y ∷ [] → us ≡ zs ++ z ∷ [] → us ≡ xs ++ x ∷ y ∷ z ∷ []
three_pushed xs ys zs us x y z a b c =
    c
    ∙ ap (λ l. l ++ z ∷ []) (b ∙ ap (λ l. l ++ y ∷ []) a ∙ append_assoc xs (x ∷ []) (y ∷ []))
    ∙ append_assoc xs (x ∷ y ∷ []) (z ∷ [])

-- the edges of one triangle more are listed
module _ (ts : List IndexedTriangle) (i : ℕ) (d : IndexedTriangle) (l : i < length ts) where
  abbrev rest : List HalfEdge
  rest = edges_from (3 * (i + 1)) (drop (i + 1) ts)

  next : 3 * i + 3 ≡ 3 * (i + 1)
  next = omega arith

  cut : edges_from (3 * i) (drop i ts) ≡ edges_of (3 * i) (get_or ts i d) ++ rest
  cut = ap (edges_from (3 * i)) (drop_more ts i d l) ∙ ap (λ (k : ℕ). edges_of (3 * i) (get_or ts i d) ++ edges_from k (drop (i + 1) ts)) next

  pub edges_more : (before after all : List HalfEdge) → before ++ edges_from (3 * i) (drop i ts) ≡ all →
      after ≡ before ++ edges_of (3 * i) (get_or ts i d) → after ++ rest ≡ all
  edges_more before after all h e =
      ap (λ (es : List HalfEdge). es ++ rest) e ∙ append_assoc before (edges_of (3 * i) (get_or ts i d)) rest
      ∙ ap (λ (es : List HalfEdge). before ++ es) (sym cut) ∙ h
