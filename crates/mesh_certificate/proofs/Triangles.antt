-- Triangles one after another: their edges, and what holds of each member of a list
use Rattle.std.proofs.Common.{◌≡◌, ℕ, ◌+◌, ◌<◌, List, [], ◌∷◌, ◌++◌, length, get_or, take, refl, sym, ap, subst, ◌∙◌}
use Rattle.std.specs.List.{All}
use Rattle.std.proofs.lemmas.List.{take_more}
use Rattle.std.proofs.lemmas.List.Elements.{All-push}
use Rattle.mesh_certificate.specs.declared.certificate.segment.Segment.{Segment}
use Rattle.mesh_certificate.specs.declared.certificate.triangle.Triangle.{Triangle}
use Rattle.mesh_certificate.specs.Certificate.Certificate.{edges_in}

-- the edges of two lists of triangles
pub edges_in-append : (ts us : List Triangle) → edges_in (ts ++ us) ≡ edges_in ts ++ edges_in us
edges_in-append [] us = refl
edges_in-append (t ∷ ts) us =
    ap (λ (ss : List Segment). t.first ∷ t.second ∷ t.third ∷ ss) (edges_in-append ts us)

-- the first members and the next one, t
pub with_next : {X : Type 0} (ts : List X) (i : ℕ) (t : X) → i < length ts → t ≡ get_or ts i t → take (i + 1) ts ≡ take i ts ++ t ∷ []
with_next {X} ts i t l e = take_more ts i t l ∙ ap (λ (u : X). take i ts ++ u ∷ []) (sym e)

-- the edges of one triangle more
pub edges_pushed : (ts : List Triangle) (i : ℕ) (t : Triangle) {before after : List Segment} → i < length ts →
    t ≡ get_or ts i t → before ≡ edges_in (take i ts) → after ≡ before ++ edges_in (t ∷ []) →
    after ≡ edges_in (take (i + 1) ts)
edges_pushed ts i t l e b a =
    a ∙ ap (λ (ss : List Segment). ss ++ edges_in (t ∷ [])) b ∙ sym (ap edges_in (with_next ts i t l e) ∙ edges_in-append (take i ts) (t ∷ []))

-- what holds of the members so far and of one more holds of all of them
pub all_more : {X : Type 0} (P : X → Type 0) (ts : List X) (i : ℕ) (t : X) → i < length ts → t ≡ get_or ts i t →
    All P (take i ts) → P t → All P (take (i + 1) ts)
all_more P ts i t l e h p = subst (All P) (sym (with_next ts i t l e)) (All-push P (take i ts) t h p)
