-- The lines of faces, line by line.
use Rattle.std.proofs.Common.{◌≡◌, refl, sym, ap, subst, ◌∙◌, arith, ℕ, ◌+◌, ◌^◌, ◌<◌, ◌≤◌, List, [], ◌∷◌, ◌++◌}
use Rattle.std.proofs.Common.{length, length-append, map, flat_map, append_assoc, All}
use Rattle.std.specs.List.{AllByRecursion}
use Rattle.std.proofs.lemmas.List.{map-append}
use Rattle.std.proofs.lemmas.List.Concat.{flat_map-cons}
use Rattle.std.proofs.lemmas.List.Elements.{All-cons, All-nil, recursion_from_All}
use Rattle.ember_algebra.specs.Relations.{Chain, done, step}
use Rattle.ember_algebra.proofs.Relations.{chain_push}
use Rattle.ember_model.specs.declared.plane.Plane.{Plane}
use Rattle.ember_model.specs.declared.face.Face.{Face}
use Rattle.ember_model.specs.Valid.{IsValidPlane}
use Rattle.ember_model.specs.Edges.{RingEdge}
use Rattle.ember_model.specs.FaceFiles.{edge_line, support_line, face_lines, IsWrittenEdge, WrittenFace}
use Rattle.ember_reread.specs.Lines.{IsEdgeLine, IsSupportLine, HasEdge, HasEdges, IsFaceLines, HasFace}
use Rattle.ember_reread.proofs.Chains.{chain_ahead, chain_same_end}
use Rattle.ember_reread.proofs.LineTexts.{same_edge, same_support, support_begins}

-- what holds of all members by recursion holds of all
pub all_of : {X : Type 0} (P : X → Type 0) (xs : List X) → AllByRecursion P xs → All P xs
all_of P [] h = All-nil P
all_of P (x ∷ xs) h = All-cons P x xs h.0 (all_of P xs h.1)

-- ---- edges
-- no bytes are read for no edges
pub no_edges : {ps : List Plane} (bytes : List ℕ) → ps ≡ [] → HasEdges 0 ps bytes bytes
no_edges bytes e = record { edges = []; lines = done; many = refl; planes = e }

-- one edge more
pub push_edge : {n : ℕ} {p : Plane} {ps qs : List Plane} {a b c : List ℕ} → HasEdges n ps a b → HasEdge p b c → qs ≡ ps ++ p ∷ [] → HasEdges (n + 1) qs a c
push_edge {n} {p} h k e =
    let d : RingEdge = record { plane = p; start = k.start } in
    record {
      edges = h.edges ++ d ∷ [];
      lines = chain_push h.lines k.line;
      many = omega (arith, length-append h.edges (d ∷ []), h.many);
      planes = e ∙ ap (λ l. l ++ p ∷ []) h.planes ∙ sym (map-append (λ (e : RingEdge). e.plane) h.edges (d ∷ []));
    }

abbrev Any : List ℕ → Type 0
Any a = Unit {0}

edges_end : (x y : RingEdge) (a b c : List ℕ) → Any a → IsEdgeLine x a b → IsEdgeLine y a c → b ≡ c
edges_end x y a b c q h k = (same_edge h k).1

-- if fewer edges than needed are followed by no edge line, there aren't that many
pub no_more_edges : {n count : ℕ} {ps : List Plane} {a b : List ℕ} → HasEdges n ps a b → n < count →
    ((e : RingEdge) (rest : List ℕ) → IsEdgeLine e b rest → ⊥) → (qs : List Plane) (rest : List ℕ) →
    HasEdges count qs a rest → ⊥
no_more_edges h l f qs rest k =
    let t = chain_ahead Any (λ x a b q r. tt) edges_end tt h.lines k.lines (omega (arith, l, h.many, k.many)) in f t.0 t.1 t.2

-- the lines of edges, in one piece
edges_text : {es : List RingEdge} {a b : List ℕ} → Chain IsEdgeLine es a b → (a ≡ flat_map edge_line es ++ b) × AllByRecursion IsWrittenEdge es
edges_text done = (refl, tt)
edges_text (step {x = e} {xs = es} {c = c} h k) =
    let t = edges_text k in (
      h.is ∙ ap (λ l. edge_line e ++ l) t.0 ∙ sym (append_assoc (edge_line e) (flat_map edge_line es) c)
          ∙ ap (λ l. l ++ c) (sym (flat_map-cons edge_line e es)),
      (h.written, t.1),
    )

-- written edges, line by line
pub edges_chain : (es : List RingEdge) (rest : List ℕ) → AllByRecursion IsWrittenEdge es → Chain IsEdgeLine es (flat_map edge_line es ++ rest) rest
edges_chain [] rest h = done
edges_chain (e ∷ es) rest h =
    let l = ap (λ q. q ++ rest) (flat_map-cons edge_line e es) ∙ append_assoc (edge_line e) (flat_map edge_line es) rest in
    step (record { written = h.0; is = l }) (edges_chain es rest h.1)

edges_fit : (es : List RingEdge) → length es ≤ length (flat_map edge_line es)
edges_fit [] = omega arith
edges_fit (e ∷ es) =
    let l = ap (λ (q : List ℕ). length q) (flat_map-cons edge_line e es) in
    omega (arith, l, length-append (edge_line e) (flat_map edge_line es), edges_fit es, some)
  where
    some : 1 ≤ length (edge_line e)
    some = omega arith

-- the planes of written edges are valid
pub planes_valid : (es : List RingEdge) → AllByRecursion IsWrittenEdge es → All IsValidPlane (map (λ (e : RingEdge). e.plane) es)
planes_valid [] h = All-nil IsValidPlane
planes_valid (e ∷ es) h =
    All-cons IsValidPlane e.plane (map (λ (e : RingEdge). e.plane) es) h.0.plane (planes_valid es h.1)

-- ---- faces
module _ {w : WrittenFace} {bytes rest : List ℕ} (h : IsFaceLines w bytes rest) where
  abbrev behind_support : List ℕ
  behind_support = flat_map edge_line w.edges ++ rest

  pub face_support : IsSupportLine w.support (length w.edges) bytes behind_support
  face_support =
      record {
        plane = h.written.support;
        enough = h.written.at_least_three;
        is =
            h.is ∙ append_assoc (support_line w.support (length w.edges)) (flat_map edge_line w.edges) rest;
      }

  face_edges : HasEdges (length w.edges) (map (λ (e : RingEdge). e.plane) w.edges) behind_support rest
  face_edges =
      record { edges = w.edges; lines = edges_chain w.edges rest (recursion_from_All IsWrittenEdge w.edges h.written.edges); many = refl; planes = refl }

  face_fits : length w.edges ≤ length bytes
  face_fits =
      omega (
        arith,
        ap (λ (q : List ℕ). length q) face_support.is,
        length-append (support_line w.support (length w.edges)) behind_support,
        length-append (flat_map edge_line w.edges) rest,
        edges_fit w.edges,
      )

-- bytes without a support line aren't the lines of a face
pub no_face_support : {bytes : List ℕ} → ((n : Plane) (count : ℕ) (rest : List ℕ) → count ≤ length bytes →
    IsSupportLine n count bytes rest → ⊥) → (w : WrittenFace) (rest : List ℕ) → IsFaceLines w bytes rest → ⊥
no_face_support f w rest h = f _ _ _ (face_fits h) (face_support h)

-- bytes with a support line, but without its edges, aren't the lines of a face
pub no_face_edges : {n : Plane} {count : ℕ} {bytes t : List ℕ} → length bytes < 10 ^ 64 → count ≤ length bytes →
    IsSupportLine n count bytes t → ((ps : List Plane) (rest : List ℕ) → HasEdges count ps t rest → ⊥) →
    (w : WrittenFace) (rest : List ℕ) → IsFaceLines w bytes rest → ⊥
no_face_edges {n} {count} {bytes} {t} l k s f w rest h =
    let e = same_support (omega (arith, l, face_fits h)) (omega (arith, l, k)) (face_support h) s in
    f _ rest (subst (λ b. HasEdges count (map (λ (e : RingEdge). e.plane) w.edges) b rest) e.2
    (subst (λ m. HasEdges m (map (λ (e : RingEdge). e.plane) w.edges) (behind_support h) rest) e.1 (face_edges h)))

-- a support line with its edges is the lines of a face
pub face_lines_found : {n : Plane} {count : ℕ} {bytes t rest : List ℕ} (es : List RingEdge) →
    IsSupportLine n count bytes t → Chain IsEdgeLine es t rest → length es ≡ count →
    IsFaceLines (record { support = n; edges = es }) bytes rest
face_lines_found {n} {count} {bytes} {t} {rest} es s h many =
    let texts = edges_text h in
    let lines : bytes ≡ support_line n (length es) ++ t = s.is ∙ ap (λ m. support_line n m ++ t) (sym many) in
    record {
      written = record { support = s.plane; edges = all_of IsWrittenEdge es texts.1; at_least_three = subst (λ m. 3 ≤ m) (sym many) s.enough };
      is = lines ∙ ap (λ q. support_line n (length es) ++ q) texts.0 ∙ sym (append_assoc (support_line n (length es)) (flat_map edge_line es) rest);
    }

-- and they have this face
pub face_found : {n : Plane} {count : ℕ} {ps : List Plane} {f : Face} {bytes t rest : List ℕ} →
    IsSupportLine n count bytes t → HasEdges count ps t rest → f ≡ record { support = n; edges = ps } →
    HasFace f bytes rest
face_found {n} s h e =
    record {
      face = record { support = n; edges = h.edges };
      lines = face_lines_found h.edges s h.lines h.many;
      is = e ∙ (λ i. record { support = n; edges = h.planes i });
    }

-- the text of a face begins with `f`
pub face_begins : {w : WrittenFace} {bytes rest : List ℕ} → IsFaceLines w bytes rest → (t : List ℕ) × (bytes ≡ 102 ∷ t)
face_begins h = support_begins (face_support h)

-- behind a face the text is shorter
pub face_shorter : {w : WrittenFace} {bytes rest : List ℕ} → IsFaceLines w bytes rest → length rest < length bytes
face_shorter {w} {bytes} {rest} h =
    let k = face_support h in
    omega (arith, ap (λ (q : List ℕ). length q) h.is, length-append (face_lines w.support w.edges) rest, some)
  where
    some : 1 ≤ length (face_lines w.support w.edges)
    some = omega arith

edges_meet : {m n : ℕ} {ps qs : List Plane} {a b c : List ℕ} → HasEdges m ps a b → HasEdges n qs a c → m ≡ n → b ≡ c
edges_meet h k e =
    chain_same_end Any (λ x a b q r. tt) edges_end tt h.lines k.lines (h.many ∙ e ∙ sym k.many)

-- the lines of a face end at one byte only
pub face_end : {w v : WrittenFace} {bytes r s : List ℕ} → length bytes < 10 ^ 64 → IsFaceLines w bytes r → IsFaceLines v bytes s → r ≡ s
face_end {w} {v} {bytes} {r} {s} l h k =
    let e = same_support (omega (arith, l, face_fits h)) (omega (arith, l, face_fits k)) (face_support h) (face_support k) in
    edges_meet (subst (λ b. HasEdges (length w.edges) (map (λ (e : RingEdge). e.plane) w.edges) b r) e.2 (face_edges h)) (face_edges k) e.1
