-- A face file is that of one list of written faces, with their start corners.
use Rattle.std.proofs.Common.{◌≡◌, refl, sym, subst, ◌∙◌, arith, ℕ, List, ◌∷◌, length, ap, map}
use Rattle.std.proofs.lemmas.List.Elements.{recursion_from_All}
use Rattle.ember_algebra.specs.Relations.{Chain, done, step}
use Rattle.ember_model.specs.declared.face.Face.{Face}
use Rattle.ember_model.specs.Edges.{RingEdge}
use Rattle.ember_model.specs.FaceFiles.{ending, WrittenFace, IsWrittenFace, IsWrittenEdge, IsFaceFile}
use Rattle.ember_reread.specs.Lines.{IsEdgeLine, IsFaceLines, face_in}
use Rattle.ember_reread.proofs.NumberTexts.{head_injective, tail_injective}
use Rattle.ember_reread.proofs.LineTexts.{NoEdge, same_edge, edge_begins, support_line_once}
use Rattle.ember_reread.proofs.FaceTexts.{edges_chain, face_support, face_begins}
use Rattle.ember_reread.proofs.BodyTexts.{faces_chain, no_face_at_end}

-- ---- edges
same_edges : {es ds : List RingEdge} {a b c : List ℕ} → NoEdge b → NoEdge c → Chain IsEdgeLine es a b → Chain IsEdgeLine ds a c → (es ≡ ds) × (b ≡ c)
same_edges nb nc done done = (refl, refl)
same_edges nb nc done (step q d) = absurd (nb _ _ q)
same_edges nb nc (step r e) done = absurd (nc _ _ r)
same_edges {b = b} nb nc (step {x = x} {xs = xs} r e) (step {x = y} q d) =
    let s = same_edge r q in let t = same_edges nb nc (subst (λ z. Chain IsEdgeLine xs z b) s.1 e) d in ((λ i. s.0 i ∷ t.0 i), t.1)

-- what follows the lines of edges isn't the line of one
no_edge_at_end : (n : ℕ) → NoEdge (ending n)
no_edge_at_end n e rest h = let t = edge_begins h in absurd (omega (arith, head_injective (tail_injective t.1)))

no_edge_at_face : {w : WrittenFace} {bytes rest : List ℕ} → IsFaceLines w bytes rest → NoEdge bytes
no_edge_at_face h e rest k =
    let t = face_begins h in let s = edge_begins k in absurd (omega (arith, head_injective (sym t.1 ∙ s.1)))

-- neither the line of an edge nor that of a face
record IsLast (bytes : List ℕ) : Type 0 where
  no_edge : NoEdge bytes
  no_face : (w : WrittenFace) (rest : List ℕ) → IsFaceLines w bytes rest → ⊥

ending_is_last : (n : ℕ) → IsLast (ending n)
ending_is_last n = record { no_edge = no_edge_at_end n; no_face = no_face_at_end n }

no_edge_behind : {ws : List WrittenFace} {a b : List ℕ} → IsLast b → Chain IsFaceLines ws a b → NoEdge a
no_edge_behind l done = l.no_edge
no_edge_behind l (step h k) = no_edge_at_face h

-- ---- faces
same_face : {w v : WrittenFace} {bytes r s : List ℕ} → NoEdge r → NoEdge s → IsFaceLines w bytes r → IsFaceLines v bytes s → (w ≡ v) × (r ≡ s)
same_face {w} {v} {bytes} {r} {s} nr ns h k =
    let p = support_line_once (face_support h) (face_support k) in
    let e = edges_chain w.edges r (recursion_from_All IsWrittenEdge w.edges h.written.edges) in
    let d = edges_chain v.edges s (recursion_from_All IsWrittenEdge v.edges k.written.edges) in
    let t = same_edges nr ns (subst (λ z. Chain IsEdgeLine w.edges z r) p.1 e) d in
    (λ i. record { support = p.0 i; edges = t.0 i }, t.1)

same_faces : {ws vs : List WrittenFace} {a b c : List ℕ} → IsLast b → IsLast c → Chain IsFaceLines ws a b → Chain IsFaceLines vs a c → ws ≡ vs
same_faces l m done done = refl
same_faces l m done (step q d) = absurd (l.no_face _ _ q)
same_faces l m (step r e) done = absurd (m.no_face _ _ r)
same_faces {b = b} l m (step {x = w} {xs = ws} r e) (step {x = v} q d) =
    let s = same_face (no_edge_behind l e) (no_edge_behind m d) r q in
    let t = same_faces l m (subst (λ z. Chain IsFaceLines ws z b) s.1 e) d in λ i. s.0 i ∷ t i

-- two readings of a face file are of the same written faces
pub face_file_is_read_once : (bytes : List ℕ) (fs gs : List Face) (h : IsFaceFile bytes fs) (k : IsFaceFile bytes gs) → h.written ≡ k.written
face_file_is_read_once bytes fs gs h k =
    let e = tail_injective (tail_injective (tail_injective
    (tail_injective (tail_injective (tail_injective (tail_injective (tail_injective (sym h.is ∙ k.is)))))))) in
    same_faces (ending_is_last (length h.written)) (ending_is_last (length k.written))
    (subst (λ z. Chain IsFaceLines h.written z (ending (length h.written))) e
    (faces_chain h.written (ending (length h.written)) (recursion_from_All IsWrittenFace h.written h.well_formed)))
    (faces_chain k.written (ending (length k.written)) (recursion_from_All IsWrittenFace k.written k.well_formed))

-- ---- faces

-- two lists of faces that the bytes hold are equal
pub one_reading : (bytes : List ℕ) (fs gs : List Face) → IsFaceFile bytes fs → IsFaceFile bytes gs → fs ≡ gs
one_reading bytes fs gs h k =
    h.faces ∙ ap (λ (ws : List WrittenFace). map face_in ws) (face_file_is_read_once bytes fs gs h k) ∙ sym k.faces
