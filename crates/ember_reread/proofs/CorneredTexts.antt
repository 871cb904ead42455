-- Faces with their corners, line by line.
use Rattle.std.proofs.Common.{◌≡◌, ℕ, ◌+◌, refl, sym, ap, subst, ◌∙◌, arith, List, [], ◌∷◌, ◌++◌, length, length-append, map, All}
use Rattle.std.proofs.lemmas.List.{map-append, length-map}
use Rattle.ember_algebra.specs.Relations.{Chain, done}
use Rattle.ember_algebra.proofs.Relations.{chain_push}
use Rattle.ember_model.specs.declared.plane.Plane.{Plane}
use Rattle.ember_model.specs.Edges.{RingEdge}
use Rattle.ember_model.specs.Valid.{IsValidFace}
use Rattle.ember_model.specs.FaceFiles.{WrittenFace, IsWrittenFace, header, ending}
use Rattle.ember_reread.specs.declared.cornered_face.CorneredEdge.{CorneredEdge}
use Rattle.ember_reread.specs.declared.cornered_face.CorneredFace.{CorneredFace}
use Rattle.ember_reread.specs.Cornered.{HasCorneredEdges, IsCorneredBody, IsFileOf, edge_of, face_of}
use Rattle.ember_reread.specs.Lines.{IsEdgeLine, IsFaceLines, HasEdges, HasFaces, face_in}
use Rattle.ember_reread.proofs.BodyTexts.{faces_text, faces_valid}
use Rattle.ember_reread.proofs.FaceTexts.{all_of}

-- ---- edges
-- no bytes are read for no edges
pub no_cornered_edges : {es : List CorneredEdge} (bytes : List ℕ) → es ≡ [] → HasCorneredEdges 0 es bytes bytes
no_cornered_edges bytes e =
    record { lines = subst (λ (es : List CorneredEdge). Chain IsEdgeLine (map edge_of es) bytes bytes) (sym e) done; many = ap length e }

-- one edge more
pub push_cornered_edge : {n : ℕ} (e : CorneredEdge) {es fs : List CorneredEdge} {a b c : List ℕ} →
    HasCorneredEdges n es a b → IsEdgeLine (edge_of e) b c → fs ≡ es ++ e ∷ [] → HasCorneredEdges (n + 1) fs a c
push_cornered_edge e {es = es} {a = a} {c = c} h k q =
    let same = sym (map-append edge_of es (e ∷ [])) ∙ ap (map edge_of) (sym q) in
    record {
      lines = subst (λ (es : List RingEdge). Chain IsEdgeLine es a c) same (chain_push h.lines k);
      many = omega (arith, ap length q, length-append es (e ∷ []), h.many);
    }

-- the planes of the edges
pub planes_of_cornered : (es : List CorneredEdge) → map (λ (e : CorneredEdge). e.plane) es ≡ map (λ (e : RingEdge). e.plane) (map edge_of es)
planes_of_cornered [] = refl
planes_of_cornered (e ∷ es) = ap (λ (ps : List Plane). e.plane ∷ ps) (planes_of_cornered es)

-- the edges without their corners
pub cornered_are_edges : {n : ℕ} {es : List CorneredEdge} {a b : List ℕ} → HasCorneredEdges n es a b →
    HasEdges n (map (λ (e : RingEdge). e.plane) (map edge_of es)) a b
cornered_are_edges {es = es} h =
    record { edges = map edge_of es; lines = h.lines; many = length-map es edge_of ∙ h.many; planes = refl }

-- ---- faces
-- no bytes are read for no faces
pub no_cornered_faces : {fs : List CorneredFace} (bytes : List ℕ) → fs ≡ [] → Chain IsFaceLines (map face_of fs) bytes bytes
no_cornered_faces bytes e = subst (λ (fs : List CorneredFace). Chain IsFaceLines (map face_of fs) bytes bytes) (sym e) done

-- one face more
pub push_cornered_face : (f : CorneredFace) (fs : List CorneredFace) {gs : List CorneredFace} {a b c : List ℕ} →
    Chain IsFaceLines (map face_of fs) a b → IsFaceLines (face_of f) b c → gs ≡ fs ++ f ∷ [] →
    Chain IsFaceLines (map face_of gs) a c
push_cornered_face f fs {a = a} {c = c} h k q =
    subst (λ (ws : List WrittenFace). Chain IsFaceLines ws a c) (sym (map-append face_of fs (f ∷ [])) ∙ ap (map face_of) (sym q)) (chain_push h k)

-- the faces without their corners
pub cornered_are_faces : (fs : List CorneredFace) {a b : List ℕ} → Chain IsFaceLines (map face_of fs) a b → HasFaces (map face_in (map face_of fs)) a b
cornered_are_faces fs h = record { faces = map face_of fs; lines = h; are = refl }

-- so many faces are as many without them
pub as_many_cornered : (fs : List CorneredFace) → length (map face_in (map face_of fs)) ≡ length fs
as_many_cornered fs = length-map (map face_of fs) face_in ∙ length-map fs face_of

-- the last line ends a body
pub cornered_body : (fs : List CorneredFace) {bytes rest : List ℕ} {count : ℕ} →
    Chain IsFaceLines (map face_of fs) bytes rest → rest ≡ ending count → count ≡ length fs →
    IsCorneredBody (map face_of fs) bytes
cornered_body fs {bytes} h e many =
    subst (λ (rest : List ℕ). Chain IsFaceLines (map face_of fs) bytes rest) (e ∙ ap ending (many ∙ sym (length-map fs face_of))) h

-- a header with a body of these faces is a file of them
pub cornered_file : (fs : List CorneredFace) {bytes s : List ℕ} → bytes ≡ header ++ s → IsCorneredBody (map face_of fs) s → IsFileOf (map face_of fs) bytes
cornered_file fs e h =
    let t = faces_text h in
    record {
      well_formed = all_of IsWrittenFace (map face_of fs) t.1;
      is = e ∙ ap (λ l. header ++ l) t.0;
    }

-- and they are valid
pub cornered_valid : (fs : List CorneredFace) {s : List ℕ} → IsCorneredBody (map face_of fs) s → All IsValidFace (map face_in (map face_of fs))
cornered_valid fs h = faces_valid (map face_of fs) (faces_text h).1
