-- Face files by their faces, and the last line.
use Rattle.std.proofs.Common.{◌≡◌, refl, sym, ap, subst, ◌∙◌, arith, ℕ, ◌^◌, ◌<◌, ◌≤◌, List, [], ◌∷◌, ◌++◌, length, map, flat_map, append_assoc, All, ⊎_elim}
use Rattle.std.proofs.lemmas.Bool.{cases_order}
use Rattle.std.proofs.lemmas.List.Elements.{All-cons, All-nil, recursion_from_All}
use Rattle.std.specs.List.{AllByRecursion}
use Rattle.std.proofs.lemmas.List.{map-append, length-map}
use Rattle.std.proofs.lemmas.List.Concat.{flat_map-cons}
use Rattle.ember_algebra.specs.Relations.{Chain, done, step}
use Rattle.ember_algebra.proofs.Relations.{chain_push}
use Rattle.ember_model.specs.declared.face.Face.{Face}
use Rattle.ember_model.specs.Valid.{IsValidFace}
use Rattle.ember_model.specs.FaceFiles.{header, ending, WrittenFace, IsWrittenFace, IsWrittenEdge, IsFaceFile, written_lines}
use Rattle.ember_reread.specs.Lines.{IsFaceLines, face_in, HasFace, HasFaces, IsBody}
use Rattle.ember_reread.proofs.Chains.{chain_ahead, chain_same_end}
use Rattle.ember_reread.proofs.NumberTexts.{head_injective, tail_injective}
use Rattle.ember_reread.proofs.FaceTexts.{face_begins, face_shorter, face_end, all_of, planes_valid}

-- no bytes are read for no faces
pub no_faces : {fs : List Face} (bytes : List ℕ) → fs ≡ [] → HasFaces fs bytes bytes
no_faces bytes e = record { faces = []; lines = done; are = e }

-- one face more
pub push_face : {f : Face} {fs gs : List Face} {a b c : List ℕ} → HasFaces fs a b → HasFace f b c → gs ≡ fs ++ f ∷ [] → HasFaces gs a c
push_face {f} h k e =
    record {
      faces = h.faces ++ k.face ∷ [];
      lines = chain_push h.lines k.lines;
      are = e ∙ (λ i. h.are i ++ k.is i ∷ []) ∙ sym (map-append face_in h.faces (k.face ∷ []));
    }

-- ---- no other list of faces
abbrev IsShort : List ℕ → Type 0
IsShort bytes = length bytes < 10 ^ 64

stays_short : (w : WrittenFace) (a b : List ℕ) → IsShort a → IsFaceLines w a b → IsShort b
stays_short w a b h k = omega (arith, h, face_shorter k)

faces_end : (v w : WrittenFace) (a b c : List ℕ) → IsShort a → IsFaceLines v a b → IsFaceLines w a c → b ≡ c
faces_end v w a b c q h k = face_end q h k

-- the last line isn't that of a face
pub no_face_at_end : (n : ℕ) (w : WrittenFace) (rest : List ℕ) → IsFaceLines w (ending n) rest → ⊥
no_face_at_end n w rest h = let t = face_begins h in absurd (omega (arith, head_injective t.1))

-- bytes that begin with `f` aren't the last line
pub not_an_end : (n : ℕ) {bytes t : List ℕ} → bytes ≡ 102 ∷ t → bytes ≡ ending n → ⊥
not_an_end n e f = omega (arith, head_injective (sym e ∙ f))

-- bytes that don't begin with `f` aren't the lines of a face
pub no_face_here : {bytes : List ℕ} → ((rest : List ℕ) × (bytes ≡ 102 ∷ rest) → ⊥) → (w : WrittenFace) (rest : List ℕ) → IsFaceLines w bytes rest → ⊥
no_face_here f w rest h = f (face_begins h)

count_of : {fs : List Face} {a b : List ℕ} (h : HasFaces fs a b) → length h.faces ≡ length fs
count_of h = sym (ap (λ (l : List Face). length l) h.are ∙ length-map h.faces face_in)

-- a text that goes on with no face, and not with the ending, is no body of a face file
pub no_body : {fs : List Face} {bytes rest : List ℕ} → IsShort bytes → HasFaces fs bytes rest →
    ((w : WrittenFace) (r : List ℕ) → IsFaceLines w rest r → ⊥) → (rest ≡ ending (length fs) → ⊥) → (gs : List Face) →
    IsBody gs bytes → ⊥
no_body {fs} {bytes} {rest} q h f e gs k =
    ⊎_elim
    (λ n. e (chain_same_end IsShort stays_short faces_end q h.lines k.faces.lines n ∙ ap ending (sym (count_of k.faces) ∙ sym n ∙ count_of h)))
    (⊎_elim
    (λ l. let t = chain_ahead IsShort stays_short faces_end q h.lines k.faces.lines l in f t.0 t.1 t.2)
    (λ l. let t = chain_ahead IsShort stays_short faces_end q k.faces.lines h.lines l in no_face_at_end (length gs) t.0 t.1 t.2))
    (cases_order (length h.faces) (length k.faces.faces))

-- ---- the faces of the whole file
-- the lines of faces, in one piece
pub faces_text : {ws : List WrittenFace} {a b : List ℕ} → Chain IsFaceLines ws a b → (a ≡ flat_map written_lines ws ++ b) × AllByRecursion IsWrittenFace ws
faces_text done = (refl, tt)
faces_text (step {x = w} {xs = ws} {c = c} h k) =
    let t = faces_text k in (
      h.is ∙ ap (λ l. written_lines w ++ l) t.0 ∙ sym (append_assoc (written_lines w) (flat_map written_lines ws) c)
          ∙ ap (λ l. l ++ c) (sym (flat_map-cons written_lines w ws)),
      (h.written, t.1),
    )

-- written faces, face by face
pub faces_chain : (ws : List WrittenFace) (rest : List ℕ) → AllByRecursion IsWrittenFace ws → Chain IsFaceLines ws (flat_map written_lines ws ++ rest) rest
faces_chain [] rest h = done
faces_chain (w ∷ ws) rest h =
    let l = ap (λ q. q ++ rest) (flat_map-cons written_lines w ws) ∙ append_assoc (written_lines w) (flat_map written_lines ws) rest in
    step (record { written = h.0; is = l }) (faces_chain ws rest h.1)

-- a header with a body of these faces is a file of them
pub file_found : {fs : List Face} {bytes s : List ℕ} → bytes ≡ header ++ s → IsBody fs s → IsFaceFile bytes fs
file_found {fs} {bytes} {s} e h =
    let t = faces_text h.faces.lines in
    record {
      written = h.faces.faces;
      well_formed = all_of IsWrittenFace h.faces.faces t.1;
      is = e ∙ ap (λ l. header ++ l) (t.0 ∙ ap (λ n. flat_map written_lines h.faces.faces ++ ending n) (sym (count_of h.faces)));
      faces = h.faces.are;
    }

-- a header without a body is no file
pub no_file : {bytes s : List ℕ} → bytes ≡ header ++ s → ((fs : List Face) → IsBody fs s → ⊥) → (fs : List Face) → IsFaceFile bytes fs → ⊥
no_file {bytes} {s} e f fs h =
    let n : length fs ≡ length h.written = ap (λ (l : List Face). length l) h.faces ∙ length-map h.written face_in in
    let rest : s ≡ flat_map written_lines h.written ++ ending (length fs) =
    tail_injective (tail_injective (tail_injective
    (tail_injective (tail_injective (tail_injective (tail_injective (tail_injective (sym e ∙ h.is))))))))
    ∙ ap (λ k. flat_map written_lines h.written ++ ending k) (sym n) in
    f fs (record {
      faces = record {
        faces = h.written;
        lines =
            subst (λ a. Chain IsFaceLines h.written a (ending (length fs))) (sym rest)
            (faces_chain h.written (ending (length fs)) (recursion_from_All IsWrittenFace h.written h.well_formed));
        are = h.faces;
      };
    })

faces_fit : {ws : List WrittenFace} {a b : List ℕ} → Chain IsFaceLines ws a b → length ws ≤ length a
faces_fit done = omega arith
faces_fit (step h k) = omega (arith, faces_fit k, face_shorter h)

-- a file has at least as many bytes as faces
pub body_fits : {fs : List Face} {bytes s : List ℕ} → bytes ≡ header ++ s → IsBody fs s → length fs ≤ length bytes
body_fits e h =
    omega (arith, ap (λ (l : List ℕ). length l) e, count_of h.faces, faces_fit h.faces.lines)

valid_in : (w : WrittenFace) → IsWrittenFace w → IsValidFace (face_in w)
valid_in w h = record { support = h.support; edges = planes_valid w.edges (recursion_from_All IsWrittenEdge w.edges h.edges) }

-- faces as a face file has them are valid
pub faces_valid : (ws : List WrittenFace) → AllByRecursion IsWrittenFace ws → All IsValidFace (map face_in ws)
faces_valid [] h = All-nil IsValidFace
faces_valid (w ∷ ws) h =
    All-cons IsValidFace (face_in w) (map face_in ws) (valid_in w h.0) (faces_valid ws h.1)

-- the faces of a body are valid
pub body_valid : {fs : List Face} {s : List ℕ} → IsBody fs s → All IsValidFace fs
body_valid h =
    subst (λ l. All IsValidFace l) (sym h.faces.are) (faces_valid h.faces.faces (faces_text h.faces.lines).1)

-- and so are those of a file
pub file_valid : {fs : List Face} {bytes : List ℕ} → IsFaceFile bytes fs → All IsValidFace fs
file_valid h =
    subst (λ l. All IsValidFace l) (sym h.faces) (faces_valid h.written (recursion_from_All IsWrittenFace h.written h.well_formed))
