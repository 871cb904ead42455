-- The faces of a document, one by one, and the mesh of those that are outlined.
use Rattle.std.proofs.Common.{◌≡◌, ℕ, ◌+◌, ◌<◌, List, [], ◌∷◌, ◌++◌, map, length, take, get_or, Some, refl, sym, ap, subst, ◌∙◌, option_map}
use Rattle.std.specs.List.{All, AllByRecursion, slice_get}
use Rattle.std.proofs.lemmas.List.{map-append, take-map, take_more}
use Rattle.std.proofs.lemmas.List.Elements.{All-push, recursion_from_All}
use Rattle.std.proofs.lemmas.Option.{slice_get-get_or, slice_get-map}
use Rattle.ember_meaning.specs.Closed.Chains.{IsOutlined}
use Rattle.ember_model.specs.declared.face.Face.{Face}
use Rattle.ember_model.specs.FaceFiles.{WrittenFace, IsFaceFile}
use Rattle.mesh_solid.specs.declared.outline.fault.OutlineFault.{OutlineFault}
use Rattle.mesh_solid.specs.declared.outline.fault.OutlineFault.TheVariants.{OffPlane, OffEdge, NotRound, OutOfMemory}
use Rattle.mesh_solid.specs.Outline.Rounds.{IsOutlineFault, IsRound}
use Rattle.mesh_solid.proofs.RoundOutlines.{round_is_outlined}
use Rattle.ember_reread.specs.declared.cornered_face.CorneredFace.{CorneredFace}
use Rattle.ember_reread.specs.Cornered.{IsFileOf, face_of}
use Rattle.ember_reread.specs.Lines.{face_in}
use Rattle.ember_reread.proofs.OneReading.{face_file_is_read_once}
use Rattle.mesh_solid.specs.declared.mesh.mesh.SolidMesh.{SolidMesh}
use Rattle.mesh_solid.specs.Mesh.FaceTables.{HasFirstFace}
use Rattle.mesh_solid.specs.Mesh.Faults.{IsDocumentFault, of_outline_fault}
use Rattle.mesh_solid.specs.Mesh.Meshes.{IsDocumentMesh, IsOutlinedMesh}

-- a file of written faces holds the faces without their corners
pub file_holds : (ws : List WrittenFace) (bytes : List ℕ) → IsFileOf ws bytes → IsFaceFile bytes (map face_in ws)
file_holds ws bytes h = record { written = ws; well_formed = h.well_formed; is = h.is; faces = refl }

-- ---- face by face
module _ (fs : List CorneredFace) (i : ℕ) (l : i < length fs) (face : CorneredFace) (e : face ≡ get_or fs i face) where
  one_more : map face_of (take (i + 1) fs) ≡ map face_of (take i fs) ++ face_of face ∷ []
  one_more =
      ap (map face_of) (take_more fs i face l) ∙ map-append face_of (take i fs) (get_or fs i face ∷ [])
      ∙ (λ k. map face_of (take i fs) ++ face_of (sym e k) ∷ [])

  -- one face more
  pub faces_more : (before after : List Face) (bare : Face) → before ≡ map face_in (map face_of (take i fs)) →
      after ≡ before ++ bare ∷ [] → bare ≡ face_in (face_of face) → after ≡ map face_in (map face_of (take (i + 1) fs))
  faces_more before after bare h p q =
      p ∙ (λ k. h k ++ q k ∷ []) ∙ sym (ap (map face_in) one_more ∙ map-append face_in (map face_of (take i fs)) (face_of face ∷ []))

  -- one more that is round
  pub round_more : All IsRound (map face_of (take i fs)) → IsRound (face_of face) → All IsRound (map face_of (take (i + 1) fs))
  round_more h round =
      subst (All IsRound) (sym one_more) (All-push IsRound (map face_of (take i fs)) (face_of face) h round)

  here : slice_get (map face_of fs) i ≡ Some (face_of face)
  here =
      slice_get-map face_of fs i ∙ ap (option_map face_of) (slice_get-get_or fs i face l) ∙ (λ k. Some (face_of (sym e k)))

  first_face : (bytes : List ℕ) (P : WrittenFace → Type 0) → IsFileOf (map face_of fs) bytes →
      All IsRound (map face_of (take i fs)) → P (face_of face) → HasFirstFace bytes i P
  unfolding file_holds
  first_face bytes P file round h = record {
    faces = map face_in (map face_of fs);
    read = file_holds (map face_of fs) bytes file;
    face = face_of face;
    found = here;
    is_fault = h;
    before = subst (All IsRound) (sym (take-map face_of i fs)) round;
  }

  -- the fault of a face after round ones is that of the document
  pub first_fault_is : (bytes : List ℕ) → IsFileOf (map face_of fs) bytes → All IsRound (map face_of (take i fs)) →
      (fault : OutlineFault) → IsOutlineFault (face_of face) fault → IsDocumentFault bytes (of_outline_fault i fault)
  first_fault_is bytes file round OffPlane h = first_face bytes _ file round h
  first_fault_is bytes file round OffEdge h = first_face bytes _ file round h
  first_fault_is bytes file round NotRound h = first_face bytes _ file round h
  first_fault_is bytes file round OutOfMemory h = tt

-- ---- the mesh
each_outlined : (ws : List WrittenFace) → AllByRecursion IsRound ws → AllByRecursion IsOutlined ws
each_outlined [] h = tt
each_outlined (w ∷ ws) h = (round_is_outlined w h.0, each_outlined ws h.1)

-- the mesh of a document of round faces
pub outlined_mesh_is : (ws : List WrittenFace) (bytes : List ℕ) (mesh : SolidMesh) → IsFileOf ws bytes →
    All IsRound ws → IsDocumentMesh bytes mesh → IsOutlinedMesh bytes mesh
unfolding file_holds
outlined_mesh_is ws bytes mesh file round is =
    let read = is.tables_are.read in
    let same : ws ≡ read.written = face_file_is_read_once bytes (map face_in ws) is.tables_are.faces (file_holds ws bytes file) read in
    record { of_document = is; outlined = subst (AllByRecursion IsOutlined) same (each_outlined ws (recursion_from_All IsRound ws round)) }
