use Rattle.std.proofs.Common.{List, map, sym, ap, subst, ◌∙◌}
use Rattle.std.specs.List.{All}
use Rattle.ember_model.specs.FaceFiles.{IsFaceFile}
use Rattle.mesh_solid.specs.Outline.Rounds.{IsRound}
use Rattle.ember_reread.specs.declared.cornered_face.CorneredFace.{CorneredFace}
use Rattle.ember_reread.specs.Cornered.{IsFileOf, face_of}
use Rattle.ember_reread.specs.Lines.{face_in}
use Rattle.mesh_solid.specs.Mesh.Faults.{IsDocumentFault, IsFileFault, of_reading_fault}
use Rattle.mesh_solid.proofs.Outlined.{file_holds, outlined_mesh_is}
use Rattle.mesh_solid.specs.Tables.Edges.{IsBroadFace}
use Rattle.mesh_solid.proofs.BroadFaces.{valid_faces_are_broad}
use Rattle.mesh_solid.proofs.Passing.{passed_on}
use Rattle.mesh_solid.proofs.SolidSteps.{reading_fault_is}
use Rattle.mesh_solid.proofs.mesh.document.document_mesh.Goals as goal

pub returns-in_err-written-clause-fault : goal.returns-in_err-written-clause-fault
returns-in_err-written-clause-fault g c =
    let cause = c.in_err-written.field-0.0 in
    passed_on (IsDocumentFault c.args.bytes.now) c.from_residual.result (of_reading_fault cause)
    c.from_residual.ensures.1 (reading_fault_is c.args.bytes.now cause c.in_err-written.ensures.form)

pub returns-in_err-faces-clause-fault : goal.returns-in_err-faces-clause-fault
returns-in_err-faces-clause-fault g c =
    let cause = c.in_err-faces.field-0.0 in
    let file = subst (λ (fs : List CorneredFace). IsFileOf (map face_of fs) c.args.bytes.now) (sym c.deref.ensures.value) c.in_ok-written.ensures.faces in
    passed_on (IsDocumentFault c.args.bytes.now) c.from_residual-in_err-faces.result cause
    c.from_residual-in_err-faces.ensures.1 (c.in_err-faces.ensures.fault c.args.bytes.now file)

pub mesh_of_faces-requires-clause-broad : goal.mesh_of_faces-requires-clause-broad
mesh_of_faces-requires-clause-broad g c =
    let same = c.in_ok-faces.ensures.faces ∙ ap (λ (fs : List CorneredFace). map face_in (map face_of fs)) c.deref.ensures.value in
    subst (All IsBroadFace) (sym same) (valid_faces_are_broad _ c.in_ok-written.ensures.valid)

pub returns-in-Ok-clause-mesh : goal.returns-in-Ok-clause-mesh
returns-in-Ok-clause-mesh g c =
    let bytes = c.args.bytes.now in
    let ws = map face_of c.in_ok-written.written.items in
    let same = c.in_ok-faces.ensures.faces ∙ ap (λ (fs : List CorneredFace). map face_in (map face_of fs)) c.deref.ensures.value in
    let read = subst (IsFaceFile bytes) (sym same) (file_holds ws bytes c.in_ok-written.ensures.faces) in
    let round = subst (λ (fs : List CorneredFace). All IsRound (map face_of fs)) c.deref.ensures.value c.in_ok-faces.ensures.round in
    outlined_mesh_is ws bytes c.in-Ok.mesh c.in_ok-written.ensures.faces round (c.in-Ok.ensures.mesh bytes read)

pub returns-in-Err-NoTables-clause-fault : goal.returns-in-Err-NoTables-clause-fault
returns-in-Err-NoTables-clause-fault g c =
    let bytes = c.args.bytes.now in
    let ws = map face_of c.in_ok-written.written.items in
    let same = c.in_ok-faces.ensures.faces ∙ ap (λ (fs : List CorneredFace). map face_in (map face_of fs)) c.deref.ensures.value in
    let read = subst (IsFaceFile bytes) (sym same) (file_holds ws bytes c.in_ok-written.ensures.faces) in
    subst (IsFileFault bytes) c.in-Err-NoTables.field-0-is (c.in-Err-NoTables.ensures.fault bytes read)

pub uncut_fault-requires : goal.uncut_fault-requires
uncut_fault-requires g c =
    let bytes = c.args.bytes.now in
    let ws = map face_of c.in_ok-written.written.items in
    let same = c.in_ok-faces.ensures.faces ∙ ap (λ (fs : List CorneredFace). map face_in (map face_of fs)) c.deref.ensures.value in
    let read = subst (IsFaceFile bytes) (sym same) (file_holds ws bytes c.in_ok-written.ensures.faces) in
    (subst (IsFileFault bytes) c.in-Err-NotCut.field-0-is (c.in-Err-NotCut.ensures.fault bytes read)).of_triangles
