use Rattle.std.proofs.Common.{List, map, sym, ap, subst, ◌∙◌}
use Rattle.std.specs.List.{All}
use Rattle.std.proofs.lemmas.Bool.{false≢true, both_ways}
use Rattle.ember_reread.specs.declared.cornered_face.CorneredFace.{CorneredFace}
use Rattle.ember_reread.specs.Cornered.{IsFileOf, face_of}
use Rattle.ember_reread.specs.Lines.{face_in}
use Rattle.mesh_solid.specs.Mesh.Faults.{IsDocumentFault, of_reading_fault, of_tables_fault}
use Rattle.mesh_solid.specs.Refusal.ClosedLines.{AreLinesClosed}
use Rattle.mesh_solid.specs.Refusal.Overlaps.{HaveOverlap}
use Rattle.mesh_solid.specs.Tables.Edges.{IsBroadFace}
use Rattle.mesh_solid.proofs.BroadFaces.{valid_faces_are_broad}
use Rattle.mesh_solid.proofs.Passing.{passed_on}
use Rattle.mesh_solid.proofs.SolidSteps.{reading_fault_is}
use Rattle.mesh_solid.proofs.UncutDocuments.{document_has_no_tables, document_has_overlap, document_is_not_closed, document_is_not_cut}
use Rattle.mesh_solid.proofs.mesh.document.checked_fault.Goals as goal

pub returns-in_err-written-clause-fault : goal.returns-in_err-written-clause-fault
returns-in_err-written-clause-fault c =
    let cause = c.in_err-written.field-0.0 in
    passed_on (IsDocumentFault c.args.bytes.now) c.from_residual.result (of_reading_fault cause)
    c.from_residual.ensures.1 (reading_fault_is c.args.bytes.now cause c.in_err-written.ensures.form)

pub returns-in_err-faces-clause-fault : goal.returns-in_err-faces-clause-fault
returns-in_err-faces-clause-fault c =
    let cause = c.in_err-faces.field-0.0 in
    let file = subst (λ (fs : List CorneredFace). IsFileOf (map face_of fs) c.args.bytes.now) (sym c.deref.ensures.value) c.in_ok-written.ensures.faces in
    passed_on (IsDocumentFault c.args.bytes.now) c.from_residual-in_err-faces.result cause
    c.from_residual-in_err-faces.ensures.1 (c.in_err-faces.ensures.fault c.args.bytes.now file)

pub tables_of-requires : goal.tables_of-requires
tables_of-requires c =
    let same = c.deref-2.ensures.value ∙ c.in_ok-faces.ensures.faces
    ∙ ap (λ (fs : List CorneredFace). map face_in (map face_of fs)) c.deref.ensures.value in
    subst (All IsBroadFace) (sym same) (valid_faces_are_broad _ c.in_ok-written.ensures.valid)

pub returns-in_err-tables-clause-fault : goal.returns-in_err-tables-clause-fault
returns-in_err-tables-clause-fault c =
    let bytes = c.args.bytes.now in
    let ws = map face_of c.in_ok-written.written.items in
    let same = c.deref-2.ensures.value ∙ c.in_ok-faces.ensures.faces
    ∙ ap (λ (fs : List CorneredFace). map face_in (map face_of fs)) c.deref.ensures.value in
    let cause = c.in_err-tables.field-0.0 in
    passed_on (IsDocumentFault bytes) c.from_residual-in_err-tables.result (of_tables_fault cause)
    c.from_residual-in_err-tables.ensures.1
    (document_has_no_tables ws bytes c.in_ok-written.ensures.faces _ same cause c.in_err-tables.ensures.fault)

pub returns-then-not-closed-clause-found : goal.returns-then-not-closed-clause-found
returns-then-not-closed-clause-found c =
    let bytes = c.args.bytes.now in
    let ws = map face_of c.in_ok-written.written.items in
    let same = c.deref-2.ensures.value ∙ c.in_ok-faces.ensures.faces
    ∙ ap (λ (fs : List CorneredFace). map face_in (map face_of fs)) c.deref.ensures.value in
    document_is_not_closed ws bytes c.in_ok-written.ensures.faces _ same c.in_ok-tables.tables c.in_ok-tables.ensures.tables
    (λ h. false≢true (sym c.if-not-closed.true
    ∙ c.in_ok-closed.ensures.1 (subst AreLinesClosed (sym c.deref-3.ensures.value) h)))

pub returns-then-overlap-clause-found : goal.returns-then-overlap-clause-found
returns-then-overlap-clause-found c =
    let bytes = c.args.bytes.now in
    let ws = map face_of c.in_ok-written.written.items in
    let same = c.deref-2.ensures.value ∙ c.in_ok-faces.ensures.faces
    ∙ ap (λ (fs : List CorneredFace). map face_in (map face_of fs)) c.deref.ensures.value in
    document_has_overlap ws bytes c.in_ok-written.ensures.faces _ same c.in_ok-tables.tables c.in_ok-tables.ensures.tables
    (subst (λ (fs : List CorneredFace). HaveOverlap (map face_of fs)) c.deref-4.ensures.value
    (c.in_ok-overlap.ensures.0 c.if-overlap.true))

pub returns-clause-found : goal.returns-clause-found
returns-clause-found c =
    let bytes = c.args.bytes.now in
    let ws = map face_of c.in_ok-written.written.items in
    let same = c.deref-2.ensures.value ∙ c.in_ok-faces.ensures.faces
    ∙ ap (λ (fs : List CorneredFace). map face_in (map face_of fs)) c.deref.ensures.value in
    document_is_not_cut ws bytes c.in_ok-written.ensures.faces _ same c.in_ok-tables.tables c.in_ok-tables.ensures.tables
    c.args.fault c.requires (subst AreLinesClosed c.deref-3.ensures.value (c.in_ok-closed.ensures.0 c.if-not-closed.false))
    (λ h. both_ways c.in_ok-overlap.overlap c.if-overlap.false
    (c.in_ok-overlap.ensures.1 (subst (λ (fs : List CorneredFace). HaveOverlap (map face_of fs)) (sym c.deref-4.ensures.value) h)))
