use Rattle.std.proofs.Common.{◌+◌, [], List, drop, refl, sym, subst, arith}
use Rattle.std.specs.List.{All}
use Rattle.std.proofs.lemmas.List.Elements.{All-nil}
use Rattle.ember_model.specs.declared.plane.Plane.{Plane}
use Rattle.mesh_solid.specs.Tables.Edges.{face_edges_of}
use Rattle.mesh_solid.specs.Tables.Tables.{IsFault, IsPlaneOf}
use Rattle.mesh_solid.proofs.Drafts.{passed_on, face_begins, faces_end}
use Rattle.mesh_solid.proofs.tables.tables.draft_of.Goals as goal

pub returns-in_err-push_face-clause-fault : goal.returns-in_err-push_face-clause-fault
returns-in_err-push_face-clause-fault c =
    let at = c.loop-number in let fs = c.args.faces.now in let all = face_edges_of 0 fs in
    passed_on (IsFault all) _ _ c.from_residual.ensures.1
    (c.in_err-push_face.ensures.fault all (face_edges_of (at.number + 1) (drop (at.number + 1) fs))
    (face_begins all fs at.number at.draft c.index-faces-number.result c.items.result.now c.loop-number-test.true
    c.index-faces-number.is c.items.ensures at.invariant.0))

pub loop-number-init : goal.loop-number-init
loop-number-init c =
    let used = IsPlaneOf (face_edges_of 0 c.args.faces.now) in (
      record {
        done = [];
        split = refl;
        draft = c.new-draft.ensures.draft;
        used = subst (λ (ps : List Plane). All used ps) (sym c.new-draft.ensures.empty) (All-nil used);
      },
      c.new-draft.ensures.few,
    )

pub loop-number-preserved : goal.loop-number-preserved
loop-number-preserved c =
    let at = c.loop-number in let fs = c.args.faces.now in let all = face_edges_of 0 fs in (
      c.in_ok-push_face.ensures.ok all (face_edges_of (at.number + 1) (drop (at.number + 1) fs))
          (face_begins all fs at.number at.draft c.index-faces-number.result c.items.result.now c.loop-number-test.true
          c.index-faces-number.is c.items.ensures at.invariant.0),
      c.in_ok-push_face.ensures.few,
    )

pub returns-clause-ok : goal.returns-clause-ok
returns-clause-ok c =
    let fs = c.args.faces.now in
    faces_end (face_edges_of 0 fs) fs c.loop-number.number c.loop-number.draft (omega (arith, c.loop-number-test.false)) c.loop-number.invariant.0

pub returns-clause-used : goal.returns-clause-used
returns-clause-used c = c.loop-number.invariant.0.used
