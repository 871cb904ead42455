use Rattle.std.proofs.Common.{◌≡◌, ◌+◌, ◌≤◌, List, ◌++◌, length, map, refl, sym, ap, subst, ◌∙◌, arith}
use Rattle.std.specs.List.{All}
use Rattle.std.proofs.lemmas.List.Elements.{All-head, All-tail}
use Rattle.ember_model.specs.declared.plane.Plane.{Plane}
use Rattle.ember_model.specs.Valid.{IsValidPlane}
use Rattle.mesh_certificate.specs.Key.PlaneKeys.{IsPlaneKey}
use Rattle.mesh_certificate.specs.Certificate.Facing.{spot_of}
use Rattle.ember_width.specs.Broad.{IsBroadPlane}
use Rattle.mesh_solid.specs.declared.tables.face_edge.FaceEdge.{FaceEdge}
use Rattle.mesh_solid.specs.declared.tables.draft.TableBuilder.{TableBuilder}
use Rattle.mesh_solid.specs.Tables.Edges.{first_or, edges_behind}
use Rattle.mesh_solid.specs.Tables.Numberings.{HasEntry, plane_of}
use Rattle.mesh_solid.specs.Tables.Tables.{IsCorner, IsFault, IsPlaneOf}
use Rattle.mesh_solid.specs.Tables.Drafts.{planes_in}
use Rattle.mesh_solid.proofs.FaceLoops.{broad_first, broad_last}
use Rattle.mesh_solid.proofs.Lists.{extends_same, extends_put, entry_with, mapped_has, mapped_put, all_put, put_length}
use Rattle.mesh_solid.proofs.Numbers.{same_entry_decides, same_corner_decides}
use Rattle.mesh_solid.proofs.Segments.{grown}
use Rattle.mesh_solid.proofs.Drafts.{passed_on, next_fault, round_begins, first_fault, plane_is_used, round_goes_on}
use Rattle.mesh_solid.proofs.tables.draft.TableBuilder.push_face.Goals as goal

pub start_of-requires-clause-before : goal.start_of-requires-clause-before
start_of-requires-clause-before c =
    let e = c.in-Some.first.now in let es = c.in-Some.others.now in
    let valid = subst (All IsBroadPlane) c.in-Some.ensures.cases.0 c.requires.edges in
    subst IsBroadPlane (sym c.last_or-before.ensures) (broad_last e es (All-head IsBroadPlane e es valid) (All-tail IsBroadPlane e es valid))

pub returns-in_err-point-clause-fault : goal.returns-in_err-point-clause-fault
returns-in_err-point-clause-fault c =
    λ all more h.
    let e = c.in-Some.first.now in let es = c.in-Some.others.now in
    passed_on (IsFault all) _ _ c.from_residual.ensures.1
    (first_fault all more c.args.face c.args.support.now c.args.self.now c.args.edges.now e es c.last_or-before.result
    _ c.in-Some.ensures.cases.0 c.last_or-before.ensures (c.in_err-point.ensures.fault (first_or e es)) h)

pub loop-plane-init : goal.loop-plane-init
loop-plane-init c =
    let e = c.in-Some.first.now in let es = c.in-Some.others.now in let n = c.args.support.now in
    let before = c.last_or-before.result in let is = c.in-Some.ensures.cases.0 in
    let valid = subst (All IsBroadPlane) is c.requires.edges in
    let old = c.args.self.now in let p = c.in_ok-number.ensures in let k = c.in_ok-start.ensures in
    let begun : TableBuilder = record old { planes = c.number_of.new.table; corners = c.number_of-2.new.table } in
    let entry = c.entry_of.result in let point = c.in_ok-point.point in
    let same : plane_of entry ≡ c.plane_key.result = ap plane_of c.entry_of.ensures in
    let put = mapped_put plane_of entry old.planes.keys begun.planes.keys p.entries in
    let key = subst IsBroadPlane (sym same) c.plane_key.ensures.broad in
    let kept = λ (v : IsValidPlane n). subst IsValidPlane (sym same) (c.plane_key.ensures.valid v) in
    let own = subst (IsPlaneKey n) (sym same) c.plane_key.ensures.key in
    let here = subst (λ (ys : List Plane). IsCorner n before (first_or e ys) (spot_of point)) (sym is) c.in_ok-point.ensures.ok in
    record {
      done = λ all more h. round_begins all more c.args.face n begun c.args.edges.now e es before is
          c.last_or-before.ensures (grown all _ old begun p.distinct h.draft.lines k.distinct
          (all_put IsBroadPlane (plane_of entry) (planes_in old) (planes_in begun) put h.draft.broad key)
          (all_put (IsPlaneOf all) (plane_of entry) (planes_in old) (planes_in begun) put h.used
          (plane_is_used all more c.args.face n old c.args.edges.now e es (plane_of entry) is own kept h))
          (extends_put (plane_of entry) (planes_in old) (planes_in begun) put)
          (extends_same old.lines.keys old.lines.keys refl)
          (extends_put point old.corners.keys begun.corners.keys k.entries) refl h);
      before = subst IsBroadPlane (sym c.last_or-before.ensures) (broad_last e es (All-head IsBroadPlane e es valid) (All-tail IsBroadPlane e es valid));
      rest = c.requires.edges;
      number = mapped_has plane_of begun.planes.keys c.in_ok-number.number _ (IsPlaneKey n)
          (λ x t. subst (IsPlaneKey n) (sym same ∙ (same_entry_decides entry x).0 t) c.plane_key.ensures.key) p.number;
      start = entry_with begun.corners.keys c.in_ok-start.start _
          (λ x. IsCorner n before (first_or e c.args.edges.now) (spot_of x))
          (λ x t. subst (IsCorner n before (first_or e c.args.edges.now)) ((same_corner_decides point x).0 t) here)
          k.number;
      planes = omega (arith, put_length entry old.planes.keys begun.planes.keys p.entries, c.requires.few.planes);
      lines = c.requires.few.lines;
      corners = omega (arith, put_length point old.corners.keys begun.corners.keys k.entries, c.requires.few.corners);
      fits = c.requires.few.fits;
      grown = omega arith;
      sum = refl;
    }

pub keys_of-requires : goal.keys_of-requires
keys_of-requires c =
    let s = c.in-Some-split_first in let e = s.plane.now in let es = s.behind.now in
    let first = c.in-Some.first.now in let at = c.loop-plane.invariant in
    let valid = subst (All IsBroadPlane) s.ensures.cases.0 at.rest in
    let all = subst (All IsBroadPlane) c.in-Some.ensures.cases.0 c.requires.edges in
    record {
      support = c.requires.support;
      before = at.before;
      plane = All-head IsBroadPlane e es valid;
      after = subst IsBroadPlane (sym c.first_or.ensures)
          (broad_first first es (All-head IsBroadPlane first c.in-Some.others.now all)
          (All-tail IsBroadPlane e es valid));
    }

pub returns-in_err-keyed-clause-fault : goal.returns-in_err-keyed-clause-fault
returns-in_err-keyed-clause-fault c =
    λ all more h.
    let at = c.loop-plane in let s = c.in-Some-split_first in let n = c.args.support.now in
    let e = s.plane.now in let es = s.behind.now in let first = c.in-Some.first.now in
    let edge : FaceEdge = record { face = c.args.face; support = n; before = at.before; plane = e; after = c.first_or.result } in
    passed_on (IsFault all) _ _ c.from_residual-in_err-keyed.ensures.1
    (next_fault all (edges_behind c.args.face n first e es ++ more) edge at.self _
    (round_goes_on all more c.args.face n at.self first at.before at.rest.now e es c.first_or.result s.ensures.cases.0
    c.first_or.ensures (at.invariant.done all more h)) c.in_err-keyed.ensures.fault)

pub returns-in_err-start-2-clause-fault : goal.returns-in_err-start-2-clause-fault
returns-in_err-start-2-clause-fault c =
    λ all more h.
    let at = c.loop-plane in let s = c.in-Some-split_first in let n = c.args.support.now in
    let e = s.plane.now in let es = s.behind.now in let first = c.in-Some.first.now in
    let edge : FaceEdge = record { face = c.args.face; support = n; before = at.before; plane = e; after = c.first_or.result } in
    passed_on (IsFault all) _ _ c.from_residual-in_err-start-2.ensures.1
    (c.in_err-start-2.ensures.fault all (edges_behind c.args.face n first e es ++ more) edge
    (round_goes_on all more c.args.face n at.self first at.before at.rest.now e es c.first_or.result s.ensures.cases.0
    c.first_or.ensures (at.invariant.done all more h)))

pub loop-plane-preserved : goal.loop-plane-preserved
loop-plane-preserved c =
    let at = c.loop-plane in let i = at.invariant in let s = c.in-Some-split_first in let n = c.args.support.now in
    let e = s.plane.now in let es = s.behind.now in let first = c.in-Some.first.now in
    let edge : FaceEdge = record { face = c.args.face; support = n; before = at.before; plane = e; after = c.first_or.result } in
    let valid = subst (All IsBroadPlane) s.ensures.cases.0 i.rest in
    let keyed = c.in_ok-keyed.ensures.ok in let p = c.in_ok-start-2.ensures in
    let start = subst (λ (ys : List Plane). HasEntry at.self.corners.keys at.start
    (λ x. IsCorner n at.before (first_or first ys) (spot_of x))) s.ensures.cases.0 i.start in
    let end = subst (λ (q : Plane). IsCorner n e q (spot_of c.in_ok-keyed.keyed.end)) c.first_or.ensures keyed.end in
    record {
      done = λ all more h. p.ok all (edges_behind c.args.face n first e es ++ more) edge
          (round_goes_on all more c.args.face n at.self first at.before at.rest.now e es c.first_or.result
          s.ensures.cases.0 c.first_or.ensures (i.done all more h)) keyed i.number start;
      before = All-head IsBroadPlane e es valid;
      rest = All-tail IsBroadPlane e es valid;
      number = subst (λ t. HasEntry (map plane_of t.keys) c.in_ok-number.number (IsPlaneKey n)) (sym p.planes) i.number;
      start = entry_with c.push.new.self.corners.keys c.in_ok-start-2.start _
          (λ x. IsCorner n e (first_or first es) (spot_of x))
          (λ x t. subst (IsCorner n e (first_or first es)) (sym t) end) p.end;
      planes = subst (λ t. length t.keys ≤ length c.args.self.now.segments.items + 1) (sym p.planes) i.planes;
      lines = omega (arith, p.lines, p.segments, i.lines);
      corners = omega (arith, p.corners, p.segments, i.corners);
      fits = p.fits;
      grown = omega (arith, p.segments, i.grown);
      sum = omega (arith, p.segments, i.sum, ap length s.ensures.cases.0);
    }
