use Rattle.std.proofs.Common.{refl, sym, subst, arith}
use Rattle.mesh_certificate.specs.Key.LineKeys.{IsLineKey}
use Rattle.mesh_certificate.specs.Certificate.Facing.{spot_of}
use Rattle.mesh_solid.specs.declared.tables.draft.TableBuilder.{TableBuilder}
use Rattle.mesh_solid.specs.Tables.Tables.{IsCorner}
use Rattle.mesh_solid.specs.Tables.Drafts.{planes_in}
use Rattle.mesh_solid.proofs.Lists.{extends_same, extends_put, entry_stays, entry_with}
use Rattle.mesh_solid.proofs.Numbers.{same_line_decides, same_corner_decides}
use Rattle.mesh_solid.proofs.Segments.{grown, edge_put}
use Rattle.mesh_solid.proofs.Drafts.{one_too_many}
use Rattle.mesh_solid.proofs.tables.draft.TableBuilder.push.Goals as goal

pub returns-clause-ok : goal.returns-clause-ok
returns-clause-ok c =
    λ all rest edge h y p a.
    let k = c.args.keyed.now in let old = c.args.self.now in
    let l = c.in_ok-line.ensures in let e = c.in_ok-end.ensures in
    let mid : TableBuilder = record old { lines = c.number_of.new.table; corners = c.number_of-2.new.table } in
    let lines = extends_put k.line old.lines.keys mid.lines.keys l.entries in
    let corners = extends_put k.end old.corners.keys mid.corners.keys e.entries in
    let g = grown all _ old mid h.draft.planes l.distinct e.distinct h.draft.broad h.used (extends_same (planes_in old) (planes_in old) refl) lines corners refl h in
    edge_put all rest edge mid _ _ refl
    (record {
      plane = p;
      line = entry_with mid.lines.keys c.in_ok-line.line _ (IsLineKey edge.support edge.plane)
          (λ x t. subst (IsLineKey edge.support edge.plane) ((same_line_decides k.line x).0 t) y.line) l.number;
      start = entry_stays old.corners.keys mid.corners.keys c.args.start (λ x. IsCorner edge.support edge.before edge.plane (spot_of x)) corners a;
      end = entry_with mid.corners.keys c.in_ok-end.end _ (λ x. IsCorner edge.support edge.plane edge.after (spot_of x))
          (λ x t. subst (IsCorner edge.support edge.plane edge.after) ((same_corner_decides k.end x).0 t) y.end) e.number;
    })
    c.in_ok-push.ensures.items g

pub returns-clause-end : goal.returns-clause-end
returns-clause-end c =
    let k = c.args.keyed.now in
    entry_with _ _ _ _ (λ x t. sym ((same_corner_decides k.end x).0 t)) c.in_ok-end.ensures.number

pub returns-then-len-ge-MOST_EDGES-clause-fault : goal.returns-then-len-ge-MOST_EDGES-clause-fault
returns-then-len-ge-MOST_EDGES-clause-fault c =
    λ all rest edge h. one_too_many all rest edge c.args.self.now h (omega (arith, c.len.ensures, c.if-len-ge-MOST_EDGES.true))
