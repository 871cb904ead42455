use Rattle.std.proofs.Common.{◌≡◌, ◌∙◌, ap, sym, Bool, false}
use Rattle.ember_model.specs.declared.tri.Tri.{Tri}
use Rattle.ember_model.specs.Planes.{support_of}
use Rattle.ember_model.specs.Faces.{is_flat}
use Rattle.ember_width.specs.declared.heights.Heights.{Heights}
use Rattle.ember_width.specs.Heights.{heights_of, all_on}
use Rattle.ember_pairs.proofs.FlatTriangles.{full_if_off}
use Rattle.ember_pairs.proofs.meetings.by_edges.Goals as goal

-- a triangle isn't flat if the test of another's heights over its plane answers false
full : (t u : Tri) (h : Heights) (on : Bool) → h ≡ heights_of (support_of t) u → on ≡ all_on h → on ≡ false → is_flat t ≡ false
full t u h on e q r = full_if_off t u (sym (ap all_on e) ∙ sym q ∙ r)

pub by_chord-requires-clause-face : goal.by_chord-requires-clause-face
by_chord-requires-clause-face c =
    full c.args.t.now c.args.u.now c.args.over.now.theirs c.all_on-theirs_on.result c.requires.over.theirs c.all_on-theirs_on.ensures c.if-theirs_on-2.false

pub by_chord-requires-clause-other_face : goal.by_chord-requires-clause-other_face
by_chord-requires-clause-other_face c =
    full c.args.u.now c.args.t.now c.args.over.now.own c.all_on-own_on.result c.requires.over.own c.all_on-own_on.ensures c.if-own_on-2.false

pub by_chord-requires-in-Unknown-clause-face : goal.by_chord-requires-in-Unknown-clause-face
by_chord-requires-in-Unknown-clause-face c =
    full c.args.u.now c.args.t.now c.args.over.now.own c.all_on-own_on.result c.requires.over.own c.all_on-own_on.ensures c.if-own_on-2.false

pub by_chord-requires-in-Unknown-clause-other_face : goal.by_chord-requires-in-Unknown-clause-other_face
by_chord-requires-in-Unknown-clause-other_face c =
    full c.args.t.now c.args.u.now c.args.over.now.theirs c.all_on-theirs_on.result c.requires.over.theirs c.all_on-theirs_on.ensures c.if-theirs_on-2.false
