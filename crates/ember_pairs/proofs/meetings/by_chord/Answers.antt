use Rattle.std.proofs.Common.{◌≡◌, ◌∙◌, sym, subst, false, List}
use Rattle.ember_model.specs.declared.tri.Tri.{Tri}
use Rattle.ember_model.specs.Planes.{support_of}
use Rattle.ember_model.specs.Faces.{is_flat, edges_of}
use Rattle.ember_pairs.specs.declared.by_edges.ByEdges.{ByEdges}
use Rattle.ember_pairs.specs.declared.by_edges.ByEdges.TheVariants as by_edges
use Rattle.ember_width.specs.declared.heights.Heights.{Heights}
use Rattle.ember_width.specs.Heights.{heights_of}
use Rattle.ember_pairs.specs.Heights.{heights_over}
use Rattle.ember_pairs.specs.Chords.{IsByChord}
use Rattle.ember_pairs.specs.ByEdges.{IsByEdges}
use Rattle.ember_pairs.proofs.BeyondEdges.{parted_if_none, given_heights}
use Rattle.ember_pairs.proofs.ChordsBeyond.{parted_by_chord}
use Rattle.ember_pairs.proofs.ChordsWithin.{met_by_chord}
use Rattle.ember_pairs.proofs.meetings.by_chord.Goals as goal

-- what a chord shows holds
shown : (t u : Tri) → is_flat t ≡ false → is_flat u ≡ false → (b : ByEdges) →
    IsByChord (heights_of (support_of t) u) (heights_over (edges_of t) u) b → IsByEdges t u b
shown t u one other by_edges.Apart x = parted_by_chord t u x
shown t u one other by_edges.Met x = met_by_chord t u one other x
shown t u one other by_edges.Unknown x = tt

pub returns-in-None : goal.returns-in-None
returns-in-None c = λ m. parted_if_none c.args.t.now c.args.u.now (sym c.in-None.is ∙ c.edge_heights.ensures.value) m

pub returns-in-Some : goal.returns-in-Some
returns-in-Some c =
    let t = c.args.t.now in let u = c.args.u.now in
    let edges = given_heights t u c.in-Some.edges (sym c.in-Some.is ∙ c.edge_heights.ensures.value) in
    let here = subst (λ (h : Heights). IsByChord h c.in-Some.edges c.shown_by_chord.result) c.requires.over c.shown_by_chord.ensures in
    shown t u c.requires.face c.requires.other_face c.shown_by_chord.result
    (subst (λ (hs : List Heights). IsByChord (heights_of (support_of t) u) hs c.shown_by_chord.result) edges here)
