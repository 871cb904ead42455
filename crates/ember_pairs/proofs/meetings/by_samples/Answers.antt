use Rattle.std.proofs.Common.{◌≡◌, ◌∙◌, sym, subst, false, ◌&&◌, List, Bool}
use Rattle.ember_algebra.specs.Sign.{is_zero}
use Rattle.ember_model.specs.declared.tri.Tri.{Tri}
use Rattle.ember_model.specs.Faces.{is_flat, edges_of}
use Rattle.ember_poly.proofs.TriangleRing.{flat_is}
use Rattle.ember_width.specs.declared.heights.Heights.{Heights}
use Rattle.ember_pairs.specs.declared.meetings.Candidate.{Candidate}
use Rattle.ember_pairs.specs.Heights.{heights_over}
use Rattle.ember_pairs.specs.Candidates.{candidate_of}
use Rattle.ember_pairs.specs.Samples.{HasSampleWithin}
use Rattle.ember_pairs.proofs.BeyondEdges.{parted_if_none, given_heights}
use Rattle.ember_pairs.proofs.PartedTriangles.{meeting_is_symmetric}
use Rattle.ember_pairs.proofs.SamplePoints.{met_by_sample}
use Rattle.ember_pairs.proofs.meetings.by_samples.Goals as goal

-- a triangle isn't flat if the normal of its candidate isn't 0
full : (t : Tri) (f : Candidate) (none : Bool) → f ≡ candidate_of t →
    none ≡ (is_zero f.support.a && (is_zero f.support.b && is_zero f.support.c)) → none ≡ false → is_flat t ≡ false
full t f none e q r = flat_is t f.support none (λ i. (e i).support) q ∙ r

pub returns-in_default : goal.returns-in_default
returns-in_default c = λ m.
    parted_if_none c.args.t.now c.args.u.now (sym c.in_default.is ∙ c.edge_heights.ensures.value) m

pub returns-in_default-edge_heights : goal.returns-in_default-edge_heights
returns-in_default-edge_heights c = λ m.
    parted_if_none c.args.u.now c.args.t.now (sym c.in_default-edge_heights.is ∙ c.edge_heights-2.ensures.value) (meeting_is_symmetric m)

pub returns-then-has_sample_within : goal.returns-then-has_sample_within
returns-then-has_sample_within c =
    let t = c.args.t.now in let u = c.args.u.now in
    let theirs = given_heights t u c.in-Some.theirs (sym c.in-Some.is ∙ c.edge_heights.ensures.value) in
    let own = given_heights u t c.in-Some-edge_heights.own (sym c.in-Some-edge_heights.is ∙ c.edge_heights-2.ensures.value) in
    let one = full t c.args.first.now c.has_no_normal.result c.requires.facet c.has_no_normal.ensures c.if-has_no_normal.false in
    let other = full u c.args.second.now c.has_no_normal-else-has_no_normal.result c.requires.other_facet
    c.has_no_normal-else-has_no_normal.ensures c.if-has_no_normal-2.false in
    let s = c.has_sample_within.ensures c.if-has_sample_within.true in
    met_by_sample t u (record { full = one; holds = c.requires.plane })
    (record { full = other; holds = c.requires.other_plane })
    (subst (λ (hs : List Heights). HasSampleWithin hs (heights_over (edges_of u) t)) theirs
    (subst (λ (hs : List Heights). HasSampleWithin c.in-Some.theirs hs) own s))
