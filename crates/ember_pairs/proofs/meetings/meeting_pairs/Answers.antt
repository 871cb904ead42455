use Rattle.std.proofs.Common.{◌∙◌, ◌<◌, sym, subst, not, ℕ, List, length, All}
use Rattle.std.proofs.lemmas.List.Elements.{All-filter}
use Rattle.ember_model.specs.Faces.{is_flat}
use Rattle.ember_box.specs.Near.{tri_at}
use Rattle.ember_pairs.specs.Pairs.{AreMeetingPairs}
use Rattle.ember_pairs.proofs.FlatTriangles.{all_pairs}
use Rattle.ember_pairs.proofs.meetings.meeting_pairs.Goals as goal

pub tested_pairs-requires-clause-places : goal.tested_pairs-requires-clause-places
tested_pairs-requires-clause-places c =
    let ts = c.args.tris.now in
    subst (All (λ i. i < length ts)) (sym (c.as_slice.ensures.value ∙ c.in_ok-kept.ensures))
    (All-filter (λ i. not (is_flat (tri_at ts i))) (λ i. i < length ts) c.args.list.now c.requires.places)

pub returns : goal.returns
returns c =
    let ts = c.args.tris.now in
    all_pairs ts c.args.list.now c.in_ok-pairs.pairs
    (subst (λ (indices : List ℕ). AreMeetingPairs ts indices c.in_ok-pairs.pairs)
    (c.as_slice.ensures.value ∙ c.in_ok-kept.ensures) c.in_ok-pairs.ensures)
