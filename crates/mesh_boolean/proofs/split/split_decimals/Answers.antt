use Rattle.std.proofs.Common.{true≢false, refl, sym, subst, ◌∙◌}
use Rattle.mesh_manifold.specs.Splits.{AreSplitOf}
use Rattle.mesh_manifold.proofs.Cuts.{uncut}
use Rattle.mesh_boolean.proofs.split.split_decimals.Goals as goal

pub returns-then-split : goal.returns-then-split
unfolding uncut
returns-then-split c = λ ts is.
    c.split_over.ensures ts ts (uncut ts) is (subst (AreSplitOf c.in_ok-split.split.mesh) (c.triangles.ensures ts is)
    c.in_ok-split.ensures.corners) c.in_ok-split.ensures.manifold (λ no. refl) refl

pub returns-then-again : goal.returns-then-again
returns-then-again c = λ ts is.
    let cut = c.in_ok-pieces.ensures ts is in
    c.split_over-then-again.ensures ts cut.cut cut.are_cut cut.is
    (subst (AreSplitOf c.in_ok-again.again.mesh) (c.triangles-2.ensures cut.cut cut.is) c.in_ok-again.ensures.corners)
    c.in_ok-again.ensures.manifold (λ no. absurd (true≢false (sym c.if-again.true ∙ no))) cut.origins

pub returns : goal.returns
unfolding uncut
returns c = λ ts is.
    c.split_over-2.ensures ts ts (uncut ts) is (subst (AreSplitOf c.in_ok-split.split.mesh) (c.triangles.ensures ts is)
    c.in_ok-split.ensures.corners) c.in_ok-split.ensures.manifold (λ no. refl) refl
