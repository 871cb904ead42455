use Rattle.std.proofs.Common.{◌≡◌, ℤ, pos, ◌*ℤ◌, ◌<ℤ◌, ◌∙◌, ap, sym, subst, lit≤}
use Rattle.ember_algebra.proofs.Exact.{number, kept, ◌⊠◌, ◌&◌, done, exact, bounded}
use Rattle.ember_algebra.proofs.Ring.{◌⊗◌, num, ◌≈◌, solve, cancels}
use Rattle.ember_algebra.proofs.Size.{small_within}
use Rattle.ember_model.proofs.Tuples.{same_spot}
use Rattle.ember_width.specs.Broad.{most_weight}
use Rattle.ember_width.specs.Levels.{point_at}
use Rattle.ember_width.proofs.Sums.{within}
use Rattle.ember_width.proofs.levels.point_along.Goals as goal

single : (a : ℤ) → a *ℤ pos 1 ≡ a
single a = solve 1 (λ a. a ⊗ num (pos 1) ≈ a) cancels a

pub point_of-requires-clause-x : goal.point_of-requires-clause-x
point_of-requires-clause-x c =
    within c.product-x.result (c.product-x.ensures ∙ exact (c.requires.t & done) (kept 0 ⊠ number (pos 1)) tt ∙ single c.args.t)
    (small_within (lit≤ tt) c.requires.t)

pub point_of-requires-clause-y : goal.point_of-requires-clause-y
point_of-requires-clause-y c =
    within c.product-y.result (c.product-y.ensures ∙ exact (c.requires.u & done) (kept 0 ⊠ number (pos 1)) tt ∙ single c.args.u)
    (small_within (lit≤ tt) c.requires.u)

pub point_of-requires-clause-z : goal.point_of-requires-clause-z
point_of-requires-clause-z c =
    within c.product-z.result (c.product-z.ensures ∙ exact (c.requires.v & done) (kept 0 ⊠ number (pos 1)) tt ∙ single c.args.v)
    (small_within (lit≤ tt) c.requires.v)

pub point_of-requires-clause-w : goal.point_of-requires-clause-w
point_of-requires-clause-w c = bounded (c.requires.w & done) most_weight (kept 0) tt

pub point_of-requires-clause-weight : goal.point_of-requires-clause-weight
point_of-requires-clause-weight c = subst (λ z. pos 0 <ℤ z) (sym (exact (c.requires.w & done) (kept 0) tt)) c.requires.weight

pub returns-in-X : goal.returns-in-X
returns-in-X c =
    let a = c.args in
    c.point_of.ensures ∙ same_spot (c.product-x.ensures ∙ exact (c.requires.t & done) (kept 0 ⊠ number (pos 1)) tt ∙ single c.args.t)
    (c.product-y.ensures ∙ exact (c.requires.u & done) (kept 0 ⊠ number (pos 1)) tt ∙ single c.args.u)
    (c.product-z.ensures ∙ exact (c.requires.v & done) (kept 0 ⊠ number (pos 1)) tt ∙ single c.args.v) (exact (c.requires.w & done) (kept 0) tt)
    ∙ ap (λ k. point_at k a.t a.u a.v a.w) (sym c.in-X.is)

pub point_of-requires-in-Y-clause-x : goal.point_of-requires-in-Y-clause-x
point_of-requires-in-Y-clause-x c =
    within c.product-z.result (c.product-z.ensures ∙ exact (c.requires.v & done) (kept 0 ⊠ number (pos 1)) tt ∙ single c.args.v)
    (small_within (lit≤ tt) c.requires.v)

pub point_of-requires-in-Y-clause-y : goal.point_of-requires-in-Y-clause-y
point_of-requires-in-Y-clause-y c =
    within c.product-x.result (c.product-x.ensures ∙ exact (c.requires.t & done) (kept 0 ⊠ number (pos 1)) tt ∙ single c.args.t)
    (small_within (lit≤ tt) c.requires.t)

pub point_of-requires-in-Y-clause-z : goal.point_of-requires-in-Y-clause-z
point_of-requires-in-Y-clause-z c =
    within c.product-y.result (c.product-y.ensures ∙ exact (c.requires.u & done) (kept 0 ⊠ number (pos 1)) tt ∙ single c.args.u)
    (small_within (lit≤ tt) c.requires.u)

pub point_of-requires-in-Y-clause-w : goal.point_of-requires-in-Y-clause-w
point_of-requires-in-Y-clause-w c = bounded (c.requires.w & done) most_weight (kept 0) tt

pub point_of-requires-in-Y-clause-weight : goal.point_of-requires-in-Y-clause-weight
point_of-requires-in-Y-clause-weight c = subst (λ z. pos 0 <ℤ z) (sym (exact (c.requires.w & done) (kept 0) tt)) c.requires.weight

pub returns-in-Y : goal.returns-in-Y
returns-in-Y c =
    let a = c.args in
    c.point_of-in-Y.ensures ∙ same_spot (c.product-z.ensures ∙ exact (c.requires.v & done) (kept 0 ⊠ number (pos 1)) tt ∙ single c.args.v)
    (c.product-x.ensures ∙ exact (c.requires.t & done) (kept 0 ⊠ number (pos 1)) tt ∙ single c.args.t)
    (c.product-y.ensures ∙ exact (c.requires.u & done) (kept 0 ⊠ number (pos 1)) tt ∙ single c.args.u) (exact (c.requires.w & done) (kept 0) tt)
    ∙ ap (λ k. point_at k a.t a.u a.v a.w) (sym c.in-Y.is)

pub point_of-requires-in-Z-clause-x : goal.point_of-requires-in-Z-clause-x
point_of-requires-in-Z-clause-x c =
    within c.product-y.result (c.product-y.ensures ∙ exact (c.requires.u & done) (kept 0 ⊠ number (pos 1)) tt ∙ single c.args.u)
    (small_within (lit≤ tt) c.requires.u)

pub point_of-requires-in-Z-clause-y : goal.point_of-requires-in-Z-clause-y
point_of-requires-in-Z-clause-y c =
    within c.product-z.result (c.product-z.ensures ∙ exact (c.requires.v & done) (kept 0 ⊠ number (pos 1)) tt ∙ single c.args.v)
    (small_within (lit≤ tt) c.requires.v)

pub point_of-requires-in-Z-clause-z : goal.point_of-requires-in-Z-clause-z
point_of-requires-in-Z-clause-z c =
    within c.product-x.result (c.product-x.ensures ∙ exact (c.requires.t & done) (kept 0 ⊠ number (pos 1)) tt ∙ single c.args.t)
    (small_within (lit≤ tt) c.requires.t)

pub point_of-requires-in-Z-clause-w : goal.point_of-requires-in-Z-clause-w
point_of-requires-in-Z-clause-w c = bounded (c.requires.w & done) most_weight (kept 0) tt

pub point_of-requires-in-Z-clause-weight : goal.point_of-requires-in-Z-clause-weight
point_of-requires-in-Z-clause-weight c = subst (λ z. pos 0 <ℤ z) (sym (exact (c.requires.w & done) (kept 0) tt)) c.requires.weight

pub returns-in-Z : goal.returns-in-Z
returns-in-Z c =
    let a = c.args in
    c.point_of-in-Z.ensures ∙ same_spot (c.product-y.ensures ∙ exact (c.requires.u & done) (kept 0 ⊠ number (pos 1)) tt ∙ single c.args.u)
    (c.product-z.ensures ∙ exact (c.requires.v & done) (kept 0 ⊠ number (pos 1)) tt ∙ single c.args.v)
    (c.product-x.ensures ∙ exact (c.requires.t & done) (kept 0 ⊠ number (pos 1)) tt ∙ single c.args.t) (exact (c.requires.w & done) (kept 0) tt)
    ∙ ap (λ k. point_at k a.t a.u a.v a.w) (sym c.in-Z.is)
