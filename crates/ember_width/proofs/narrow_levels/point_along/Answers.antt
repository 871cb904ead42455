use Rattle.std.proofs.Common.{sym, subst, ap, ◌∙◌, [], ◌∷◌, ℤ, pos, ◌<ℤ◌}
use Rattle.ember_algebra.specs.Size.{Small}
use Rattle.ember_algebra.proofs.Exact.{wide, kept, run, ◌&◌, done, exact, bounded}
use Rattle.ember_model.specs.Valid.{IsValidMeet}
use Rattle.ember_model.proofs.Tuples.{same_spot}
use Rattle.ember_width.specs.Levels.{point_at}
use Rattle.ember_width.proofs.narrow_levels.point_along.Goals.{in-X, in-Y, in-Z}
use Rattle.ember_width.proofs.narrow_levels.point_along.Goals as goal

weighs : {w : ℤ} → Small 2251799679467522 w → pos 0 <ℤ w → pos 0 <ℤ run (w ∷ []) (wide 0)
weighs s l = subst (λ z. pos 0 <ℤ z) (sym (exact (s & done) (wide 0) tt)) l

pub invariant_of-result : goal.invariant_of-result
invariant_of-result c =
    let q = c.requires in
    let t = bounded (q.t & done) 4951760157141521099596496895 (wide 0) tt in let u = bounded (q.u & done) 4951760157141521099596496895 (kept 0) tt in
    let v = bounded (q.v & done) 4951760157141521099596496895 (kept 0) tt in let w = bounded (q.w & done) 302231454903657293676543 (wide 0) tt in
    let l = weighs q.w q.weight in
    record {
      valid = elim c.match-axis.branch [
        | in-X b ↦ subst (λ r. IsValidMeet (record { x = r.0; y = r.1.0; z = r.1.1.0; w = r.1.1.1.0 }))
            (sym b.result-is) (record { x = t; y = u; z = v; w = w; weight = l })
        | in-Y b ↦ subst (λ r. IsValidMeet (record { x = r.0; y = r.1.0; z = r.1.1.0; w = r.1.1.1.0 }))
            (sym b.result-is) (record { x = v; y = t; z = u; w = w; weight = l })
        | in-Z b ↦ subst (λ r. IsValidMeet (record { x = r.0; y = r.1.0; z = r.1.1.0; w = r.1.1.1.0 }))
            (sym b.result-is) (record { x = u; y = v; z = t; w = w; weight = l })
      ];
    }

pub returns : goal.returns
returns c =
    let q = c.requires in let a = c.args in
    let t = exact (q.t & done) (wide 0) tt in let u = exact (q.u & done) (kept 0) tt in
    let v = exact (q.v & done) (kept 0) tt in let w = exact (q.w & done) (wide 0) tt in
    elim c.match-axis.branch [
      | in-X b ↦ ap (λ r. record { x = r.0; y = r.1.0; z = r.1.1.0; w = r.1.1.1.0 }) b.result-is ∙ same_spot t u v w
          ∙ ap (λ k. point_at k a.t a.u a.v a.w) (sym b.in-X.is)
      | in-Y b ↦ ap (λ r. record { x = r.0; y = r.1.0; z = r.1.1.0; w = r.1.1.1.0 }) b.result-is ∙ same_spot v t u w
          ∙ ap (λ k. point_at k a.t a.u a.v a.w) (sym b.in-Y.is)
      | in-Z b ↦ ap (λ r. record { x = r.0; y = r.1.0; z = r.1.1.0; w = r.1.1.1.0 }) b.result-is ∙ same_spot u v t w
          ∙ ap (λ k. point_at k a.t a.u a.v a.w) (sym b.in-Z.is)
    ]
