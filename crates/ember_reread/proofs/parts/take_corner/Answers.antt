use Rattle.std.proofs.Common.{sym, ap, subst, arith}
use Rattle.std.proofs.lemmas.Int.{ints}
use Rattle.ember_algebra.proofs.Exact.{kept, ◌&◌, done, exact}
use Rattle.ember_model.specs.FaceFiles.{IsLowest}
use Rattle.ember_model.proofs.Tuples.{same_spot}
use Rattle.ember_reread.specs.declared.fields.Four.{Four}
use Rattle.ember_reread.proofs.FieldTexts.{same_fields}
use Rattle.ember_reread.proofs.parts.take_corner.Goals as goal

pub returns-in_err-four : goal.returns-in_err-four
returns-in_err-four c = rw c.from_residual.ensures (λ v rest h. c.in_err-four.ensures _ rest h.fields)

pub returns-then-four-lt1 : goal.returns-then-four-lt1
returns-then-four-lt1 c =
    λ v rest h.
    let f = c.in_ok-four.ensures in
    let e = ap (λ (u : Four). u.w) (same_fields (omega arith) (omega arith) f h.fields).0 in
    let k = exact (f.w.small & done) (kept 0) tt in
    omega (arith, ints, e, k, h.written.valid.weight, c.if-four-lt1.true)

pub returns-else-is_lowest : goal.returns-else-is_lowest
returns-else-is_lowest c =
    λ v rest h.
    let f = c.in_ok-four.ensures in
    let e = (same_fields (omega arith) (omega arith) f h.fields).0 in
    let l = subst (λ (u : Four). IsLowest (record { x = u.x; y = u.y; z = u.z; w = u.w })) (sym e) h.written.lowest in
    let stored = same_spot (sym (exact (f.x.small & done) (kept 0) tt)) (sym (exact (f.y.small & done) (kept 0) tt))
    (sym (exact (f.z.small & done) (kept 0) tt)) (sym (exact (f.w.small & done) (kept 0) tt)) in
    let t = c.is_lowest.ensures.1 (subst IsLowest stored l) in
    cc
