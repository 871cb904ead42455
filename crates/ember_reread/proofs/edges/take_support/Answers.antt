use Rattle.std.proofs.Common.{◌≡◌, arith, ◌^◌, pos, unsigned_abs}
use Rattle.std.proofs.lemmas.Int.{ints}
use Rattle.ember_algebra.proofs.Size.{small_within}
use Rattle.ember_algebra.proofs.Exact.{kept, ◌&◌, done, exact}
use Rattle.ember_reread.proofs.LineTexts.{no_support_plane, no_support_number, no_support_end, support_count, support_found}
use Rattle.ember_reread.proofs.edges.take_support.Goals as goal

pub returns-in_err-support-clause-line : goal.returns-in_err-support-clause-line
returns-in_err-support-clause-line c =
    rw c.from_residual-in_err-support.ensures (no_support_plane c.in_ok-skip_byte.ensures c.in_err-support.ensures)

pub returns-in_err-count-clause-line : goal.returns-in_err-count-clause-line
returns-in_err-count-clause-line c =
    rw c.from_residual-in_err-count.ensures (no_support_number c.in_ok-skip_byte.ensures c.in_ok-support.ensures c.in_err-count.ensures)

pub returns-then-count-lt3-clause-line : goal.returns-then-count-lt3-clause-line
returns-then-count-lt3-clause-line c =
    λ n count rest l h.
    let f = c.in_ok-count.ensures in
    let e = support_count c.in_ok-skip_byte.ensures c.in_ok-support.ensures f (omega arith) l h in
    let k = exact (small_within {n = 2 ^ 64} (omega arith) f.small & done) (kept 0) tt in
    omega (arith, ints, e, k, h.enough, c.if-count-lt3.true)

pub returns-in_err-skip_byte-2-clause-line : goal.returns-in_err-skip_byte-2-clause-line
returns-in_err-skip_byte-2-clause-line c =
    rw c.from_residual-in_err-skip_byte-2.ensures
    (no_support_end c.in_ok-skip_byte.ensures c.in_ok-support.ensures c.in_ok-count.ensures
    c.in_err-skip_byte-2.ensures)

pub returns-clause-line : goal.returns-clause-line
returns-clause-line c =
    let f = c.in_ok-count.ensures in
    let k = exact (small_within {n = 2 ^ 64} (omega arith) f.small & done) (kept 0) tt in
    let e : c.in_ok-count.count ≡ pos (unsigned_abs c.in_ok-count.count) = omega (arith, ints, k, c.if-count-lt3.false) in
    rw k (support_found c.in_ok-skip_byte.ensures c.in_ok-support.ensures f e (omega (arith, ints, k, c.if-count-lt3.false)) c.in_ok-skip_byte-2.ensures)

pub returns-clause-fits : goal.returns-clause-fits
returns-clause-fits c =
    let f = c.in_ok-count.ensures in
    let k = exact (small_within {n = 2 ^ 64} (omega arith) f.small & done) (kept 0) tt in
    rw k f.small.small
