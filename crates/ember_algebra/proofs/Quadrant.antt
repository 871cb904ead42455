-- The plane lemma and the quadrant law by the signs alone: each pattern of signs that the identities allow is tried.
use Rattle.std.proofs.Common.{◌≡◌, Bool, not, T, ℤ, pos, negsuc, ◌+ℤ◌, ◌-ℤ◌}
use Rattle.ember_algebra.specs.Sign.{Sign, flip, times, number, is_pos, is_neg, is_nil}
use Rattle.ember_algebra.proofs.Signs.{◌and◌, ◌or◌, same_z, same_z_out, pick, may_sum, zero_sum, sum3, level_if_null, signs, every, given, use_given, ◌⇒◌}

-- ---- the quadrant law
-- for corners u, v, w, directions f, g and h = f × g: d is the sign of det u v w, n that of a normal's product with a direction,
-- hu, hv, hw those of the levels h·u, h·v, h·w, and uf, vf, tf those of f·(u×v), f·(v×w), f·(w×u)
abbrev pub up : Sign → Sign → Bool
up a b = not (is_pos a) and is_pos b

abbrev pub edge : Sign → Sign → Sign → Sign → ℤ
edge a b uf ug =
    pick (up a b and is_pos uf and is_neg ug) (pos 1) +ℤ pick (up b a and is_neg uf and is_pos ug) (negsuc 0)

abbrev pub crossing : Sign → Sign → Sign → Sign → Sign → ℤ
crossing d n a b c =
    pick (is_pos (times d n) and (is_pos a and is_pos b and is_pos c or is_neg a and is_neg b and is_neg c)) (number n)

-- what the identities and generic directions allow
abbrev pub may_h : Sign → Sign → Sign → Sign → Bool
may_h hu hv hw d = not (is_nil d) and not (is_nil hu and is_nil hv and is_nil hw)

abbrev pub may_f : Sign → Sign → Sign → Sign → Sign → Sign → Sign → Bool
may_f hu hv hw u v t n =
    zero_sum (times hu v) (times hv t) (times hw u) and level_if_null hu hv u and level_if_null hv hw v and
    level_if_null hw hu t and (is_nil u ⇒ is_nil n) and (is_nil v ⇒ is_nil n) and (is_nil t ⇒ is_nil n) and sum3 u v t
    n

abbrev pub may_both : Sign → Sign → Sign → Sign → Sign → Sign → Sign → Sign → Sign → Sign → Bool
may_both hu hv hw d uf vf tf ug vg tg =
    may_sum (times uf vg) (flip (times ug vf)) (times d hv) and may_sum (times vf tg) (flip (times vg tf)) (times d hw)
    and may_sum (times tf ug) (flip (times tg uf)) (times d hu)

-- the two sides of the law
abbrev pub left : Sign → Sign → Sign → Sign → Sign → Sign → Sign → Sign → Sign → ℤ
left d uf vf tf nf ug vg tg ng = crossing d nf uf vf tf -ℤ crossing d ng ug vg tg

abbrev pub right : Sign → Sign → Sign → Sign → Sign → Sign → Sign → Sign → Sign → ℤ
right hu hv hw uf vf tf ug vg tg = edge hu hv uf ug +ℤ edge hv hw vf vg +ℤ edge hw hu tf tg

-- one direction's signs after the other's, so that what the first rules out is not tried
abbrev third : Sign → Sign → Sign → Sign → Sign → Sign → Sign → Sign → Sign → Sign → Sign → Sign → Bool
third hu hv hw d uf vf tf nf ug vg tg ng =
    given (may_f hu hv hw ug vg tg ng and may_both hu hv hw d uf vf tf ug vg tg)
    (λ e. same_z (left d uf vf tf nf ug vg tg ng) (right hu hv hw uf vf tf ug vg tg))

abbrev second : Sign → Sign → Sign → Sign → Sign → Sign → Sign → Sign → Bool
second hu hv hw d uf vf tf nf =
    given (may_f hu hv hw uf vf tf nf) (λ e. every 4 (λ ug vg tg ng. third hu hv hw d uf vf tf nf ug vg tg ng))

abbrev first : Sign → Sign → Sign → Sign → Bool
first hu hv hw d =
    given (may_h hu hv hw d) (λ e. every 4 (λ uf vf tf nf. second hu hv hw d uf vf tf nf))

all_first : (hu hv hw d : Sign) → T (first hu hv hw d)
all_first = signs 4 (λ hu hv hw d. first hu hv hw d) tt

-- for all signs that the identities allow, both sides of the quadrant law are equal
pub quadrant_law : (hu hv hw d uf vf tf nf ug vg tg ng : Sign) → T (may_h hu hv hw d) → T (may_f hu hv hw uf vf tf nf) →
    T (may_f hu hv hw ug vg tg ng and may_both hu hv hw d uf vf tf ug vg tg) →
    left d uf vf tf nf ug vg tg ng ≡ right hu hv hw uf vf tf ug vg tg
quadrant_law hu hv hw d uf vf tf nf ug vg tg ng p q r =
    let a = use_given (may_h hu hv hw d) (λ e. every 4 (λ uf vf tf nf. second hu hv hw d uf vf tf nf)) (all_first hu hv hw d) p in
    let b = use_given (may_f hu hv hw uf vf tf nf)
    (λ e. every 4 (λ ug vg tg ng. third hu hv hw d uf vf tf nf ug vg tg ng))
    (signs 4 (λ uf vf tf nf. second hu hv hw d uf vf tf nf) a uf vf tf nf) q in
    let c = use_given (may_f hu hv hw ug vg tg ng and may_both hu hv hw d uf vf tf ug vg tg)
    (λ e. same_z (left d uf vf tf nf ug vg tg ng) (right hu hv hw uf vf tf ug vg tg))
    (signs 4 (λ ug vg tg ng. third hu hv hw d uf vf tf nf ug vg tg ng) b ug vg tg ng) r in
    same_z_out (left d uf vf tf nf ug vg tg ng) (right hu hv hw uf vf tf ug vg tg) c
