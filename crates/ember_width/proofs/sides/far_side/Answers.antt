use Rattle.std.proofs.Common.{◌≡◌, ℤ, pos, ◌+ℤ◌, ◌-ℤ◌, ◌*ℤ◌, ◌∙◌, ap, refl, lit<, lit≤}
use mir.Syntax.{w128}
use Rattle.ember_algebra.specs.Sign.{sgn}
use Rattle.ember_algebra.specs.Size.{Small}
use Rattle.ember_algebra.proofs.Exact.{stored, number, wide, kept, ◌⊠◌, ◌⊟◌, ◌&◌, done, exact, bounded}
use Rattle.ember_algebra.proofs.Ring.{◌⊕◌, ◌⊖◌, ◌⊗◌, num, ◌≈◌, solve, cancels}
use Rattle.ember_algebra.proofs.Size.{small_mul, small_sub}
use Rattle.ember_wide.specs.Whole.{value_of}
use Rattle.ember_width.specs.Broad.{most_normal}
use Rattle.ember_width.proofs.Sums.{within, sum_within, sum_fits, product_fits}
use Rattle.ember_width.proofs.sides.far_side.Goals as goal

pub times-x-requires : goal.times-x-requires
times-x-requires c = product_fits c.args.m.now.x c.args.m.now.valid.x (bounded (c.requires.a & done) most_normal (wide 0) tt) (lit< tt)

pub times-y-requires : goal.times-y-requires
times-y-requires c = product_fits c.args.m.now.y c.args.m.now.valid.y (bounded (c.requires.b & done) most_normal (wide 0) tt) (lit< tt)

pub times-z-requires : goal.times-z-requires
times-z-requires c = product_fits c.args.m.now.z c.args.m.now.valid.z (bounded (c.requires.c & done) most_normal (wide 0) tt) (lit< tt)

nil : Small 0 (pos 0)
nil = record { small = lit≤ tt }

pub plus-requires : goal.plus-requires
plus-requires c =
    let q = c.requires in let m = c.args.m.now.valid in
    let x = c.times-x.ensures ∙ ap (λ (k : ℤ). value_of c.args.m.now.x *ℤ k) (exact (q.a & done) (wide 0) tt) in
    let y = c.times-y.ensures ∙ ap (λ (k : ℤ). value_of c.args.m.now.y *ℤ k) (exact (q.b & done) (wide 0) tt) in
    sum_fits c.times-x.result c.times-y.result (within c.times-x.result x (small_mul m.x q.a)) (within c.times-y.result y (small_mul m.y q.b)) (lit< tt)

pub plus-requires-2 : goal.plus-requires-2
plus-requires-2 c =
    let q = c.requires in let m = c.args.m.now.valid in
    let x = c.times-x.ensures ∙ ap (λ (k : ℤ). value_of c.args.m.now.x *ℤ k) (exact (q.a & done) (wide 0) tt) in
    let y = c.times-y.ensures ∙ ap (λ (k : ℤ). value_of c.args.m.now.y *ℤ k) (exact (q.b & done) (wide 0) tt) in
    let z = c.times-z.ensures ∙ ap (λ (k : ℤ). value_of c.args.m.now.z *ℤ k) (exact (q.c & done) (wide 0) tt) in
    let one = sum_within c.times-x.result c.times-y.result c.plus.result c.plus.ensures
    (within c.times-x.result x (small_mul m.x q.a)) (within c.times-y.result y (small_mul m.y q.b)) in
    sum_fits c.plus.result c.times-z.result one (within c.times-z.result z (small_mul m.z q.c)) (lit< tt)

pub plus-requires-3 : goal.plus-requires-3
plus-requires-3 c =
    let q = c.requires in let m = c.args.m.now.valid in
    let x = c.times-x.ensures ∙ ap (λ (k : ℤ). value_of c.args.m.now.x *ℤ k) (exact (q.a & done) (wide 0) tt) in
    let y = c.times-y.ensures ∙ ap (λ (k : ℤ). value_of c.args.m.now.y *ℤ k) (exact (q.b & done) (wide 0) tt) in
    let z = c.times-z.ensures ∙ ap (λ (k : ℤ). value_of c.args.m.now.z *ℤ k) (exact (q.c & done) (wide 0) tt) in
    let d = c.product-d.ensures ∙ exact (q.d & m.w & done) (stored w128 (number (pos 0) ⊟ wide 0) ⊠ kept 1) tt in
    let one = sum_within c.times-x.result c.times-y.result c.plus.result c.plus.ensures
    (within c.times-x.result x (small_mul m.x q.a)) (within c.times-y.result y (small_mul m.y q.b)) in
    let two = sum_within c.plus.result c.times-z.result c.plus-2.result c.plus-2.ensures one (within c.times-z.result z (small_mul m.z q.c)) in
    sum_fits c.plus-2.result c.product-d.result two (within c.product-d.result d (small_mul (small_sub nil q.d) m.w)) (lit< tt)

order : (a x b y c z d w : ℤ) → x *ℤ a +ℤ y *ℤ b +ℤ z *ℤ c +ℤ (pos 0 -ℤ d) *ℤ w ≡ a *ℤ x +ℤ b *ℤ y +ℤ c *ℤ z -ℤ d *ℤ w
order a x b y c z d w =
    solve 8 (λ a x b y c z d w. x ⊗ a ⊕ y ⊗ b ⊕ z ⊗ c ⊕ (num (pos 0) ⊖ d) ⊗ w ≈ a ⊗ x ⊕ b ⊗ y ⊕ c ⊗ z ⊖ d ⊗ w) cancels a x b y c z d w

pub returns : goal.returns
returns c =
    let q = c.requires in let m = c.args.m.now.valid in
    let x = c.times-x.ensures ∙ ap (λ (k : ℤ). value_of c.args.m.now.x *ℤ k) (exact (q.a & done) (wide 0) tt) in
    let y = c.times-y.ensures ∙ ap (λ (k : ℤ). value_of c.args.m.now.y *ℤ k) (exact (q.b & done) (wide 0) tt) in
    let z = c.times-z.ensures ∙ ap (λ (k : ℤ). value_of c.args.m.now.z *ℤ k) (exact (q.c & done) (wide 0) tt) in
    let d = c.product-d.ensures ∙ exact (q.d & m.w & done) (stored w128 (number (pos 0) ⊟ wide 0) ⊠ kept 1) tt in
    let f = c.args.p.now in let s = c.args.m.now in
    c.sign.ensures ∙ ap sgn (c.plus-3.ensures ∙ rw (c.plus-2.ensures, c.plus.ensures, x, y, z, d) refl
    ∙ order f.a (value_of s.x) f.b (value_of s.y) f.c (value_of s.z) f.d s.w)
