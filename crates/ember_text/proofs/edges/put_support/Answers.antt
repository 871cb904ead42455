use Rattle.std.proofs.Common.{◌≡◌, ℕ, ◌<◌, ℤ, pos, ◌∷◌, [], ◌++◌, subst, OnOk, to_z-of_z, arith}
use mir.Syntax.{w128}
use mir.Val.{to_z}
use Rattle.ember_algebra.specs.Size.{Small}
use Rattle.ember_algebra.proofs.Exact.{wide, ◌&◌, done, exact}
use Rattle.ember_algebra.proofs.Size.{fits_small}
use Rattle.ember_model.specs.FaceFiles.{line_of}
use Rattle.ember_text.proofs.edges.put_support.Goals as goal

five : {a b c d x a' b' c' d' x' : ℤ} → a ≡ a' → b ≡ b' → c ≡ c' → d ≡ d' → x ≡ x' → a ∷ b ∷ c ∷ d ∷ x ∷ [] ≡ a' ∷ b' ∷ c' ∷ d' ∷ x' ∷ []
five ea eb ec ed ex = λ i. ea i ∷ eb i ∷ ec i ∷ ed i ∷ ex i ∷ []

counted : (n : ℕ) → n < 18446744073709551616 → to_z w128 n ≡ pos n
counted n l =
    let s : Small 18446744073709551616 (pos n) = record { small = omega (arith, l) } in to_z-of_z (fits_small w128 s tt)

pub returns : goal.returns
returns c =
    let p = c.requires in
    let e = five (exact (p.a & done) (wide 0) tt) (exact (p.b & done) (wide 0) tt) (exact (p.c & done) (wide 0) tt)
    (exact (p.d & done) (wide 0) tt) (counted c.args.count c.ranges.count.fits) in
    record {
      ok = subst (λ ns. OnOk c.put_line.result
          (c.put_line.new.out.items ≡ c.args.out.now.items ++ line_of (102 ∷ []) ns)) e c.put_line.ensures.ok;
      fault =
          c.put_line.ensures.fault;
    }
