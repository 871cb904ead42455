-- The terms of the three edges of a flat triangle add up to 0: by the signs, and for corners that are integer vectors.
use Rattle.std.proofs.Common.{◌≡◌, arith, Bool, T, [], ◌∷◌, pos, ◌+ℤ◌, ◌-ℤ◌, ◌*ℤ◌, neg_ℤ}
use Rattle.ember_algebra.specs.Sign.{Sign, sgn, times, same_sgn}
use Rattle.ember_algebra.specs.Vector.{Vector, dot, cross, normal}
use Rattle.ember_algebra.proofs.Laws.{linear}
use Rattle.ember_algebra.proofs.Ring.{◌⊖◌, ◌⊗◌, ◌≈◌, cancels}
use Rattle.ember_algebra.proofs.Vectors.{vector, identity, dotE, crossE, normalE}
use Rattle.ember_algebra.proofs.Signs.{◌and◌, both, same_z, same_z_out, zero_sum, may_sum, sum_may, sgn-neg}
use Rattle.ember_algebra.proofs.Signs.{same_products, step_may, signs, every, given, use_given}
use Rattle.ember_algebra.proofs.Identities.{dot_zero}
use Rattle.ember_algebra.proofs.Quadrant.{edge}
use Rattle.ember_algebra.proofs.QuadrantLaw.{edge_term}

-- ---- by the signs
-- the levels of the corners along h, and the steps a, b, c between them
abbrev levels : Sign → Sign → Sign → Sign → Sign → Sign → Bool
levels hu hv hw a b c = may_sum hu a hv and may_sum hv b hw and may_sum hw c hu and zero_sum a b c

-- the edges' cross products along a direction are in proportion to the steps
abbrev along : Sign → Sign → Sign → Sign → Sign → Sign → Bool
along a b c u v t =
    same_sgn (times b u) (times a v) and same_sgn (times c v) (times b t) and same_sgn (times a t) (times c u)

abbrev inner : Sign → Sign → Sign → Sign → Sign → Sign → Sign → Sign → Sign → Bool
inner hu hv hw a b c uf vf tf =
    given (along a b c uf vf tf) (λ e. every 3 (λ ug vg tg. given (along a b c ug vg tg)
    (λ e. same_z (edge hu hv uf ug +ℤ edge hv hw vf vg +ℤ edge hw hu tf tg) (pos 0))))

abbrev outer : Sign → Sign → Sign → Sign → Sign → Sign → Bool
outer hu hv hw a b c =
    given (levels hu hv hw a b c) (λ e. every 3 (λ uf vf tf. inner hu hv hw a b c uf vf tf))

flat_law : (hu hv hw a b c uf vf tf ug vg tg : Sign) → T (levels hu hv hw a b c) → T (along a b c uf vf tf) →
    T (along a b c ug vg tg) → edge hu hv uf ug +ℤ edge hv hw vf vg +ℤ edge hw hu tf tg ≡ pos 0
flat_law hu hv hw a b c uf vf tf ug vg tg p q r =
    let x = use_given (levels hu hv hw a b c) (λ e. every 3 (λ uf vf tf. inner hu hv hw a b c uf vf tf))
    (signs 6 (λ hu hv hw a b c. outer hu hv hw a b c) tt hu hv hw a b c) p in
    let y = use_given (along a b c uf vf tf) (λ e. every 3
    (λ ug vg tg. given (along a b c ug vg tg) (λ e. same_z (edge hu hv uf ug +ℤ edge hv hw vf vg +ℤ edge hw hu tf tg)
    (pos 0)))) (signs 3 (λ uf vf tf. inner hu hv hw a b c uf vf tf) x uf vf tf) q in
    same_z_out _ _ (use_given (along a b c ug vg tg)
    (λ e. same_z (edge hu hv uf ug +ℤ edge hv hw vf vg +ℤ edge hw hu tf tg) (pos 0))
    (signs 3 (λ ug vg tg. given (along a b c ug vg tg)
    (λ e. same_z (edge hu hv uf ug +ℤ edge hv hw vf vg +ℤ edge hw hu tf tg) (pos 0))) y ug vg tg) r)

-- ---- for integer vectors
-- the normal is 0
pub record Flat (u v w : Vector) : Type 0 where
  pub x : (normal u v w).x ≡ pos 0
  pub y : (normal u v w).y ≡ pos 0
  pub z : (normal u v w).z ≡ pos 0

flat_turn : {u v w : Vector} → Flat u v w → Flat v w u
flat_turn p = record { x = omega (arith, linear, p.x); y = omega (arith, linear, p.y); z = omega (arith, linear, p.z) }

slopes : (u v w f h : Vector) → Flat u v w → (dot h w -ℤ dot h v) *ℤ dot f (cross u v) ≡ (dot h v -ℤ dot h u) *ℤ dot f (cross v w)
slopes u v w f h p =
    let q = identity (vector ∷ vector ∷ vector ∷ vector ∷ vector ∷ [])
    (λ u v w f h. (dotE h w ⊖ dotE h v) ⊗ dotE f (crossE u v) ⊖ (dotE h v ⊖ dotE h u) ⊗ dotE f (crossE v w) ≈ dotE
    (crossE (crossE f v) h) (normalE u v w)) cancels u v w f h in
    omega (arith, linear, q, dot_zero (cross (cross f v) h) (normal u v w) p.x p.y p.z)

along_from : (u v w f h : Vector) → Flat u v w →
    T (along (sgn (dot h v -ℤ dot h u)) (sgn (dot h w -ℤ dot h v)) (sgn (dot h u -ℤ dot h w)) (sgn (dot f (cross u v)))
    (sgn (dot f (cross v w))) (sgn (dot f (cross w u))))
along_from u v w f h p =
    let q = flat_turn p in
    both _ _ (same_products (dot h w -ℤ dot h v) (dot f (cross u v)) (dot h v -ℤ dot h u) (dot f (cross v w)) (slopes u v w f h p))
    (both _ _ (same_products (dot h u -ℤ dot h w) (dot f (cross v w)) (dot h w -ℤ dot h v) (dot f (cross w u)) (slopes v w u f h q))
    (same_products (dot h v -ℤ dot h u) (dot f (cross w u)) (dot h u -ℤ dot h w) (dot f (cross u v)) (slopes w u v f h (flat_turn q))))

-- the terms of the three edges of a flat triangle, for two directions f and g, add up to 0
pub flat : (u v w f g h : Vector) → Flat u v w → edge_term h f g u v +ℤ edge_term h f g v w +ℤ edge_term h f g w u ≡ pos 0
flat u v w f g h p =
    let a = dot h v -ℤ dot h u in let b = dot h w -ℤ dot h v in let c = dot h u -ℤ dot h w in
    let z : a +ℤ b ≡ neg_ℤ c = omega (arith, linear) in
    flat_law (sgn (dot h u)) (sgn (dot h v)) (sgn (dot h w)) (sgn a) (sgn b) (sgn c) _ _ _ _ _ _
    (both _ _ (step_may (dot h u) (dot h v)) (both _ _ (step_may (dot h v) (dot h w))
    (both _ _ (step_may (dot h w) (dot h u)) (rw (← sgn-neg c, ← z) (sum_may a b))))) (along_from u v w f h p)
    (along_from u v w g h p)
