-- Inside points fill a face: if one lies on a plane and another above it, the plane cuts the
-- face.
use Rattle.std.proofs.Common.{◌≡◌, refl, sym, ◌∙◌, arith, ℕ, le_refl, true, ◌&&◌, List, [], ◌∷◌, pos, ◌+ℤ◌, ◌-ℤ◌, ◌*ℤ◌, neg_ℤ, ◌<ℤ◌}
use Rattle.std.proofs.lemmas.List.Folds.{list_all-append}
use Rattle.std.proofs.lemmas.Bool.{and_parts}
use Rattle.ember_algebra.specs.Large.{Eventually}
use Rattle.ember_algebra.specs.Sign.{is_negative}
use Rattle.ember_algebra.proofs.Laws.{linear}
use Rattle.ember_algebra.proofs.Large.{eventually_both, eventually_map, eventually_pos}
use Rattle.ember_algebra.proofs.Order.{by_sign}
use Rattle.ember_algebra.proofs.Ring.{◌⊕◌, ◌⊖◌, ◌⊗◌, ◌≈◌, neg, solve, cancels}
use Rattle.ember_model.specs.declared.plane.Plane.{Plane}
use Rattle.ember_model.specs.declared.point.Spot.{Spot}
use Rattle.ember_model.specs.declared.face.Face.{Face}
use Rattle.ember_model.specs.Planes.{value_at, opposite}
use Rattle.ember_model.specs.Faces.{is_inside, below, Everywhere, Cuts}
use Rattle.ember_model.specs.ClearTest.{all_negative}
use Rattle.ember_model.proofs.SignTests.{negative_in, negative_out, positive_in, positive_out, zero_times}
use Rattle.ember_model.proofs.Hits.{inside_on, inside_parts}
use Rattle.ember_model.proofs.PlaneValues.{value-opposite}

-- ---- a plane appended
pub inside_below : (f : Face) (p : Plane) (v : Spot) → is_inside (below f p) v ≡ true → (is_inside f v ≡ true) × (is_negative (value_at p v) ≡ true)
inside_below f p v h =
    let i = inside_parts (below f p) v h in
    let e = and_parts (all_negative f.edges v) (is_negative (value_at p v) && true)
    (sym (list_all-append (λ e. is_negative (value_at e v)) f.edges (p ∷ [])) ∙ i.2) in
    (inside_on f v (positive_in i.0) i.1 ∙ e.0, (and_parts (is_negative (value_at p v)) true e.1).0)

-- ---- n y - x
abbrev past : ℕ → Spot → Spot → Spot
past n y x =
    record { x = y.x *ℤ pos n -ℤ x.x; y = y.y *ℤ pos n -ℤ x.y; z = y.z *ℤ pos n -ℤ x.z; w = y.w *ℤ pos n -ℤ x.w }

value_past : (p : Plane) (n : ℕ) (y x : Spot) → value_at p (past n y x) ≡ value_at p y *ℤ pos n -ℤ value_at p x
value_past p n y x =
    solve 13 (λ a b c d m x y z w s t u v. a ⊗ (x ⊗ m ⊖ s) ⊕ b ⊗ (y ⊗ m ⊖ t) ⊕ c ⊗ (z ⊗ m ⊖ u) ⊖ d ⊗ (w ⊗ m ⊖ v) ≈
    (a ⊗ x ⊕ b ⊗ y ⊕ c ⊗ z ⊖ d ⊗ w) ⊗ m ⊖ (a ⊗ s ⊕ b ⊗ t ⊕ c ⊗ u ⊖ d ⊗ v)) cancels p.a p.b p.c p.d (pos n) y.x y.y y.z
    y.w x.x x.y x.z x.w

edges_past : (es : List Plane) (y x : Spot) → all_negative es y ≡ true → Eventually (λ n. all_negative es (past n y x) ≡ true)
edges_past [] y x h = record { from = 0; holds = λ n l. refl }
edges_past (e ∷ es) y x h =
    let t = and_parts (is_negative (value_at e y)) (all_negative es y) h in let s = negative_out (value_at e y) t.0 in
    let up : pos 0 <ℤ neg_ℤ (value_at e y) = omega (arith, linear, s) in
    eventually_map (λ n q. let a = negative_in (below_zero n q.0) in let b = q.1 in
    λ i. a i && b i) (eventually_both (eventually_pos (value_at e x) up) (edges_past es y x t.1))
  where
    below_zero : (n : ℕ) → pos 0 <ℤ (neg_ℤ (value_at e y) *ℤ pos n +ℤ value_at e x) → value_at e (past n y x) <ℤ pos 0
    below_zero n q =
        omega (arith, linear, q, value_past e n y x, solve 2 (λ a m. neg a ⊗ m ≈ neg (a ⊗ m)) cancels (value_at e y) (pos n))

-- for all large n it is inside if y and x are
inside_past : (f : Face) (x y : Spot) → is_inside f x ≡ true → is_inside f y ≡ true → Eventually (λ n. is_inside f (past n y x) ≡ true)
inside_past f x y hx hy =
    let i = inside_parts f x hx in let j = inside_parts f y hy in
    eventually_map (λ n h. inside_on f (past n y x) (positive_in (let w = h.0 in omega (arith, linear, w))) (let e =
    value_past f.support n y x in let z = zero_times (value_at f.support y) (pos n) j.1 in let o = i.1 in
    omega (arith, linear, e, z, o)) ∙ h.1) (eventually_both (eventually_pos (neg_ℤ x.w) j.0)
    (edges_past f.edges y x j.2))

-- a plane that is above one inside point and contains another cuts the face
pub plane_at_inside_point_cuts : (f : Face) (p : Plane) (x y : Spot) → is_inside f x ≡ true → is_inside f y ≡ true →
    pos 0 <ℤ value_at p x → value_at p y ≡ pos 0 → Cuts f p
plane_at_inside_point_cuts f p x y hx hy px zy =
    let far = inside_past f x y hx hy in let n = far.from in
    let e = value_past p n y x in let z = zero_times (value_at p y) (pos n) zy in
    record {
      some_below = record {
        at = past n y x;
        inside = far.holds n (le_refl n);
        holds =
            negative_in (omega (arith, linear, e, z, px));
      };
      some_above =
          record { at = x; inside = hx; holds = positive_in px };
    }

-- what a plane doesn't cut lies on it if one inside point does
pub uncut_flat : (f : Face) (p : Plane) → (Cuts f p → ⊥) → (v : Spot) → is_inside f v ≡ true → value_at p v ≡ pos 0 → Everywhere f (λ u. value_at p u ≡ pos 0)
uncut_flat f p uncut v i z =
    record {
      holds = λ u j. by_sign (value_at p u) (λ l. absurd (uncut (plane_at_inside_point_cuts f p u v j i l z)))
          (λ e. e) (λ l. absurd (uncut (turned (plane_at_inside_point_cuts f (opposite p) u v j i (let e =
          value-opposite p u in omega (arith, linear, e, l)) (let e = value-opposite p v in omega (arith, linear, e, z))))));
    }
  where
    turned : Cuts f (opposite p) → Cuts f p
    turned c =
        record {
          some_below = record {
            at = c.some_above.at;
            inside = c.some_above.inside;
            holds =
                negative_in (let l = positive_out (value_at (opposite p) c.some_above.at) c.some_above.holds in let e =
                value-opposite p c.some_above.at in omega (arith, linear, l, e));
          };
          some_above =
              record {
                at = c.some_below.at;
                inside = c.some_below.inside;
                holds =
                    positive_in (let l = negative_out (value_at (opposite p) c.some_below.at) c.some_below.holds in let e =
                    value-opposite p c.some_below.at in omega (arith, linear, l, e));
              };
        }
