-- The meet of three planes lies on them, also if it is that of two planes with a level.
use Rattle.std.proofs.Common.{◌≡◌, sym, subst, ap, ◌∙◌, Bool, true, false, ℤ, pos, negsuc, ◌-ℤ◌, ◌*ℤ◌, ◌<ℤ◌}
use Rattle.ember_algebra.specs.Vector.{det}
use Rattle.ember_algebra.proofs.Ring.{◌⊕◌, ◌⊖◌, ◌⊗◌, ◌≈◌, neg, num, solve, cancels}
use Rattle.ember_model.specs.declared.point.Axis.{Axis}
use Rattle.ember_model.specs.declared.point.Axis.TheVariants.{X, Y, Z}
use Rattle.ember_model.specs.declared.point.Spot.{Spot}
use Rattle.ember_model.specs.declared.plane.Plane.{Plane}
use Rattle.ember_model.specs.Planes.{value_at}
use Rattle.ember_model.specs.Edges.{normal}
use Rattle.ember_point.specs.Points.{meet_of}
use Rattle.ember_point.proofs.Meets.{on_first as on_first_of, on_second as on_second_of, on_third as on_third_of}
use Rattle.ember_poly.specs.Rings.{IsMeet, orientation}
use Rattle.ember_width.specs.Levels.{turn_at, level_meet}
use Rattle.ember_width.proofs.Along.{along_x, along_y, along_z}
use Rattle.ember_poly.specs.Levels.{FacesAt, IsLevel}

-- ---- on the first plane
on_first : (k : Axis) (t : ℤ) (p q : Plane) → value_at p (level_meet k t p q) ≡ pos 0
on_first X t p q =
    solve 9 (λ t a b c d e f g h. let w = b ⊗ g ⊖ c ⊗ f in let m = d ⊖ a ⊗ t in let n = h ⊖ e ⊗ t in
    a ⊗ (t ⊗ w) ⊕ b ⊗ (m ⊗ g ⊖ c ⊗ n) ⊕ c ⊗ (n ⊗ b ⊖ f ⊗ m) ⊖ d ⊗ w ≈ num (pos 0)) cancels t p.a p.b p.c p.d q.a q.b
    q.c q.d
on_first Y t p q =
    solve 9 (λ t a b c d e f g h. let w = c ⊗ e ⊖ a ⊗ g in let m = d ⊖ b ⊗ t in let n = h ⊖ f ⊗ t in
    a ⊗ (n ⊗ c ⊖ g ⊗ m) ⊕ b ⊗ (t ⊗ w) ⊕ c ⊗ (m ⊗ e ⊖ a ⊗ n) ⊖ d ⊗ w ≈ num (pos 0)) cancels t p.a p.b p.c p.d q.a q.b
    q.c q.d
on_first Z t p q =
    solve 9 (λ t a b c d e f g h. let w = a ⊗ f ⊖ b ⊗ e in let m = d ⊖ c ⊗ t in let n = h ⊖ g ⊗ t in
    a ⊗ (m ⊗ f ⊖ b ⊗ n) ⊕ b ⊗ (n ⊗ a ⊖ e ⊗ m) ⊕ c ⊗ (t ⊗ w) ⊖ d ⊗ w ≈ num (pos 0)) cancels t p.a p.b p.c p.d q.a q.b
    q.c q.d

-- ---- on the second plane
on_second : (k : Axis) (t : ℤ) (p q : Plane) → value_at q (level_meet k t p q) ≡ pos 0
on_second X t p q =
    solve 9 (λ t a b c d e f g h. let w = b ⊗ g ⊖ c ⊗ f in let m = d ⊖ a ⊗ t in let n = h ⊖ e ⊗ t in
    e ⊗ (t ⊗ w) ⊕ f ⊗ (m ⊗ g ⊖ c ⊗ n) ⊕ g ⊗ (n ⊗ b ⊖ f ⊗ m) ⊖ h ⊗ w ≈ num (pos 0)) cancels t p.a p.b p.c p.d q.a q.b
    q.c q.d
on_second Y t p q =
    solve 9 (λ t a b c d e f g h. let w = c ⊗ e ⊖ a ⊗ g in let m = d ⊖ b ⊗ t in let n = h ⊖ f ⊗ t in
    e ⊗ (n ⊗ c ⊖ g ⊗ m) ⊕ f ⊗ (t ⊗ w) ⊕ g ⊗ (m ⊗ e ⊖ a ⊗ n) ⊖ h ⊗ w ≈ num (pos 0)) cancels t p.a p.b p.c p.d q.a q.b
    q.c q.d
on_second Z t p q =
    solve 9 (λ t a b c d e f g h. let w = a ⊗ f ⊖ b ⊗ e in let m = d ⊖ c ⊗ t in let n = h ⊖ g ⊗ t in
    e ⊗ (m ⊗ f ⊖ b ⊗ n) ⊕ f ⊗ (n ⊗ a ⊖ e ⊗ m) ⊕ g ⊗ (t ⊗ w) ⊖ h ⊗ w ≈ num (pos 0)) cancels t p.a p.b p.c p.d q.a q.b
    q.c q.d

-- ---- on the level
flat : (up : Bool) (n d t w : ℤ) → FacesAt up t n d → n *ℤ (t *ℤ w) -ℤ d *ℤ w ≡ pos 0
flat true n d t w h = rw (h.0, h.1) (solve 2 (λ t w. num (pos 1) ⊗ (t ⊗ w) ⊖ t ⊗ w ≈ num (pos 0)) cancels t w)
flat false n d t w h = rw (h.0, h.1) (solve 2 (λ t w. num (negsuc 0) ⊗ (t ⊗ w) ⊖ neg t ⊗ w ≈ num (pos 0)) cancels t w)

on_level : (k : Axis) (t : ℤ) (up : Bool) (p q r : Plane) → IsLevel k t up r → value_at r (level_meet k t p q) ≡ pos 0
on_level X t up p q r h = sym (along_x r (level_meet X t p q) h.0) ∙ flat up r.a r.d t (turn_at X p q) h.1
on_level Y t up p q r h = sym (along_y r (level_meet Y t p q) h.0) ∙ flat up r.b r.d t (turn_at Y p q) h.1
on_level Z t up p q r h = sym (along_z r (level_meet Z t p q) h.0) ∙ flat up r.c r.d t (turn_at Z p q) h.1

-- ---- how the lines of two planes turn
up_is : (k : Axis) (t : ℤ) (p q r : Plane) → IsLevel k t true r → orientation p q r ≡ turn_at k p q
up_is X t p q r h =
    (λ i. det (normal p) (normal q) (record { x = h.1.0 i; y = h.0.0 i; z = h.0.1 i }))
    ∙ solve 6 (λ a b c e f g. a ⊗ (f ⊗ num (pos 0) ⊖ g ⊗ num (pos 0)) ⊕ b ⊗ (g ⊗ num (pos 1) ⊖ e ⊗ num (pos 0)) ⊕ c ⊗
    (e ⊗ num (pos 0) ⊖ f ⊗ num (pos 1)) ≈ b ⊗ g ⊖ c ⊗ f) cancels p.a p.b p.c q.a q.b q.c
up_is Y t p q r h =
    (λ i. det (normal p) (normal q) (record { x = h.0.0 i; y = h.1.0 i; z = h.0.1 i }))
    ∙ solve 6 (λ a b c e f g. a ⊗ (f ⊗ num (pos 0) ⊖ g ⊗ num (pos 1)) ⊕ b ⊗ (g ⊗ num (pos 0) ⊖ e ⊗ num (pos 0)) ⊕ c ⊗
    (e ⊗ num (pos 1) ⊖ f ⊗ num (pos 0)) ≈ c ⊗ e ⊖ a ⊗ g) cancels p.a p.b p.c q.a q.b q.c
up_is Z t p q r h =
    (λ i. det (normal p) (normal q) (record { x = h.0.0 i; y = h.0.1 i; z = h.1.0 i }))
    ∙ solve 6 (λ a b c e f g. a ⊗ (f ⊗ num (pos 1) ⊖ g ⊗ num (pos 0)) ⊕ b ⊗ (g ⊗ num (pos 0) ⊖ e ⊗ num (pos 1)) ⊕ c ⊗
    (e ⊗ num (pos 0) ⊖ f ⊗ num (pos 0)) ≈ a ⊗ f ⊖ b ⊗ e) cancels p.a p.b p.c q.a q.b q.c

down_is : (k : Axis) (t : ℤ) (p q r : Plane) → IsLevel k t false r → orientation p q r ≡ turn_at k q p
down_is X t p q r h =
    (λ i. det (normal p) (normal q) (record { x = h.1.0 i; y = h.0.0 i; z = h.0.1 i }))
    ∙ solve 6 (λ a b c e f g. a ⊗ (f ⊗ num (pos 0) ⊖ g ⊗ num (pos 0)) ⊕ b ⊗ (g ⊗ num (negsuc 0) ⊖ e ⊗ num (pos 0)) ⊕ c
    ⊗ (e ⊗ num (pos 0) ⊖ f ⊗ num (negsuc 0)) ≈ f ⊗ c ⊖ g ⊗ b) cancels p.a p.b p.c q.a q.b q.c
down_is Y t p q r h =
    (λ i. det (normal p) (normal q) (record { x = h.0.0 i; y = h.1.0 i; z = h.0.1 i }))
    ∙ solve 6 (λ a b c e f g. a ⊗ (f ⊗ num (pos 0) ⊖ g ⊗ num (negsuc 0)) ⊕ b ⊗ (g ⊗ num (pos 0) ⊖ e ⊗ num (pos 0)) ⊕ c
    ⊗ (e ⊗ num (negsuc 0) ⊖ f ⊗ num (pos 0)) ≈ g ⊗ a ⊖ e ⊗ c) cancels p.a p.b p.c q.a q.b q.c
down_is Z t p q r h =
    (λ i. det (normal p) (normal q) (record { x = h.0.0 i; y = h.0.1 i; z = h.1.0 i }))
    ∙ solve 6 (λ a b c e f g. a ⊗ (f ⊗ num (negsuc 0) ⊖ g ⊗ num (pos 0)) ⊕ b ⊗ (g ⊗ num (pos 0) ⊖ e ⊗ num (negsuc 0))
    ⊕ c ⊗ (e ⊗ num (pos 0) ⊖ f ⊗ num (pos 0)) ≈ e ⊗ b ⊖ f ⊗ a) cancels p.a p.b p.c q.a q.b q.c

-- ---- as a passage needs them
-- planes that turn counter-clockwise with a level that faces up have lines in it that do
pub turns_up : (k : Axis) (t : ℤ) (p q r : Plane) → IsLevel k t true r → pos 0 <ℤ orientation p q r → pos 0 <ℤ turn_at k p q
turns_up k t p q r h l = subst (λ z. pos 0 <ℤ z) (up_is k t p q r h) l

-- with a level that faces down, the lines turn the other way
pub turns_down : (k : Axis) (t : ℤ) (p q r : Plane) → IsLevel k t false r → pos 0 <ℤ orientation p q r → pos 0 <ℤ turn_at k q p
turns_down k t p q r h l = subst (λ z. pos 0 <ℤ z) (down_is k t p q r h) l

-- the meet of two planes' lines in a level is the meet of the three planes
pub meets_up : (k : Axis) (t : ℤ) (up : Bool) (p q r : Plane) (v : Spot) → IsLevel k t up r → v ≡ level_meet k t p q → pos 0 <ℤ v.w → IsMeet p q r v
meets_up k t up p q r v h e w =
    record {
      first = ap (value_at p) e ∙ on_first k t p q;
      second = ap (value_at q) e ∙ on_second k t p q;
      third =
          ap (value_at r) e ∙ on_level k t up p q r h;
      weight = w;
    }

-- the same with the two planes exchanged
pub meets_down : (k : Axis) (t : ℤ) (up : Bool) (p q r : Plane) (v : Spot) → IsLevel k t up r → v ≡ level_meet k t q p → pos 0 <ℤ v.w → IsMeet p q r v
meets_down k t up p q r v h e w =
    record {
      first = ap (value_at p) e ∙ on_second k t q p;
      second = ap (value_at q) e ∙ on_first k t q p;
      third =
          ap (value_at r) e ∙ on_level k t up q p r h;
      weight = w;
    }

-- the meet of any three planes
pub meet_is : (p q r : Plane) (v : Spot) → v ≡ meet_of p q r → pos 0 <ℤ v.w → IsMeet p q r v
meet_is p q r v e w =
    record {
      first = ap (value_at p) e ∙ on_first_of p q r;
      second = ap (value_at q) e ∙ on_second_of p q r;
      third =
          ap (value_at r) e ∙ on_third_of p q r;
      weight = w;
    }
