-- Lines: keys in an order, hits on a line, and what is written at them
use Rattle.std.specs.Prelude.{◌≡◌, ℕ, Bool, true, false, not, ◌&&◌, cond, ◌⊎◌, List, ◌∷◌, map, filter, nat_eq, ℤ, pos}
use Rattle.std.specs.Prelude.{◌*ℤ◌, suc, pred, int_lt, neg_ℤ, unsigned_abs}
use Rattle.ember_algebra.specs.Sign.{sign, is_zero}
use Rattle.ember_algebra.specs.Sums.{total}
use Rattle.ember_model.specs.declared.tri.Tri.{Tri}
use Rattle.ember_model.specs.declared.point.Spot.{Spot}
use Rattle.ember_model.specs.declared.point.Axis.{Axis}
use Rattle.ember_model.specs.declared.face.Face.{Face}
use Rattle.ember_model.specs.Planes.{value_at, along}
use Rattle.ember_model.specs.Points.{scaled, moved}
use Rattle.ember_model.specs.Faces.{is_inside, is_flat, face_of, hit}
use Rattle.ember_model.specs.Meshes.{meshes}

-- x is a member of the list
pub data In {X : Type 0} : X → List X → Type 0 where
  here : {x : X} {xs : List X} → In x (x ∷ xs)
  there : {x y : X} {xs : List X} → In x xs → In x (y ∷ xs)

pub record IsOrder {K : Type 0} (before : K → K → Bool) : Type 0 where
  pub irreflexive : (a : K) → before a a ≡ false
  pub transitive : (a b c : K) → before a b ≡ true → before b c ≡ true → before a c ≡ true
  -- if a is before c, each b is after a or before c
  pub between : (a b c : K) → before a c ≡ true → (before a b ≡ true) ⊎ (before b c ≡ true)

-- the sum of the amounts of those that pass
abbrev pub total_of : {W : Type 0} → (W → ℤ) → (W → Bool) → List W → ℤ
total_of amount p ws = total (λ w. cond (p w) (amount w) (pos 0)) ws

module _ {K : Type 0} (before : K → K → Bool) where
  -- those of the list that lie beyond the key, and those not before it
  abbrev pub beyond : {H : Type 0} → (H → K) → K → List H → List H
  beyond key x hs = filter (λ h. before x (key h)) hs

  abbrev pub onward : {H : Type 0} → (H → K) → K → List H → List H
  onward key x hs = filter (λ h. not (before (key h) x)) hs

  -- a and b are one place
  abbrev pub is_same_place : K → K → Bool
  is_same_place a b = not (before a b) && not (before b a)

  -- z is at the place of some key
  pub record Placed (ks : List K) (z : K) : Type 0 where
    pub key : K
    pub member : In key ks
    pub same : is_same_place key z ≡ true

-- num / (den + 1)
pub record Fraction : Type 0 where
  pub num : ℤ
  pub den : ℕ

abbrev pub is_below : Fraction → Fraction → Bool
is_below a b = int_lt (a.num *ℤ pos (suc b.den)) (b.num *ℤ pos (suc a.den))

-- ---- a line: the points p + s / (m + 1) along an axis, each with its fraction
abbrev pub on_line : Axis → Spot → Fraction → Spot
on_line a p y = moved (scaled (pos (suc y.den)) p) a y.num

-- where the line meets the plane of a face
abbrev pub key : Axis → Spot → Face → Fraction
key a p f =
    let n = along f.support a in
    record { num = neg_ℤ (sign n *ℤ value_at f.support p); den = pred (unsigned_abs n) }

-- whether the line meets the inside of a face
abbrev pub is_hit : Axis → Spot → Face → Bool
is_hit a p f = not (is_zero (along f.support a)) && is_inside f (hit f.support a p)

abbrev pub amount : Axis → Face → ℤ
amount a f = sign (along f.support a)

abbrev pub is_tri_hit : Axis → Spot → Tri → Bool
is_tri_hit a p t = not (is_flat t) && is_hit a p (face_of t)

abbrev pub tri_key : Axis → Spot → Tri → Fraction
tri_key a p t = key a p (face_of t)

-- the triangles that the line meets
abbrev pub tri_hits : Axis → Spot → List Tri → List Tri
tri_hits a p ts = filter (is_tri_hit a p) ts

-- the winding numbers of all meshes where these triangles lie ahead
abbrev pub seen : Axis → List Tri → List ℤ
seen a hs =
    map (λ m. total_of (λ t. amount a (face_of t)) (λ t. nat_eq t.mesh m) hs) meshes
