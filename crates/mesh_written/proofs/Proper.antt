-- Proper triangles have corners in the table.
use Rattle.std.proofs.Common.{◌≡◌, ℕ, ◌<◌, true, List, length, get_or, Option, Some, None, refl, arith}
use Rattle.std.specs.Prelude.{nat_lt, ◌&&◌, slice_get, is_some}
use Rattle.std.specs.List.{All, list_all}
use Rattle.std.proofs.lemmas.Bool.Decides.{nat_tests}
use Rattle.std.proofs.lemmas.List.Sums.{list_all-from_AllPass}
use Rattle.std.proofs.lemmas.Option.{slice_get_within}
use Rattle.ember_model.specs.declared.plane.Plane.{Plane}
use Rattle.mesh_point.specs.declared.space_point.SpacePoint.{SpacePoint}
use Rattle.mesh_certificate.specs.declared.certificate.triangle.Triangle.{Triangle}
use Rattle.mesh_certificate.specs.Certificate.Certificate.{FacesFrontOf, IsProper}
use Rattle.mesh_written.specs.Triangles.{has_corners}

found : (cs : List SpacePoint) (n : ℕ) (o : Option SpacePoint) → slice_get cs n ≡ o → is_some o ≡ true → n < length cs
found cs n None e h = absurd (cc)
found cs n (Some c) e h = slice_get_within cs n c e

three : (p : Option Plane) (u v w : Option SpacePoint) → FacesFrontOf p u v w → (is_some u ≡ true) × (is_some v ≡ true) × (is_some w ≡ true)
three None u v w h = absurd h
three (Some p) None v w h = absurd h
three (Some p) (Some u) None w h = absurd h
three (Some p) (Some u) (Some v) None h = absurd h
three (Some p) (Some u) (Some v) (Some w) h = (refl, refl, refl)

are_below : (i j k n : ℕ) → i < n → j < n → k < n → (nat_lt i n && (nat_lt j n && nat_lt k n)) ≡ true
are_below i j k n l m o =
    let a : nat_lt i n ≡ true = grind (arith, nat_tests) in
    let b : nat_lt j n ≡ true = grind (arith, nat_tests) in
    let d : nat_lt k n ≡ true = grind (arith, nat_tests) in
    rw (a, b, d) refl

one : (ps : List Plane) (cs : List SpacePoint) (t : Triangle) → IsProper ps cs t → has_corners (length cs) t ≡ true
one ps cs t h =
    let f = three (slice_get ps t.first.plane) (slice_get cs t.first.start) (slice_get cs t.second.start) (slice_get cs t.third.start) h.front in
    are_below t.first.start t.second.start t.third.start (length cs)
    (found cs t.first.start (slice_get cs t.first.start) refl f.0)
    (found cs t.second.start (slice_get cs t.second.start) refl f.1)
    (found cs t.third.start (slice_get cs t.third.start) refl f.2)

-- the corners of proper triangles are in the table
pub proper_corners : (ps : List Plane) (cs : List SpacePoint) (ts : List Triangle) → All (IsProper ps cs) ts → list_all (has_corners (length cs)) ts ≡ true
proper_corners ps cs ts h =
    list_all-from_AllPass (has_corners (length cs)) ts (λ k d l. one ps cs (get_or ts k d) (h k d l))
