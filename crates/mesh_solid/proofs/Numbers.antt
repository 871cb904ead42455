-- Entries without equals
use Rattle.std.proofs.Common.{◌≡◌, ◌⊎◌, inl, inr, ℕ, ◌<◌, ◌≤◌, Bool, true, false, true≢false, if◌then◌else◌, List, []}
use Rattle.std.proofs.Common.{◌∷◌, ◌++◌, ◌+ℤ◌, ◌*ℤ◌, map, Some, slice_get, sym, ap, ◌∙◌, arith}
use Rattle.std.specs.Bool.{Decides}
use Rattle.std.specs.List.{IsDistinct}
use Rattle.std.proofs.lemmas.Bool.{cases_lt}
use Rattle.std.proofs.lemmas.Bool.Decides.{Decides-like, Decides-and, Decides-int_eq}
use Rattle.std.proofs.lemmas.Option.{get_or_from_slice_get, slice_get_within}
use Rattle.std.proofs.lemmas.Map.Keys.{apart_from_distinct}
use Rattle.ember_model.specs.declared.point.Spot.{Spot}
use Rattle.ember_model.specs.declared.plane.Plane.{Plane}
use Rattle.ember_model.proofs.Tuples.{same_spot}
use Rattle.mesh_certificate.specs.declared.key.lines.LineKey.{LineKey}
use Rattle.mesh_point.specs.declared.space_point.SpacePoint.{SpacePoint}
use Rattle.mesh_certificate.specs.Certificate.Facing.{spot_of}
use Rattle.mesh_solid.specs.declared.tables.plane_entry.PlaneEntry.{PlaneEntry}
use Rattle.mesh_solid.specs.Tables.Numberings.{AreDistinct, IsKeptOrPut, plane_of, same_entry, same_line, same_corner}
use Rattle.mesh_point.proofs.Forms.{points_have_one_form}
use Rattle.mesh_solid.proofs.Lists.{entry_of_map}

-- ---- what the tests decide
plane_from : {e f : PlaneEntry} → e.a ≡ f.a → e.b ≡ f.b → e.c ≡ f.c → e.d ≡ f.d → plane_of e ≡ plane_of f
plane_from a b c d = λ i. record { a = a i; b = b i; c = c i; d = d i }

pub same_entry_decides : (e f : PlaneEntry) → Decides (same_entry e f) (plane_of e ≡ plane_of f)
same_entry_decides e f =
    Decides-like _
    (λ t. plane_from {e = e} {f = f} t.0 t.1.0 t.1.1.0 t.1.1.1)
    (λ s. (ap (λ (p : Plane). p.a) s, (ap (λ (p : Plane). p.b) s, (ap (λ (p : Plane). p.c) s, ap (λ (p : Plane). p.d) s))))
    (Decides-and _ _ (Decides-int_eq e.a f.a) (Decides-and _ _ (Decides-int_eq e.b f.b) (Decides-and _ _ (Decides-int_eq e.c f.c) (Decides-int_eq e.d f.d))))

line_from : {k l : LineKey} → k.dx ≡ l.dx → k.dy ≡ l.dy → k.dz ≡ l.dz → k.mx ≡ l.mx → k.my ≡ l.my → k.mz ≡ l.mz → k ≡ l
line_from a b c d e f =
    λ i. record { dx = a i; dy = b i; dz = c i; mx = d i; my = e i; mz = f i }

pub same_line_decides : (k l : LineKey) → Decides (same_line k l) (k ≡ l)
same_line_decides k l =
    Decides-like _
    (λ t. line_from {k = k} {l = l} t.0 t.1.0 t.1.1.0 t.1.1.1.0 t.1.1.1.1.0 t.1.1.1.1.1)
    (λ s. (
      ap (λ (m : LineKey). m.dx) s,
      (
        ap (λ (m : LineKey). m.dy) s,
        (
          ap (λ (m : LineKey). m.dz) s,
          (
            ap (λ (m : LineKey). m.mx) s,
            (ap (λ (m : LineKey). m.my) s, ap (λ (m : LineKey). m.mz) s),
          ),
        ),
      ),
    ))
    (Decides-and _ _ (Decides-int_eq k.dx l.dx) (Decides-and _ _ (Decides-int_eq k.dy l.dy)
    (Decides-and _ _ (Decides-int_eq k.dz l.dz)
    (Decides-and _ _ (Decides-int_eq k.mx l.mx)
    (Decides-and _ _ (Decides-int_eq k.my l.my) (Decides-int_eq k.mz l.mz))))))

pub same_corner_decides : (p q : SpacePoint) → Decides (same_corner p q) (spot_of p ≡ spot_of q)
same_corner_decides p q =
    Decides-like _
    (λ t. let w = t.1.1.1.1.1.1 in same_spot {u = spot_of p} {v = spot_of q}
    (λ n. t.0 n *ℤ w n +ℤ t.1.1.1.0 n)
    (λ n. t.1.0 n *ℤ w n +ℤ t.1.1.1.1.0 n)
    (λ n. t.1.1.0 n *ℤ w n +ℤ t.1.1.1.1.1.0 n)
    w)
    (λ s. let h = points_have_one_form p q s in
    (h.floor_x, (h.floor_y, (h.floor_z, (h.x, (h.y, (h.z, h.w)))))))
    (Decides-and _ _ (Decides-int_eq p.floor_x q.floor_x) (Decides-and _ _ (Decides-int_eq p.floor_y q.floor_y)
    (Decides-and _ _ (Decides-int_eq p.floor_z q.floor_z) (Decides-and _ _ (Decides-int_eq p.x q.x)
    (Decides-and _ _ (Decides-int_eq p.y q.y) (Decides-and _ _ (Decides-int_eq p.z q.z) (Decides-int_eq p.w q.w)))))))

-- ---- one more entry
pub kept_or_put : {X : Type 0} (b : Bool) (x : X) (xs ys : List X) → ys ≡ (if b then xs else xs ++ x ∷ []) → IsKeptOrPut x xs ys
kept_or_put true x xs ys e = inl e
kept_or_put false x xs ys e = inr e

-- ---- distinct entries
module _ {X Y : Type 0} (same : X → X → Bool) (f : X → Y) (decides : (x y : X) → Decides (same x y) (f x ≡ f y)) (xs : List X) (h : IsDistinct same xs) where
  apart : (i j : ℕ) (x y : X) → i < j → slice_get xs i ≡ Some x → slice_get xs j ≡ Some y → f x ≡ f y → ⊥
  apart i j x y l a b e =
      let d = apart_from_distinct same xs i j x h l (slice_get_within xs j y b) in
      let ga = get_or_from_slice_get xs i x x a in
      let gb = get_or_from_slice_get xs j y x b in
      true≢false (sym ((decides x y).1 e) ∙ sym (λ n. same (ga n) (gb n)) ∙ d)

  pub distinct : AreDistinct f xs
  distinct = record { each = λ i j x y a b e. by i j x y a b e (cases_lt i j) (cases_lt j i) }
    where
      by : (i j : ℕ) (x y : X) → slice_get xs i ≡ Some x → slice_get xs j ≡ Some y → f x ≡ f y → (i < j) ⊎ (j ≤ i) → (j < i) ⊎ (i ≤ j) → i ≡ j
      by i j x y a b e (inl l) r = absurd (apart i j x y l a b e)
      by i j x y a b e (inr l) (inl r) = absurd (apart j i y x r b a (sym e))
      by i j x y a b e (inr l) (inr r) = omega (arith, l, r)

-- the images of entries with distinct images are distinct
pub distinct_images : {X Y : Type 0} (f : X → Y) (xs : List X) → AreDistinct f xs → AreDistinct (λ (y : Y). y) (map f xs)
distinct_images f xs h =
    record { each = λ i j x y a b e. let p = entry_of_map f xs i x a in let q = entry_of_map f xs j y b in h.each i j p.0 q.0 p.1 q.1 (p.2 ∙ e ∙ sym q.2) }
