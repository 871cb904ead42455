-- Tables whose entries have numbers
use Rattle.std.specs.Prelude.{◌≡◌, ◌⊎◌, ℕ, Bool, ◌&&◌, List, [], ◌∷◌, ◌++◌, Some, slice_get}
use Rattle.std.specs.Ordering.{int_eq}
use Rattle.ember_model.specs.declared.plane.Plane.{Plane}
use Rattle.mesh_certificate.specs.declared.key.lines.LineKey.{LineKey}
use Rattle.mesh_point.specs.declared.space_point.SpacePoint.{SpacePoint}
use Rattle.mesh_solid.specs.declared.tables.plane_entry.PlaneEntry.{PlaneEntry}

-- ---- entries by numbers
-- the entry with the number n has the property
pub record HasEntry {X : Type 0} (xs : List X) (n : ℕ) (P : X → Type 0) : Type 0 where
  pub entry : X
  pub here : slice_get xs n ≡ Some entry
  pub holds : P entry

-- no two entries have the same value of f
pub record AreDistinct {X Y : Type 0} (f : X → Y) (xs : List X) : Type 0 where
  pub each : (i j : ℕ) (x y : X) → slice_get xs i ≡ Some x → slice_get xs j ≡ Some y → f x ≡ f y → i ≡ j

-- ys is xs, or xs and then x
abbrev pub IsKeptOrPut : {X : Type 0} → X → List X → List X → Type 0
IsKeptOrPut x xs ys = (ys ≡ xs) ⊎ (ys ≡ xs ++ x ∷ [])

-- ---- planes as entries
abbrev pub entry_of : Plane → PlaneEntry
entry_of p = record { a = p.a; b = p.b; c = p.c; d = p.d }

abbrev pub plane_of : PlaneEntry → Plane
plane_of e = record { a = e.a; b = e.b; c = e.c; d = e.d }

-- ---- equal entries, as tests
abbrev pub same_entry : PlaneEntry → PlaneEntry → Bool
same_entry e f = int_eq e.a f.a && (int_eq e.b f.b && (int_eq e.c f.c && int_eq e.d f.d))

abbrev pub same_line : LineKey → LineKey → Bool
same_line k l =
    int_eq k.dx l.dx &&
    (int_eq k.dy l.dy && (int_eq k.dz l.dz && (int_eq k.mx l.mx && (int_eq k.my l.my && int_eq k.mz l.mz))))

abbrev pub same_corner : SpacePoint → SpacePoint → Bool
same_corner p q =
    int_eq p.floor_x q.floor_x &&
    (int_eq p.floor_y q.floor_y &&
    (int_eq p.floor_z q.floor_z &&
    (int_eq p.x q.x && (int_eq p.y q.y && (int_eq p.z q.z && int_eq p.w q.w)))))
