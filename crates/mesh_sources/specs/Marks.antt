-- Marks of planes: planes with the same points have the same mark
use Rattle.std.specs.Prelude.{◌≡◌, ℤ, pos, ◌+ℤ◌, ◌*ℤ◌, unsigned_abs}
use Rattle.ember_model.specs.declared.plane.Plane.{Plane}
use Rattle.mesh_certificate.specs.Key.PlaneKeys.{IsPlaneKey}

-- the numbers of a plane mixed into one
abbrev pub mixed : Plane → ℤ
mixed p =
    pos 29148763391 *ℤ p.a +ℤ pos 23740125197 *ℤ p.b +ℤ pos 19999999019 *ℤ p.c +ℤ pos 1994371 *ℤ p.d

-- the mark of a plane is the size of its key's numbers, mixed: the same for the plane with the opposite front
pub record HasMark (p : Plane) (mark : ℤ) : Type 0 where
  pub key : Plane
  pub is_key : IsPlaneKey p key
  pub is : mark ≡ pos (unsigned_abs (mixed key))
