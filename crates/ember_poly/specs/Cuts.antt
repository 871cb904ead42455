-- On which sides of a plane a face lies, and its two parts
use Rattle.std.specs.Prelude.{◌≡◌, true, ⊤}
use Rattle.ember_algebra.specs.Sign.{is_negative, is_zero, is_positive}
use Rattle.ember_model.specs.declared.plane.Plane.{Plane}
use Rattle.ember_model.specs.declared.point.Spot.{Spot}
use Rattle.ember_model.specs.declared.face.Face.{Face}
use Rattle.ember_model.specs.Planes.{value_at}
use Rattle.ember_model.specs.Faces.{Somewhere, Everywhere, Cuts, below, above}
use Rattle.ember_poly.specs.declared.reach_and_cut.Reach.{Reach}
use Rattle.ember_poly.specs.declared.reach_and_cut.Reach.TheVariants as reach
use Rattle.ember_poly.specs.declared.reach_and_cut.Cut.{Cut}
use Rattle.ember_poly.specs.declared.reach_and_cut.Cut.TheVariants as cut

-- f has an inside point
abbrev pub HasInside : Face → Type 0
HasInside f = Somewhere f (λ v. ⊤)

-- f has inside points, and each of them has the property
pub record IsWhole (f : Face) (P : Spot → Type 0) : Type 0 where
  pub somewhere : Somewhere f P
  pub everywhere : Everywhere f P

-- on which sides of the plane the inside points lie
abbrev pub IsReach : Face → Plane → Reach → Type 0
IsReach f p reach.Below = IsWhole f (λ v. is_negative (value_at p v) ≡ true)
IsReach f p reach.Above = IsWhole f (λ v. is_positive (value_at p v) ≡ true)
IsReach f p reach.On = IsWhole f (λ v. is_zero (value_at p v) ≡ true)
IsReach f p reach.Both = Cuts f p

-- on which sides of the plane f lies, and what is left of it: the part below if the plane cuts it
abbrev pub IsClip : Face → Plane → Reach → Face → Type 0
IsClip f p reach.Below g = IsReach f p reach.Below × (g ≡ f)
IsClip f p reach.Above g = IsReach f p reach.Above × (g ≡ f)
IsClip f p reach.On g = IsReach f p reach.On × (g ≡ f)
IsClip f p reach.Both g = Cuts f p × (g ≡ below f p)

-- the plane cuts f, and these are the parts below it and above it
pub record AreParts (f : Face) (p : Plane) (low high : Face) : Type 0 where
  pub cuts : Cuts f p
  pub is_low : low ≡ below f p
  pub is_high : high ≡ above f p

-- the side on which all of f lies, or its two parts
abbrev pub IsCut : {W M : Type 0} → Face → Plane → Cut W M → Type 0
IsCut f p cut.Below = IsReach f p reach.Below
IsCut f p cut.Above = IsReach f p reach.Above
IsCut f p cut.On = IsReach f p reach.On
IsCut f p (cut.Both low high) = AreParts f p low high
