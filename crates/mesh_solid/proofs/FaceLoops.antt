-- Sides round faces
use Rattle.std.proofs.Common.{◌≡◌, ◌-◌, List, [], ◌∷◌, length, slice_get, Some, None, refl, sym, ap, ◌∙◌, arith}
use Rattle.std.specs.List.{All}
use Rattle.std.proofs.lemmas.List.Elements.{All-head, All-tail}
use Rattle.std.proofs.lemmas.Option.{none-some, same_Some}
use Rattle.ember_model.specs.declared.plane.Plane.{Plane}
use Rattle.ember_width.specs.Broad.{IsBroadPlane}
use Rattle.mesh_solid.specs.Tables.Edges.{first_or, last_or}

-- ---- the last plane
last_found : (e : Plane) (es : List Plane) → slice_get (e ∷ es) (length es) ≡ Some (last_or e es)
last_found e [] = refl
last_found e (d ∷ ds) = last_found d ds

one_less : (e : Plane) (es : List Plane) → length (e ∷ es) - 1 ≡ length es
one_less e es = omega arith

-- the last plane of a list that has one
pub last_is : (p : Plane) (es : List Plane) (x : Plane) → Some x ≡ slice_get es (length es - 1) → x ≡ last_or p es
last_is p [] x h = absurd (none-some x (sym h))
last_is p (e ∷ es) x h = same_Some x (last_or e es) (h ∙ ap (slice_get (e ∷ es)) (one_less e es) ∙ last_found e es)

-- in a list without planes the given one is taken
pub last_is_none : (p : Plane) (es : List Plane) → None ≡ slice_get es (length es - 1) → p ≡ last_or p es
last_is_none p [] h = refl
last_is_none p (e ∷ es) h = absurd (none-some (last_or e es) (h ∙ ap (slice_get (e ∷ es)) (one_less e es) ∙ last_found e es))

-- ---- planes of the broad grid
-- the first of them
pub broad_first : (p : Plane) (es : List Plane) → IsBroadPlane p → All IsBroadPlane es → IsBroadPlane (first_or p es)
broad_first p [] v h = v
broad_first p (e ∷ es) v h = All-head IsBroadPlane e es h

-- the last one
pub broad_last : (p : Plane) (es : List Plane) → IsBroadPlane p → All IsBroadPlane es → IsBroadPlane (last_or p es)
broad_last p [] v h = v
broad_last p (e ∷ es) v h = broad_last e es (All-head IsBroadPlane e es h) (All-tail IsBroadPlane e es h)
