-- The references of a face.
use Rattle.std.specs.Prelude.{ℕ, ◌-◌, Bool, ◌&&◌, List, [], ◌∷◌, ◌++◌, if◌then◌else◌, ◌==◌, nat_lt}
use Rattle.std.specs.Prelude.{length, reverse, slice_get, Option, None, Some, Result, Ok, Err}
use Rattle.std.specs.List.{list_all}
use Rattle.std.specs.Char.{is_ascii_digit}
use Rattle.ember_dec.specs.Digits.{number_from}
use Rattle.ember_dec.specs.Decimal.{is_minus}
use Rattle.ember_model.specs.declared.point.Corner.{Corner}
use Rattle.ember_model.specs.declared.tri.Tri.{Tri}
use Rattle.ember_obj.specs.declared.fault.ObjFault.{ObjFault}
use Rattle.ember_obj.specs.declared.fault.ObjFault.TheVariants.{Word, Index}
use Rattle.ember_obj.specs.Scan.{before}

-- the byte `/`
abbrev pub is_slash : ℕ → Bool
is_slash b = b == 47

-- one or more digits
abbrev pub is_number : List ℕ → Bool
is_number text = nat_lt 0 (length text) && list_all is_ascii_digit text

-- the text after a minus at its beginning
abbrev pub size_digits : List ℕ → List ℕ
size_digits [] = []
size_digits (b ∷ bs) = if b == 45 then bs else b ∷ bs

-- the corner with this number in the list, counted from 1
abbrev pub nth_corner : List Corner → ℕ → Option Corner
nth_corner corners k = if k == 0 then None else slice_get corners (k - 1)

-- the vertex, or the fault of an index that names none
abbrev pub named_or_fault : ℕ → Option Corner → Result Corner ObjFault
named_or_fault line None = Err (Index line)
named_or_fault line (Some corner) = Ok corner

-- the vertex that an index names: with a minus it counts back from the vertex that is defined last
abbrev pub vertex_at : ℕ → List Corner → List ℕ → Result Corner ObjFault
vertex_at line vertices index =
    if is_number (size_digits index)
    then named_or_fault line (nth_corner (if is_minus index then reverse vertices
    else vertices) (number_from 0 (size_digits index)))
    else Err (Word line)

-- the vertex that a reference names by the bytes before its first slash
abbrev pub vertex_named : ℕ → List Corner → List ℕ → Result Corner ObjFault
vertex_named line vertices reference = vertex_at line vertices (before is_slash reference)

-- corners in front of those that follow, unless there is a fault
abbrev pub in_front : List Corner → Result (List Corner) ObjFault → Result (List Corner) ObjFault
in_front corners (Err fault) = Err fault
in_front corners (Ok more) = Ok (corners ++ more)

abbrev pub with_corner : Result Corner ObjFault → Result (List Corner) ObjFault → Result (List Corner) ObjFault
with_corner (Err fault) rest = Err fault
with_corner (Ok corner) rest = in_front (corner ∷ []) rest

-- the vertices that references name, or the first fault among them
abbrev pub corners_of : ℕ → List Corner → List (List ℕ) → Result (List Corner) ObjFault
corners_of line vertices [] = Ok []
corners_of line vertices (reference ∷ references) =
    with_corner (vertex_named line vertices reference) (corners_of line vertices references)

-- the triangles of one corner with each two neighbours of a row of corners
abbrev pub fan_round : ℕ → Corner → List Corner → List Tri
fan_round mesh first [] = []
fan_round mesh first (p ∷ []) = []
fan_round mesh first (p ∷ q ∷ more) =
    (record { a = first; b = p; c = q; mesh = mesh }) ∷ fan_round mesh first (q ∷ more)

-- the triangles of a face with these corners
abbrev pub fan : ℕ → List Corner → List Tri
fan mesh [] = []
fan mesh (first ∷ others) = fan_round mesh first others
