-- The chord in which the plane of one triangle cuts another, and what it shows about the two
use Rattle.std.specs.Prelude.{◌≡◌, ◌⊎◌, ⊤, Bool, true, not, ◌&&◌, ◌||◌, List, map}
use Rattle.std.specs.Prelude.{ℤ, pos, ◌+ℤ◌, ◌-ℤ◌, ◌*ℤ◌, neg_ℤ, ◌<ℤ◌, ◌≤ℤ◌}
use Rattle.std.specs.List.{list_any, list_all}
use Rattle.ember_algebra.specs.Sign.{is_negative, is_zero, is_positive}
use Rattle.ember_pairs.specs.declared.by_edges.ByEdges.{ByEdges}
use Rattle.ember_pairs.specs.declared.by_edges.ByEdges.TheVariants as by_edges
use Rattle.ember_width.specs.declared.heights.Heights.{Heights}
use Rattle.ember_pairs.specs.declared.chords.CornerName.{CornerName}
use Rattle.ember_pairs.specs.declared.chords.CornerName.TheVariants.{A, B, C}
use Rattle.ember_pairs.specs.declared.chords.LoneCorner.{LoneCorner}
use Rattle.ember_pairs.specs.declared.chords.ChordHeights.{ChordHeights}

-- the same heights, but that of this corner first
abbrev pub turned : CornerName → Heights → Heights
turned A h = h
turned B h = record { a = h.b; b = h.c; c = h.a }
turned C h = record { a = h.c; b = h.a; c = h.b }

-- the heights over the plane with the opposite front
abbrev pub opposite_heights : Heights → Heights
opposite_heights h = record { a = neg_ℤ h.a; b = neg_ℤ h.b; c = neg_ℤ h.c }

-- the first corner is in front of the plane, and no other is
pub record IsFirstAlone (h : Heights) : Type 0 where
  pub first : pos 0 <ℤ h.a
  pub second : h.b ≤ℤ pos 0
  pub third : h.c ≤ℤ pos 0

-- of a triangle with the heights h over a plane, this corner alone lies strictly on one side of it
pub record IsLone (h : Heights) (lone : LoneCorner) : Type 0 where
  pub over : (lone.over ≡ turned lone.name h) ⊎ (lone.over ≡ turned lone.name (opposite_heights h))
  pub alone : IsFirstAlone lone.over

-- ---- the chord
-- its first end lies on the edge from the lone corner to the second one, its second end on that to the third.
-- The height of an end over an edge plane, times a positive number: `lone` and `next` are the heights of the edge's two
-- corners over the plane that cuts, `from` and `to` those over the edge plane. The end is the sum of the
-- two corners with
-- the weights -next and lone
abbrev pub end_height : ℤ → ℤ → ℤ → ℤ → ℤ
end_height lone next from to = lone *ℤ to -ℤ next *ℤ from

-- the heights of the chord, by those of the triangle's corners over the edge plane. The middle is the sum of both ends
abbrev pub chord_heights : LoneCorner → Heights → ChordHeights
chord_heights lone edge =
    let over = lone.over in let from = turned lone.name edge in
    let first = end_height over.a over.b from.a from.b in let second = end_height over.a over.c from.a from.c in
    record { first = first; second = second; middle = first +ℤ second }

-- no end is behind the plane, and not both are on it
abbrev pub is_beyond : ChordHeights → Bool
is_beyond c = not (is_negative c.first) && not (is_negative c.second) && not (is_zero c.first && is_zero c.second)

-- ---- several edge planes
-- the heights of the chord over each of them
abbrev pub chord_over : LoneCorner → List Heights → List ChordHeights
chord_over lone edges = map (λ edge. chord_heights lone edge) edges

-- the first end is behind all of them
abbrev pub is_first_behind : List ChordHeights → Bool
is_first_behind chord = list_all (λ c. is_negative c.first) chord

-- the second end is behind all of them
abbrev pub is_second_behind : List ChordHeights → Bool
is_second_behind chord = list_all (λ c. is_negative c.second) chord

-- the middle is in front of none of them
abbrev pub is_middle_within : List ChordHeights → Bool
is_middle_within chord = list_all (λ c. not (is_positive c.middle)) chord

-- the two other corners are on the plane that cuts, so the chord is an edge
abbrev pub is_edge : LoneCorner → Bool
is_edge lone = is_zero lone.over.b && is_zero lone.over.c

-- an end is behind all of them, or the middle is in front of none and the chord isn't an edge
abbrev pub is_within : LoneCorner → List ChordHeights → Bool
is_within lone chord =
    is_first_behind chord || (is_second_behind chord || (not (is_edge lone) && is_middle_within chord))

-- ---- what it shows
-- h and `edges` are the heights of a triangle over a plane that cuts it and over several edge planes
-- the chord lies beyond one of the edge planes
pub record HasChordBeyond (h : Heights) (edges : List Heights) : Type 0 where
  pub lone : LoneCorner
  pub is_lone : IsLone h lone
  pub beyond : list_any is_beyond (chord_over lone edges) ≡ true

-- an end of the chord or its middle lies within all of them
pub record HasChordWithin (h : Heights) (edges : List Heights) : Type 0 where
  pub lone : LoneCorner
  pub is_lone : IsLone h lone
  pub within : is_within lone (chord_over lone edges) ≡ true

-- what the chord shows, as far as it is known
abbrev pub IsByChord : Heights → List Heights → ByEdges → Type 0
IsByChord h edges by_edges.Apart = HasChordBeyond h edges
IsByChord h edges by_edges.Met = HasChordWithin h edges
IsByChord h edges by_edges.Unknown = ⊤
