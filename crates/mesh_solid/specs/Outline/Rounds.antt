-- Faces whose written edges lead round them, and those whose edges don't
use Rattle.std.specs.Prelude.{◌≢◌, ◌⊎◌, ⊤, List, [], ◌∷◌, map, pos}
use Rattle.std.specs.List.{Any}
use Rattle.ember_model.specs.declared.point.Spot.{Spot}
use Rattle.ember_model.specs.Edges.{RingEdge}
use Rattle.ember_model.specs.FaceFiles.{WrittenFace}
use Rattle.ember_model.specs.Planes.{value_at}
use Rattle.ember_poly.specs.Rings.{Side, IsConvexRing}
use Rattle.mesh_solid.specs.declared.outline.fault.OutlineFault.{OutlineFault}
use Rattle.mesh_solid.specs.declared.outline.fault.OutlineFault.TheVariants.{OffPlane, OffEdge, NotRound, OutOfMemory}

-- ---- convex polygons
-- the edge as a side of a ring, without an index
abbrev pub side_of : RingEdge → Side
side_of e = record { plane = e.plane; corner = e.start; plane_index = 0 }

-- the written edges lead once around a convex polygon, counter-clockwise as seen from the front: each starts where its
-- plane and that of the edge before meet in the face's plane, turns from that edge counter-clockwise, and has all
-- corners but its own two behind its plane
abbrev pub IsRound : WrittenFace → Type 0
IsRound w = IsConvexRing w.support (map side_of w.edges)

-- ---- faults
-- a corner isn't on the plane of the face
abbrev pub IsOffPlane : WrittenFace → Type 0
IsOffPlane w = Any (λ e. value_at w.support e.start ≢ pos 0) w.edges

-- the edge starts or ends off its plane
abbrev pub IsOff : RingEdge → Spot → Type 0
IsOff e end = (value_at e.plane e.start ≢ pos 0) ⊎ (value_at e.plane end ≢ pos 0)

-- where the first of the edges starts, or the other corner if there is none
abbrev pub start_or : Spot → List RingEdge → Spot
start_or v [] = v
start_or v (e ∷ es) = e.start

-- some edge starts or ends off its plane, where each ends at the start of the next, and the last one at `last`
abbrev pub HasEdgeOff : Spot → List RingEdge → Type 0
HasEdgeOff last [] = ⊥
HasEdgeOff last (e ∷ es) = IsOff e (start_or last es) ⊎ HasEdgeOff last es

-- once round
abbrev pub HasEdgeOffRound : List RingEdge → Type 0
HasEdgeOffRound [] = ⊥
HasEdgeOffRound (e ∷ es) = HasEdgeOff e.start (e ∷ es)

abbrev pub IsOffEdge : WrittenFace → Type 0
IsOffEdge w = HasEdgeOffRound w.edges

abbrev pub IsNotRound : WrittenFace → Type 0
IsNotRound w = IsRound w → ⊥

-- why the written edges aren't the outline; or want of memory
abbrev pub IsOutlineFault : WrittenFace → OutlineFault → Type 0
IsOutlineFault w OffPlane = IsOffPlane w
IsOutlineFault w OffEdge = IsOffEdge w
IsOutlineFault w NotRound = IsNotRound w
IsOutlineFault w OutOfMemory = ⊤
