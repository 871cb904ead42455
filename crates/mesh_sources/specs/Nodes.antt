-- Items, nodes, and what a search has found
use Rattle.std.specs.Prelude.{◌≡◌, ◌≢◌, ◌≤◌, ◌<◌, ℕ, ℤ, ◌≤ℤ◌, nat_lt, Bool, true, false, IsTrue, Option, Some}
use Rattle.std.specs.Prelude.{List, map, All, Contains, MatchOption, slice_get}
use Rattle.ember_model.specs.declared.tri.Tri.{Tri}
use Rattle.ember_model.specs.Planes.{support_of}
use Rattle.ember_model.specs.Valid.{IsValidTri}
use Rattle.mesh_sources.specs.declared.facet.Facet.{Facet}
use Rattle.mesh_sources.specs.declared.items.Item.{Item}
use Rattle.mesh_sources.specs.declared.nodes.Bounds.{Bounds}
use Rattle.mesh_sources.specs.declared.nodes.Node.{Node}
use Rattle.mesh_sources.specs.declared.source.Source.{Source}
use Rattle.mesh_sources.specs.declared.spans.SpaceBox.{SpaceBox}
use Rattle.mesh_sources.specs.Marks.{HasMark}
use Rattle.mesh_sources.specs.Places.{is_turned, IsPlace, spots_of}
use Rattle.mesh_sources.specs.Spans.{IsSpanWithin, IsBoxWithin, IsBoxAround, IsBoxOver, HaveCommon, HaveCommonBox}

-- ---- items
-- the item is the triangle with its number in the scene, and has the mark of its plane
pub record IsItem (scene : List Tri) (it : Item) : Type 0 where
  pub here : slice_get scene it.number ≡ Some it.tri
  pub valid : IsValidTri it.tri
  pub mark : HasMark (support_of it.tri) it.mark

-- the item has the mark of its triangle's plane
abbrev pub HasItsMark : Item → Type 0
HasItsMark it = HasMark (support_of it.tri) it.mark

-- an item with the number
pub record HasItem (items : List Item) (number : ℕ) : Type 0 where
  pub item : Item
  pub inside : Contains items item
  pub is : item.number ≡ number

-- items of the first triangles of the scene, each with its number
pub record AreItems (scene : List Tri) (count : ℕ) (items : List Item) : Type 0 where
  pub items_are : All (IsItem scene) items
  pub each : (i : ℕ) → i < count → HasItem items i

-- ---- bounds
pub record AreBoundsWithin (b c : Bounds) : Type 0 where
  pub mark : IsSpanWithin b.mark c.mark
  pub around : IsBoxWithin b.around c.around

-- the bounds have the triangle: the mark of its plane, and its box
pub record AreBoundsOf (b : Bounds) (t : Tri) : Type 0 where
  pub mark : ℤ
  pub has_mark : HasMark (support_of t) mark
  pub from : b.mark.low ≤ℤ mark
  pub to : mark ≤ℤ b.mark.high
  pub around : SpaceBox
  pub is_box : IsBoxAround around t
  pub within : IsBoxWithin around b.around

-- the bounds are those of the facet
pub record AreBoundsOver (b : Bounds) (f : Facet) : Type 0 where
  pub mark : HasMark f.plane b.mark.low
  pub one : b.mark.high ≡ b.mark.low
  pub box : IsBoxOver b.around (spots_of f.corners)

pub record HaveCommonBounds (b c : Bounds) : Type 0 where
  pub mark : HaveCommon b.mark c.mark
  pub box : HaveCommonBox b.around c.around

-- ---- nodes
-- the bounds have the triangles of the nodes from an index on
abbrev pub AreBoundsFrom : List Node → ℕ → Bounds → Type 0
AreBoundsFrom ns start b = (j : ℕ) (n : Node) → start ≤ j → slice_get ns j ≡ Some n → AreBoundsOf b n.item.tri

-- the bounds of the node at an index have the triangles of the nodes from its start to it
pub record IsNode (ns : List Node) (index : ℕ) (n : Node) : Type 0 where
  pub start : n.start ≤ index
  pub bounds : (j : ℕ) (m : Node) → n.start ≤ j → j ≤ index → slice_get ns j ≡ Some m → AreBoundsOf n.bounds m.item.tri

abbrev pub AreNodes : List Node → Type 0
AreNodes ns = (i : ℕ) (n : Node) → slice_get ns i ≡ Some n → IsNode ns i n

abbrev pub items_in : List Node → List Item
items_in ns = map (λ n. n.item) ns

-- ---- what a search has found
-- each place among the nodes from an index on has the property
abbrev pub EachPlaceFrom : List Node → ℕ → Facet → (Item → Type 0) → Type 0
EachPlaceFrom ns end f P = (j : ℕ) (n : Node) → end ≤ j → slice_get ns j ≡ Some n → IsPlace f n.item.tri → P n.item

-- an item of the nodes that is a place
pub record IsPlaceIn (ns : List Node) (f : Facet) (it : Item) : Type 0 where
  pub inside : Contains (items_in ns) it
  pub place : IsPlace f it.tri

-- a place with another number
pub record IsOtherIn (ns : List Node) (f : Facet) (number : ℕ) : Type 0 where
  pub item : Item
  pub is : IsPlaceIn ns f item
  pub other : item.number ≢ number

-- the first place, by number, among the nodes from an index on
pub record IsFirstFrom (ns : List Node) (end : ℕ) (f : Facet) (s : Source) : Type 0 where
  pub item : Item
  pub is : IsPlaceIn ns f item
  pub number : item.number ≡ s.triangle
  pub turned : s.turned ≡ is_turned f.plane item.tri
  pub first : EachPlaceFrom ns end f (λ it. s.triangle ≤ it.number)
  pub several : IsTrue s.several → IsOtherIn ns f s.triangle
  pub single : s.several ≡ false → EachPlaceFrom ns end f (λ it. it.number ≡ s.triangle)

abbrev pub IsFoundFrom : List Node → ℕ → Facet → Option Source → Type 0
IsFoundFrom ns end f found = MatchOption found (EachPlaceFrom ns end f (λ it. ⊥)) (λ s. IsFirstFrom ns end f s)

-- the earlier of two sources, and that there are several if they aren't one
abbrev pub earlier : Bool → Bool → Source → Source → Source
earlier true b s t = record t { several = true }
earlier false true s t = record s { several = true }
earlier false false s t = s

abbrev pub first_of : Source → Source → Source
first_of s t = earlier (nat_lt t.triangle s.triangle) (nat_lt s.triangle t.triangle) s t
