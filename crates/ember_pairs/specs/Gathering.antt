-- The pairs of several lists in one, each once
use Rattle.std.specs.Prelude.{◌↔◌, List, flat_map, Contains}
use Rattle.std.specs.List.Sorted.{IsStrictlySortedBy}
use Rattle.std.specs.Ordering.{nat_cmp, ordering_then}
use Rattle.std.specs.declared.cmp.Ordering.{Ordering}
use Rattle.ember_pairs.specs.declared.pair.Pair.{Pair}

-- by the first number, and then by the second
abbrev pub pair_order : Pair → Pair → Ordering
pair_order p q = ordering_then (nat_cmp p.low q.low) (nat_cmp p.high q.high)

-- all members of these lists, one list after another
abbrev pub together : List (List Pair) → List Pair
together items = flat_map (λ ps. ps) items

-- the pairs that occur in some list, each once, in order
pub record AreGathered (items : List (List Pair)) (ps : List Pair) : Type 0 where
  pub in_order : IsStrictlySortedBy pair_order ps
  pub same : (p : Pair) → Contains ps p ↔ Contains (together items) p
