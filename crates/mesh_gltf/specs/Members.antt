-- Members of JSON objects
use Rattle.std.specs.Prelude.{ℕ, ◌^◌, List, [], Option, None, Some, option_and_then}
use Rattle.mesh_number.specs.Number.Naturals.{below}
use Rattle.serde_json.specs.Data.{Data, Items, no_items, item}
use Rattle.serde_json.specs.Find.{get, at, as_number, as_array, as_u64}
use Rattle.mesh_gltf.specs.Heads.{with_head}

-- a natural number below 2^32: no index, count or offset of a file is larger
abbrev pub natural : Data → Option ℕ
natural value = below (2 ^ 32) (option_and_then as_u64 (as_number value))

-- the member of this name, a natural number
unfoldable pub natural_at : List ℕ → Data → Option ℕ
natural_at key value = option_and_then natural (get key value)

abbrev pub or_missing : ℕ → Option Data → Option ℕ
or_missing missing None = Some missing
or_missing missing (Some value) = natural value

-- the same, where a member that is missing stands for a number
unfoldable pub natural_or : ℕ → List ℕ → Data → Option ℕ
natural_or missing key value = or_missing missing (get key value)

-- the item of an array in the member of this name
unfoldable pub item_in : List ℕ → ℕ → Data → Option Data
item_in key index value = option_and_then (at index) (get key value)

-- the items, if all of them are natural numbers
abbrev pub naturals : Items → Option (List ℕ)
naturals no_items = Some []
naturals (item d ds) = with_head (natural d) (naturals ds)

abbrev pub naturals_or_none : Option Data → Option (List ℕ)
naturals_or_none None = Some []
naturals_or_none (Some value) = option_and_then naturals (as_array value)

-- the natural numbers in the member of this name; none where the member is missing
unfoldable pub naturals_at : List ℕ → Data → Option (List ℕ)
naturals_at key value = naturals_or_none (get key value)
