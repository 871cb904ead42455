use Rattle.std.proofs.Common.{◌≡◌, ◌++◌, flat_map, take}
use Rattle.mesh_info.specs.Page.Pages.{item_text}
use Rattle.mesh_info.proofs.page.texts.put_items.Given as goal

abbrev pub invariant-loop-name : goal.invariant-loop-name
invariant-loop-name l = l.out.items ≡ l.fn.out.items ++ flat_map item_text (take l.name-index l.names)
