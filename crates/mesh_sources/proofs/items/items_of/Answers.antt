use Rattle.std.proofs.Common.{length}
use Rattle.mesh_sources.proofs.ItemLists.{items_permuted}
use Rattle.mesh_sources.proofs.items.items_of.Goals as goal

pub returns : goal.returns
returns c =
    items_permuted c.args.scene.now (length c.args.scene.now) c.in_ok-items.items.items
    c.sort_unstable_by_key.new.self.items c.in_ok-items.ensures c.sort_unstable_by_key.ensures.permutation
