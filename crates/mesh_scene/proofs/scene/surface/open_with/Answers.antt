use Rattle.std.proofs.Common.{sym, subst, All}
use Rattle.ember_model.specs.Limits.{broad_limit}
use Rattle.ember_model.specs.Within.{IsTriWithin}
use Rattle.ember_balance.proofs.Edges.{tris_broad}
use Rattle.mesh_scene.proofs.scene.surface.open_with.Goals as goal

pub count_loose-requires-clause-within : goal.count_loose-requires-clause-within
count_loose-requires-clause-within c =
    subst (All (IsTriWithin broad_limit)) (sym c.items.ensures) (tris_broad c.args.soup.now.tris c.args.soup.now.valid)
