use Rattle.std.proofs.Common.{sym, subst, All}
use Rattle.ember_model.specs.Limits.{broad_limit}
use Rattle.ember_model.specs.Within.{IsTriWithin}
use Rattle.ember_balance.proofs.Edges.{tris_broad}
use Rattle.ember_box_tests.proofs.balance.loose_of.Goals as goal

pub balance-requires-clause-within : goal.balance-requires-clause-within
balance-requires-clause-within c =
    subst (All (IsTriWithin broad_limit)) (sym c.items.ensures) (tris_broad c.in_ok-soup.soup.tris c.in_ok-soup.soup.valid)
