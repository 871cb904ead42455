use Rattle.ember_run.proofs.TextsOfLeaves.{pairs_text_if}
use Rattle.ember_run.proofs.pairs.text_of_pairs.Goals as goal

pub returns : goal.returns
returns g c =
    pairs_text_if _ _ _ _ _ c.gathered_pairs_are_all.ensures c.in_ok-items.ensures c.in_ok-pairs.ensures c.items.ensures c.pairs_text.ensures
