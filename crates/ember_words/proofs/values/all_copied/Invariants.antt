use Rattle.std.proofs.Common.{◌≡◌, map, take, List, ℕ}
use Rattle.std.specs.Borrow.{Bor}
use Rattle.ember_words.proofs.values.all_copied.Given as goal

abbrev pub invariant-loop-text : goal.invariant-loop-text
invariant-loop-text l = l.copies.items ≡ map (λ (text : Bor (List ℕ)). text.now) (take l.text-index l.texts)
