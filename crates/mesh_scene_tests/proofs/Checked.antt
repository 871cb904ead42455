-- Items that are looked at one after another.
use Rattle.std.proofs.Common.{ℕ, ◌+◌, ◌<◌, List, length, get_or, take, sym, subst}
use Rattle.std.specs.List.{All}
use Rattle.std.proofs.lemmas.List.{take_more}
use Rattle.std.proofs.lemmas.List.Elements.{All-push}

-- what holds of the items so far and of the next one holds of all of them
pub All-next : {X : Type 0} (P : X → Type 0) (xs : List X) (i : ℕ) (d : X) → i < length xs → All P (take i xs) → P (get_or xs i d) → All P (take (i + 1) xs)
All-next {X} P xs i d l h p = subst (All P) (sym (take_more xs i d l)) (All-push P (take i xs) (get_or xs i d) h p)
